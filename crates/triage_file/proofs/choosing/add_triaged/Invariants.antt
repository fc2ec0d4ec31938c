use Rattle.std.proofs.Common.{◌≡◌, ◌||◌, Some, take}
use Rattle.race_triage.specs.Chosen.{is_known}
use Rattle.race_triage.specs.declared.verdicts.Verdict.{Verdict}
use Rattle.triage_file.specs.Matching.{is_left_out}
use Rattle.triage_file.proofs.choosing.add_triaged.Given as goal

abbrev pub invariant-loop-verdict : goal.invariant-loop-verdict
invariant-loop-verdict l = (v : Verdict) → is_known (Some l.known.keys) v
    ≡ (is_known (Some l.fn.known.keys) v || is_left_out l.fn.indexed l.fn.numbers l.fn.entries (take l.verdict-index l.fn.verdicts) v)
