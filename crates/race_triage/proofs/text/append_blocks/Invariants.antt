-- The blocks so far are those of the verdicts so far.
use Rattle.std.proofs.Common.{◌≡◌, ◌++◌, take}
use Rattle.race_triage.specs.Texts.{block_texts}
use Rattle.race_triage.proofs.text.append_blocks.Given as goal

abbrev pub invariant-loop-verdict : goal.invariant-loop-verdict
invariant-loop-verdict l = l.out.items ≡ l.fn.out.items ++ block_texts l.indexed (take l.verdict-index l.verdicts)
