-- The names so far are those of the locks so far.
use Rattle.std.proofs.Common.{◌≡◌, map, take}
use Rattle.rapid_text.specs.Canonical.{name_at}
use Rattle.serde_json.specs.View.{view}
use Rattle.triage_report.specs.json.Objects.{text}
use Rattle.triage_report.proofs.json.accesses.names_of.Given as goal

abbrev pub invariant-loop-lock : goal.invariant-loop-lock
invariant-loop-lock l = map view l.names.items ≡ map (λ n. text (name_at l.indexed.locks n)) (take l.lock-index l.locks)
