use Rattle.std.proofs.Common.{◌≡◌, length, true}
use Rattle.serde_json.specs.View.{view}
use Rattle.race_parts.specs.Kept.{IsKeeping}
use Rattle.race_parts.proofs.LineLemmas.{AreMarked}
use Rattle.race_parts.proofs.lines.rows_in.Given as goal

abbrev pub invariant-lines : goal.invariant-lines
invariant-lines l = AreMarked l.text l.rest (view l.begun.head) l.marks.items × (l.all ≡ true → IsKeeping l.text l.rest l.rows.items)

abbrev pub decreases-lines : goal.decreases-lines
decreases-lines l = length l.rest
