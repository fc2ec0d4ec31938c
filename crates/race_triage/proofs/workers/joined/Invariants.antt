use Rattle.std.proofs.Common.{ℕ, ◌<◌, ◌%◌, All, length, slice_index, slice_index_or}
use Rattle.race_groups.specs.declared.kinds.Row.{Row}
use Rattle.race_triage.specs.Verdicts.{AreOn, IsAnswered, IsBelow, IsVerdict}
use Rattle.race_triage.proofs.workers.joined.Given as goal

abbrev pub invariant-loop-at : goal.invariant-loop-at
invariant-loop-at l =
    All (IsVerdict l.found.tables.indexed.now (slice_index l.found.tables.places.now) l.found.effort.tries l.found.effort.apart) l.all.items
    × ((k : ℕ) (d : Row) → k < length l.found.groups.rows.items → k % l.every < l.at
    → IsAnswered l.all.items (slice_index_or l.found.groups.rows.items k d))
    × AreOn l.found.groups.rows.items (IsBelow l.every l.at) l.all.items
