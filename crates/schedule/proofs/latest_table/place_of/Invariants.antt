use Rattle.std.proofs.Common.{◌≡◌, take, None}
use Rattle.std.specs.Map.{lookup}
use Rattle.schedule.specs.Keys.{key_eq}
use Rattle.schedule.proofs.latest_table.place_of.Given as goal

abbrev pub invariant-loop-at : goal.invariant-loop-at
invariant-loop-at l = lookup (key_eq l.key) (take l.at l.near) ≡ None
