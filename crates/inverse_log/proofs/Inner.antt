-- A bench by its fields.
use Rattle.std.specs.Arc.{arc_value}
use Rattle.inverse_log.specs.declared.bench.Bench.TheInside.{Inside}
use Rattle.inverse_log.specs.Kept.{IsBench}
use Rattle.inverse_log.specs.Log.{Benched}

-- its invariant
abbrev pub Keeps : Inside → Type 0
Keeps s = IsBench (arc_value s.indexed) s.log.items s.rows.rows s.board s.steps.items s.touches s.clients s.rows.edits

-- what contracts see of it
abbrev pub benched : Inside → Benched
benched s = record { trace = arc_value s.indexed; log = s.log.items }
