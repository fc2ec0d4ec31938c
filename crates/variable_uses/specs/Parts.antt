-- The columns of a table, by the numbers of rows. No public clause cites this module. `r` is the recording of a trace,
-- and `numbers` has the number of each event's row.
use Rattle.std.specs.Prelude.{◌≡◌, ℕ, nat_lt, Bool, List, length, slice_get, slice_index, Some, Vec}
use Rattle.std.specs.declared.alloc.Global.{Global}
use Rattle.rapid_text.specs.Recording.{Recording}
use Rattle.variable_uses.specs.Ends.{AreNamedBefore, is_end_of}
use Rattle.variable_uses.specs.Numbers.{has_number}
use Rattle.variable_uses.specs.Order.{IsSide}
use Rattle.variable_uses.specs.Table.{locks_held}
use Rattle.variable_uses.specs.declared.columns.LockCount.{LockCount}
use Rattle.variable_uses.specs.declared.order.Side.{Side}

-- the locks of each row, and those of all rows
pub record AreHolds (r : Recording) (numbers : List ℕ) (rows : ℕ) (holds : Vec (Vec LockCount Global) Global × Vec LockCount Global) : Type 0 where
  pub len : length holds.0.items ≡ rows
  pub locks : (k : ℕ) (v : Vec LockCount Global) → slice_get holds.0.items k ≡ Some v → v.items ≡ locks_held r (has_number numbers k)
  pub totals : holds.1.items ≡ locks_held r (λ e. nat_lt 0 (slice_index numbers e))

-- the flag and the side of each row
pub record IsRace (r : Recording) (numbers : List ℕ) (named : List Bool) (rows : ℕ) (race : Vec Bool Global × Vec Side Global) : Type 0 where
  pub len : length race.0.items ≡ rows
  pub sides_len : length race.1.items ≡ rows
  pub flags : AreNamedBefore numbers named (length r.events) race.0.items
  pub sides : (k : ℕ) (side : Side) → slice_get race.1.items k ≡ Some side → IsSide r.events (has_number numbers k) (is_end_of numbers race.0.items) side
