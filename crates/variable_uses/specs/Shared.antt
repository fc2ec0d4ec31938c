-- The variables on which two sets of events conflict. `T` is the events of a trace, named by their numbers; `ones` and
-- `others` say of each event whether it is in the set.
use Rattle.std.specs.Prelude.{◌≡◌, ◌≢◌, ℕ, ◌||◌, Bool, true, false, List, Some, slice_get, slice_index_or}
use Rattle.rapid_text.specs.Operations.{is_write}
use Rattle.rapid_text.specs.declared.event.Event.{Event}
use Rattle.event_index.specs.Relations.{is_access}

-- two events of different threads, one of each set, access the variable, and at least one of them writes it
pub record IsShared (T : List Event) (ones others : List Bool) (x : ℕ) : Type 0 where
  pub a : ℕ
  pub b : ℕ
  pub v : Event
  pub w : Event
  pub one : slice_index_or ones a false ≡ true
  pub other : slice_index_or others b false ≡ true
  pub first : slice_get T a ≡ Some v
  pub second : slice_get T b ≡ Some w
  pub threads : v.thread ≢ w.thread
  pub v_accesses : is_access x v.op ≡ true
  pub w_accesses : is_access x w.op ≡ true
  pub writes : (is_write x v.op || is_write x w.op) ≡ true
