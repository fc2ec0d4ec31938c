use Rattle.std.proofs.Common.{◌≡◌, ℕ, ◌<◌, Some}
use Rattle.std.specs.List.{slice_get}
use Rattle.must_order.specs.MustBefore.{IsMustBefore}
use Rattle.variable_uses.proofs.order.is_after_all.Given as goal

abbrev pub invariant-loop-thread : goal.invariant-loop-thread
invariant-loop-thread l = (t f : ℕ) → t < l.thread → slice_get l.lasts t ≡ Some (Some f) → IsMustBefore l.must.events f l.event
