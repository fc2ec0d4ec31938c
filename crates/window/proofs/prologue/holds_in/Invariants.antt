use Rattle.std.proofs.Common.{◌≡◌, length}
use Rattle.std.specs.List.{flat_map}
use Rattle.event_index.specs.Lookups.{before}
use Rattle.window.specs.Made.{holds_of, owner}
use Rattle.window.proofs.prologue.holds_in.Given as goal

abbrev pub invariant-loop-lock : goal.invariant-loop-lock
invariant-loop-lock l =
    l.holds.items ≡ flat_map (λ i. holds_of l.trace.events l.from l.to (owner l.trace.events l.from (length l.trace.threads) i) i) (before l.lock)
