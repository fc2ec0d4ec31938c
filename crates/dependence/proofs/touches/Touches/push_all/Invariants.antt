use Rattle.std.proofs.Common.{◌≡◌, ◌++◌, ◌∷◌, [], ℕ, List, cond, take}
use Rattle.moves.specs.Commands.{touches_any}
use Rattle.dependence.specs.Lists.{under}
use Rattle.dependence.proofs.touches.Touches.push_all.Given as goal

abbrev pub invariant-loop-command : goal.invariant-loop-command
invariant-loop-command l = (x : List ℕ) → under l.self x ≡ cond (touches_any (take l.command-index l.commands) x) (under l.fn.self x ++ l.entry ∷ []) (under l.fn.self x)
