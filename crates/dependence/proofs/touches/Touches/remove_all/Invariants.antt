use Rattle.std.proofs.Common.{◌≡◌, ℕ, List, true, false, cond, eqb, take}
use Rattle.std.specs.List.{list_any}
use Rattle.moves.specs.Commands.{touches_any}
use Rattle.dependence.specs.Lists.{under, without}
use Rattle.dependence.proofs.touches.Touches.remove_all.Given as goal

abbrev pub invariant-loop-command : goal.invariant-loop-command
invariant-loop-command l =
    ((x : List ℕ) → under l.self x ≡ cond (touches_any (take l.command-index l.commands) x) (without l.entry (under l.fn.self x)) (under l.fn.self x))
    × ((x : List ℕ) → touches_any (take l.command-index l.commands) x ≡ true → list_any (eqb l.entry) (under l.self x) ≡ false)
