use Rattle.std.proofs.Common.{◌≡◌, ◌++◌, ℕ, List, length}
use Rattle.window.specs.Moving.{IsMoved}
use Rattle.window.proofs.cutting.Window.append_moved.Given as goal

-- whatever the rest of the line becomes, the line becomes what is written and that
abbrev pub invariant-numbers : goal.invariant-numbers
invariant-numbers l =
    (written : List ℕ)
    × (l.out.items ≡ l.fn.out.items ++ written)
    × ((moved : List ℕ) → IsMoved l.self.prologue l.self.from l.left moved → IsMoved l.self.prologue l.self.from l.line (written ++ moved))

abbrev pub decreases-numbers : goal.decreases-numbers
decreases-numbers l = length l.left
