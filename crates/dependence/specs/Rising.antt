-- Numbers that rise. No public clause cites this module.
use Rattle.std.specs.Prelude.{◌<◌, ℕ, List, [], ◌∷◌, All, ⊤}

-- each number is below those after it
abbrev pub Rises : List ℕ → Type 0
Rises [] = ⊤
Rises (x ∷ xs) = All (λ j. x < j) xs × Rises xs
