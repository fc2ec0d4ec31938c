-- What holds of two things holds of each in the list of the two.
use Rattle.std.proofs.Common.{zero, suc, [], ◌∷◌, arith}
use Rattle.std.specs.List.{All}

pub All-two : {X : Type 0} (P : X → Type 0) (first second : X) → P first → P second → All P (first ∷ second ∷ [])
All-two P first second at_first at_second zero d within = at_first
All-two P first second at_first at_second (suc zero) d within = at_second
All-two P first second at_first at_second (suc (suc k)) d within = absurd (omega (arith, within))
