-- What several reads and writes in a row do to known bytes.
use Rattle.std.proofs.Common.{ℕ, List, ◌++◌, Option, Some, None, sym, ap, ◌∙◌, append_assoc}
use Rattle.std.specs.Io.KnownBytes.{Appends, Consumes}

-- two writes in a row
pub Appends-then : (a b c : Option (List ℕ)) (xs ys : List ℕ) → Appends a b xs → Appends b c ys → Appends a c (xs ++ ys)
Appends-then None b c xs ys p q = tt
Appends-then (Some a) None c xs ys p q = absurd p
Appends-then (Some a) (Some b) None xs ys p q = absurd q
Appends-then (Some a) (Some b) (Some c) xs ys p q = q ∙ ap (λ s. s ++ ys) p ∙ append_assoc a xs ys

-- two reads in a row
pub Consumes-then : (a b c : Option (List ℕ)) (xs ys : List ℕ) → Consumes a b xs → Consumes b c ys → Consumes a c (xs ++ ys)
Consumes-then None b c xs ys p q = tt
Consumes-then (Some a) None c xs ys p q = absurd p
Consumes-then (Some a) (Some b) None xs ys p q = absurd q
Consumes-then (Some a) (Some b) (Some c) xs ys p q = p ∙ ap (λ s. xs ++ s) q ∙ sym (append_assoc xs ys c)
