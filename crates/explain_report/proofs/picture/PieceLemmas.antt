-- Pieces that are appended one after another are appended as one.
use Rattle.std.proofs.Common.{◌≡◌, ℕ, List, [], ◌++◌, append_assoc, ap, ◌∙◌}

pub two_pieces : (old first new x y : List ℕ) → first ≡ old ++ x → new ≡ first ++ y → new ≡ old ++ (x ++ y)
two_pieces old first new x y e1 e2 =
    let whole : new ≡ (old ++ x ++ y) = cc in
    whole ∙ simp append_assoc

module _ (old first second : List ℕ) (x y z : List ℕ) (e1 : first ≡ old ++ x) (e2 : second ≡ first ++ y) where
  pub three_pieces : (new : List ℕ) → new ≡ second ++ z → new ≡ old ++ (x ++ y ++ z)
  three_pieces new e3 =
      let whole : new ≡ (old ++ x ++ y ++ z) = cc in
      whole ∙ simp append_assoc

  pub four_pieces : (third new v : List ℕ) → third ≡ second ++ z → new ≡ third ++ v → new ≡ old ++ (x ++ y ++ z ++ v)
  four_pieces third new v e3 e4 =
      let whole : new ≡ (old ++ x ++ y ++ z ++ v) = cc in
      whole ∙ simp append_assoc

  pub five_pieces :
      (third fourth new u v : List ℕ) → third ≡ second ++ z → fourth ≡ third ++ u → new ≡ fourth ++ v → new ≡ old ++ (x ++ y ++ z ++ u ++ v)
  five_pieces third fourth new u v e3 e4 e5 =
      let whole : new ≡ (old ++ x ++ y ++ z ++ u ++ v) = cc in
      whole ∙ simp append_assoc

  pub six_pieces :
      (third fourth fifth new u v w : List ℕ) → third ≡ second ++ z → fourth ≡ third ++ u → fifth ≡ fourth ++ v → new ≡ fifth ++ w
      → new ≡ old ++ (x ++ y ++ z ++ u ++ v ++ w)
  six_pieces third fourth fifth new u v w e3 e4 e5 e6 =
      let whole : new ≡ (old ++ x ++ y ++ z ++ u ++ v ++ w) = cc in
      whole ∙ simp append_assoc

  pub eight_pieces :
      (third fourth fifth sixth seventh new u v w s t : List ℕ) → third ≡ second ++ z → fourth ≡ third ++ u → fifth ≡ fourth ++ v → sixth ≡ fifth ++ w
      → seventh ≡ sixth ++ s → new ≡ seventh ++ t → new ≡ old ++ (x ++ y ++ z ++ u ++ v ++ w ++ s ++ t)
  eight_pieces third fourth fifth sixth seventh new u v w s t e3 e4 e5 e6 e7 e8 =
      let whole : new ≡ (old ++ x ++ y ++ z ++ u ++ v ++ w ++ s ++ t) = cc in
      whole ∙ simp append_assoc

-- what is appended to nothing stands alone, and so does its copy
pub alone : (empty text words copy : List ℕ) → empty ≡ [] → copy ≡ text → text ≡ empty ++ words → copy ≡ words
alone empty text words copy none copied e = copied ∙ (e ∙ ap (λ (xs : List ℕ). xs ++ words) none)
