-- Pieces that are appended one after another are appended as one.
use Rattle.std.proofs.Common.{◌≡◌, ℕ, List, [], ◌++◌, append_assoc, sym, ap, ◌∙◌}

module _ (old first second : List ℕ) (x y z : List ℕ) (e1 : first ≡ old ++ x) (e2 : second ≡ first ++ y) where
  pub three_pieces : (new : List ℕ) → new ≡ second ++ z → new ≡ old ++ (x ++ y ++ z)
  three_pieces new e3 =
      let whole : new ≡ (old ++ x ++ y ++ z) = cc in
      whole ∙ simp append_assoc

  pub four_pieces : (third new v : List ℕ) → third ≡ second ++ z → new ≡ third ++ v → new ≡ old ++ (x ++ y ++ z ++ v)
  four_pieces third new v e3 e4 =
      let whole : new ≡ (old ++ x ++ y ++ z ++ v) = cc in
      whole ∙ simp append_assoc

  pub five_pieces : (third fourth new v w : List ℕ) → third ≡ second ++ z → fourth ≡ third ++ v → new ≡ fourth ++ w → new ≡ old ++ (x ++ y ++ z ++ v ++ w)
  five_pieces third fourth new v w e3 e4 e5 =
      let whole : new ≡ (old ++ x ++ y ++ z ++ v ++ w) = cc in
      whole ∙ simp append_assoc

pub eight_pieces :
    (old a b c d e f g new s t u v w x y z : List ℕ) → a ≡ old ++ s → b ≡ a ++ t → c ≡ b ++ u → d ≡ c ++ v → e ≡ d ++ w → f ≡ e ++ x → g ≡ f ++ y → new ≡ g ++ z
    → new ≡ old ++ (s ++ t ++ u ++ v ++ w ++ x ++ y ++ z)
eight_pieces old a b c d e f g new s t u v w x y z e1 e2 e3 e4 e5 e6 e7 e8 =
    let whole : new ≡ (old ++ s ++ t ++ u ++ v ++ w ++ x ++ y ++ z) = cc in
    whole ∙ simp append_assoc

-- what stands behind a head is appended with it
pub headed :
    (old empty text seen whole shown new head rest : List ℕ) → empty ≡ [] → text ≡ empty ++ head → seen ≡ rest → whole ≡ text ++ seen → shown ≡ whole
    → new ≡ old ++ shown → new ≡ old ++ (head ++ rest)
headed old empty text seen whole shown new head rest e0 e1 e2 e3 e4 e5 = cc
