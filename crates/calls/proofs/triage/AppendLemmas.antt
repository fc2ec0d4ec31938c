-- Pieces that are appended one after another.
use Rattle.std.proofs.Common.{◌≡◌, ℕ, List, ◌++◌, append_assoc, ◌∙◌}

pub five_pieces :
    (old one two three four five x y z v w : List ℕ) → one ≡ old ++ x → two ≡ one ++ y → three ≡ two ++ z → four ≡ three ++ v
    → five ≡ four ++ w → five ≡ old ++ (x ++ y ++ z ++ v ++ w)
five_pieces old one two three four five x y z v w e1 e2 e3 e4 e5 =
    let whole : five ≡ (old ++ x ++ y ++ z ++ v ++ w) = cc in
    whole ∙ simp append_assoc
