-- Lines that are appended one after another are appended as one.
use Rattle.std.proofs.Common.{◌≡◌, ℕ, List, ◌++◌, append_assoc, ◌∙◌}

pub four_pieces : (old first second third new x y z v : List ℕ) → first ≡ old ++ x → second ≡ first ++ y → third ≡ second ++ z → new ≡ third ++ v → new ≡ old ++ (x ++ y ++ z ++ v)
four_pieces old first second third new x y z v e1 e2 e3 e4 =
    let whole : new ≡ (old ++ x ++ y ++ z ++ v) = cc in
    whole ∙ simp append_assoc
