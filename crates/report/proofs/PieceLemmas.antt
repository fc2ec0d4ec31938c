-- Pieces one after another, as the definitions of texts write them.
use Rattle.std.proofs.Common.{◌≡◌, ℕ, List, [], ◌++◌, append-nil, append_assoc, ap, sym, ◌∙◌}

-- words, a piece, words, and a last piece
pub four-pieces : (first second third last found_second found_last : List ℕ)
    → found_second ≡ second → found_last ≡ last
    → first ++ (found_second ++ (third ++ (found_last ++ []))) ≡ first ++ second ++ third ++ last
four-pieces first second third last found_second found_last at_second at_last =
    ap (λ (p : List ℕ). first ++ (p ++ (third ++ (found_last ++ [])))) at_second
    ∙ ap (λ (q : List ℕ). first ++ (second ++ (third ++ q))) (append-nil found_last ∙ at_last)
    ∙ sym (append_assoc first second (third ++ last))
    ∙ sym (append_assoc (first ++ second) third last)
