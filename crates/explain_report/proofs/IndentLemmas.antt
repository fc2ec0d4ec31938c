-- Blanks for a step of depth more.
use Rattle.std.proofs.Common.{◌≡◌, ℕ, zero, suc, ◌+◌, List, ◌++◌, codes, add-one, append_assoc, append-nil, refl, sym, ap, ◌∙◌}
use Rattle.explain_report.specs.Chains.{indent_text}

indent-suc : (d : ℕ) → indent_text (suc d) ≡ indent_text d ++ codes "  "
unfolding indent_text
indent-suc zero = refl
indent-suc (suc d) = ap (λ (t : List ℕ). codes "  " ++ t) (indent-suc d)

indent_more : (d : ℕ) → indent_text (d + 1) ≡ indent_text d ++ codes "  "
indent_more d = ap indent_text (add-one d) ∙ indent-suc d

pub indented : (base old new : List ℕ) (d : ℕ) → old ≡ base ++ indent_text d → new ≡ old ++ codes "  " → new ≡ base ++ indent_text (d + 1)
indented base old new d is e =
    e ∙ ap (λ (t : List ℕ). t ++ codes "  ") is ∙ append_assoc base (indent_text d) (codes "  ") ∙ ap (λ (t : List ℕ). base ++ t) (sym (indent_more d))

pub indent_none : (base : List ℕ) → base ≡ base ++ indent_text 0
unfolding indent_text
indent_none base = sym (append-nil base)
