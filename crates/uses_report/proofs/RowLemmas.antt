-- The lines of one row more.
use Rattle.std.proofs.Common.{◌≡◌, ℕ, ◌+◌, ◌++◌, ◌∷◌, [], List, append_assoc, append-nil, ap, sym, ◌∙◌}
use Rattle.std.specs.List.{flat_map}
use Rattle.std.proofs.lemmas.List.Concat.{flat_map-append}
use Rattle.rapid_text.specs.Recording.{Recording}
use Rattle.event_index.specs.Lookups.{before}
use Rattle.event_index.proofs.CallerLemmas.{before_more}
use Rattle.variable_uses.specs.declared.uses.Uses.{Uses}
use Rattle.uses_report.specs.Texts.{row_text, rows_text}

rows_more : (r : Recording) (uses : Uses) (k : ℕ) → rows_text r uses (k + 1) ≡ rows_text r uses k ++ row_text r uses k
rows_more r uses k =
    ap (flat_map (row_text r uses)) (before_more k)
    ∙ flat_map-append (row_text r uses) (before k) (k ∷ [])
    ∙ ap (λ ys. rows_text r uses k ++ ys) (append-nil (row_text r uses k))

-- the text with the lines of one row more
pub one_row_more : (r : Recording) (uses : Uses) (k : ℕ) (old text new : List ℕ) → text ≡ old ++ rows_text r uses k → new ≡ text ++ row_text r uses k
    → new ≡ old ++ rows_text r uses (k + 1)
one_row_more r uses k old text new was is =
    is
    ∙ ap (λ ys. ys ++ row_text r uses k) was
    ∙ append_assoc old (rows_text r uses k) (row_text r uses k)
    ∙ ap (λ ys. old ++ ys) (sym (rows_more r uses k))
