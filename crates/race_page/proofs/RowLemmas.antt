-- A row more.
use Rattle.std.proofs.Common.{◌≡◌, ℕ, ◌+◌, ◌<◌, List, [], ◌∷◌, ◌++◌, length, get_or, map, take, Option, ap, ◌∙◌, append_assoc}
use Rattle.std.proofs.lemmas.List.{map-append, take_more}
use Rattle.rapid_text.specs.Recording.{Recording}
use Rattle.followed_races.specs.declared.entries.Followed.{Followed}
use Rattle.race_triage.specs.declared.verdicts.Verdict.{Verdict}
use Rattle.race_page.specs.Rows.{row_of}
use Rattle.race_page.specs.declared.shown.Shown.{Shown}

pub rows_more :
    (r : Recording) (told : Option (List Followed)) (xs : List Verdict) (i : ℕ) (d : Verdict) (shown : Shown) (base old new : List Shown) → i < length xs → shown ≡ row_of r told (get_or xs i d)
    → old ≡ base ++ map (row_of r told) (take i xs) → new ≡ old ++ shown ∷ [] → new ≡ base ++ map (row_of r told) (take (i + 1) xs)
rows_more r told xs i d shown base old new lt is so e =
    rw (take_more xs i d lt)
    (rw map-append
    (e
    ∙ ap (λ (ys : List Shown). ys ++ shown ∷ []) so
    ∙ append_assoc base (map (row_of r told) (take i xs)) (shown ∷ [])
    ∙ ap (λ (s : Shown). base ++ (map (row_of r told) (take i xs) ++ s ∷ [])) is))

-- the same of a row of a trace that is the same
pub rows_more_of :
    (r s : Recording) (told : Option (List Followed)) (xs : List Verdict) (i : ℕ) (d : Verdict) (base old new : List Shown) → i < length xs → s ≡ r
    → old ≡ base ++ map (row_of r told) (take i xs) → new ≡ old ++ row_of s told (get_or xs i d) ∷ [] → new ≡ base ++ map (row_of r told) (take (i + 1) xs)
rows_more_of r s told xs i d base old new lt same so e =
    rows_more r told xs i d (row_of s told (get_or xs i d)) base old new lt (ap (λ (t : Recording). row_of t told (get_or xs i d)) same) so e
