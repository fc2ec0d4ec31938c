-- Cells by the numbers of keys.
use Rattle.std.proofs.Common.{◌≡◌, ℕ, ◌+◌, ◌<◌, List, [], ◌∷◌, ◌++◌, map, take, length, get_or, Result, Ok, Err, IfOk, ap, sym, subst, ◌∙◌}
use Rattle.std.proofs.lemmas.List.{map-append, take_more}
use Rattle.std.proofs.lemmas.List.Sorted.{IsPermutation-map}
use Rattle.std.specs.List.Sorted.{IsPermutation}
use Rattle.race_parts.specs.declared.cells.Cell.{Cell}
use Rattle.race_parts.specs.declared.presorting.Quick.{Quick}

pub if_ok-map : {A E : Type 0} {P Q : A → Type 0} (r : Result A E) → ((a : A) → P a → Q a) → IfOk r P → IfOk r Q
if_ok-map (Ok a) f h = f a h
if_ok-map (Err e) f h = tt

-- the cell of a key
abbrev pub cell_by : List Cell → Cell → Quick → Cell
cell_by cs d k = get_or cs k.number d

pub keys-more : (cs : List Cell) (ks more : List Quick) (k : Quick) (at : ℕ) (d : Cell) → map (cell_by cs d) ks ≡ take at cs → more ≡ ks ++ k ∷ [] → k.number ≡ at → at < length cs
    → map (cell_by cs d) more ≡ take (at + 1) cs
keys-more cs ks more k at d before last number inside =
    ap (map (cell_by cs d)) last ∙ map-append (cell_by cs d) ks (k ∷ [])
    ∙ ap (λ (xs : List Cell). xs ++ get_or cs k.number d ∷ []) before
    ∙ ap (λ (n : ℕ). take at cs ++ get_or cs n d ∷ []) number
    ∙ sym (take_more cs at d inside)

-- cells in another order
pub shuffled : (cs made : List Cell) (ks sorted : List Quick) (d : Cell) → map (cell_by cs d) ks ≡ cs → IsPermutation ks sorted → made ≡ map (cell_by cs d) sorted → IsPermutation cs made
shuffled cs made ks sorted d all moved is =
    subst (λ (xs : List Cell). IsPermutation xs made) all (subst (λ (ys : List Cell). IsPermutation (map (cell_by cs d) ks) ys) (sym is) (IsPermutation-map (cell_by cs d) ks sorted moved))
