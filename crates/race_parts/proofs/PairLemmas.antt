-- A pair more.
use Rattle.std.proofs.Common.{◌≡◌, ℕ, true, false, cond, List, [], ◌∷◌, ◌++◌, append_assoc, Option, Some, sym, ap, ◌∙◌}
use Rattle.race_parts.specs.Pairs.{Shown, pair_told, pairs_told}
use Rattle.race_parts.specs.Texts.{is_head}
use Rattle.race_parts.specs.declared.cells.Cell.{Cell}
use Rattle.race_parts.specs.declared.cells.Row.{Row}

pub told-more : (rows : List Row) (rank : ℕ) (before : Option Cell) (c : Cell) (cs ds : List Cell) → cs ≡ c ∷ ds → is_head before rank c ≡ true
    → pairs_told rows rank before cs ≡ pair_told rows c cs ∷ pairs_told rows rank (Some c) ds
told-more rows rank before c cs ds e head =
    ap (pairs_told rows rank before) e
    ∙ ap (λ t. cond t (pair_told rows c (c ∷ ds) ∷ []) [] ++ pairs_told rows rank (Some c) ds) head
    ∙ ap (λ (xs : List Cell). pair_told rows c xs ∷ pairs_told rows rank (Some c) ds) (sym e)

pub told-same : (rows : List Row) (rank : ℕ) (before : Option Cell) (c : Cell) (cs ds : List Cell) → cs ≡ c ∷ ds → is_head before rank c ≡ false
    → pairs_told rows rank before cs ≡ pairs_told rows rank (Some c) ds
told-same rows rank before c cs ds e head =
    ap (pairs_told rows rank before) e ∙ ap (λ t. cond t (pair_told rows c (c ∷ ds) ∷ []) [] ++ pairs_told rows rank (Some c) ds) head

-- what was begun goes on
pub pairs-grown : (old now new : List Shown) (piece : Shown) (rest left all : List Shown) → now ++ left ≡ old ++ all → left ≡ piece ∷ rest → new ≡ now ++ piece ∷ [] → new ++ rest ≡ old ++ all
pairs-grown old now new piece rest left all before cut last =
    ap (λ (xs : List Shown). xs ++ rest) last ∙ append_assoc now (piece ∷ []) rest ∙ ap (λ (xs : List Shown). now ++ xs) (sym cut) ∙ before

pub pairs-kept : (old now new rest left all : List Shown) → now ++ left ≡ old ++ all → left ≡ rest → new ≡ now → new ++ rest ≡ old ++ all
pairs-kept old now new rest left all before same last =
    ap (λ (xs : List Shown). xs ++ rest) last ∙ ap (λ (xs : List Shown). now ++ xs) (sym same) ∙ before

-- three lists, one after another
pub three_lists : (a b c p q r : List Shown) → a ≡ p → b ≡ a ++ q → c ≡ b ++ r → c ≡ p ++ (q ++ r)
three_lists a b c p q r first second third =
    third ∙ ap (λ (xs : List Shown). xs ++ r) (second ∙ ap (λ (xs : List Shown). xs ++ q) first) ∙ append_assoc p q r
