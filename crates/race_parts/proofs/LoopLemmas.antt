-- The first of what is left.
use Rattle.std.proofs.Common.{◌≡◌, ℕ, ◌+◌, nat_eq, Bool, true, false, cond, List, [], ◌∷◌, ◌++◌, append_assoc, append-nil, ◌-◌, drop, take, length, map, Option, Some, None, refl, sym, ap, ◌∙◌, arith}
use Rattle.std.proofs.lemmas.List.{drop-drop, length-drop, map-append, take_all}
use Rattle.serde_json.specs.Data.{Data}
use Rattle.serde_json.specs.Find.{as_array, get}
use Rattle.serde_json.specs.View.{items_of, items_view, view}
use Rattle.serde_json.specs.declared.value.Value.{Value}
use Rattle.std.specs.Prelude.{codes}
use Rattle.race_parts.proofs.LineLemmas.{lines-more, lines-none}
use Rattle.race_parts.specs.Lines.{HasNoFeed, lines_of}
use Rattle.race_parts.specs.Cells.{cell_key, is_same, key_of, keys_from, row_said}
use Rattle.race_parts.specs.Said.{Said}
use Rattle.race_parts.specs.Objects.{json_line, news_count, pair_lines, pair_object_at}
use Rattle.race_parts.specs.Texts.{block_text, blocks_text, heads_count, held_by, hold_line, hold_lines, holds_text, is_head, is_new, item_lines, list_lines, one_if, run_count}
use Rattle.race_parts.specs.declared.cells.Cell.{Cell}
use Rattle.race_parts.specs.declared.cells.Row.{Row}

pub run-more : (c d : Cell) (rank : ℕ) (cs ds : List Cell) (b : Bool) → cs ≡ d ∷ ds → is_same c d ≡ true → nat_eq d.rank rank ≡ b → run_count c rank cs ≡ one_if b + run_count c rank ds
run-more c d rank cs ds b e same counts =
    ap (run_count c rank) e ∙ ap (λ t. cond t (one_if (nat_eq d.rank rank) + run_count c rank ds) 0) same ∙ ap (λ t. one_if t + run_count c rank ds) counts

pub run-stop : (c d : Cell) (rank : ℕ) (cs ds : List Cell) → cs ≡ d ∷ ds → is_same c d ≡ false → run_count c rank cs ≡ 0
run-stop c d rank cs ds e other = ap (run_count c rank) e ∙ ap (λ t. cond t (one_if (nat_eq d.rank rank) + run_count c rank ds) 0) other

pub heads-more : (rank : ℕ) (before : Option Cell) (c : Cell) (cs ds : List Cell) (b : Bool) → cs ≡ c ∷ ds → is_head before rank c ≡ b → heads_count rank before cs ≡ one_if b + heads_count rank (Some c) ds
heads-more rank before c cs ds b e head = ap (heads_count rank before) e ∙ ap (λ t. one_if t + heads_count rank (Some c) ds) head

pub news-more : (before : Option Cell) (c : Cell) (cs ds : List Cell) (b : Bool) → cs ≡ c ∷ ds → is_new before c ≡ b → news_count before cs ≡ one_if b + news_count (Some c) ds
news-more before c cs ds b e new = ap (news_count before) e ∙ ap (λ t. one_if t + news_count (Some c) ds) new

pub blocks-more : (parts : ℕ) (rows : List Row) (rank : ℕ) (before : Option Cell) (c : Cell) (cs ds : List Cell) → cs ≡ c ∷ ds → is_head before rank c ≡ true
    → blocks_text parts rows rank before cs ≡ block_text parts rows c cs ++ blocks_text parts rows rank (Some c) ds
blocks-more parts rows rank before c cs ds e head =
    ap (blocks_text parts rows rank before) e
    ∙ ap (λ t. cond t (block_text parts rows c (c ∷ ds)) [] ++ blocks_text parts rows rank (Some c) ds) head
    ∙ ap (λ (xs : List Cell). block_text parts rows c xs ++ blocks_text parts rows rank (Some c) ds) (sym e)

pub blocks-same : (parts : ℕ) (rows : List Row) (rank : ℕ) (before : Option Cell) (c : Cell) (cs ds : List Cell) → cs ≡ c ∷ ds → is_head before rank c ≡ false
    → blocks_text parts rows rank before cs ≡ blocks_text parts rows rank (Some c) ds
blocks-same parts rows rank before c cs ds e head =
    ap (blocks_text parts rows rank before) e ∙ ap (λ t. cond t (block_text parts rows c (c ∷ ds)) [] ++ blocks_text parts rows rank (Some c) ds) head

pub pairs-more : (parts : ℕ) (before : Option Cell) (c : Cell) (cs ds : List Cell) → cs ≡ c ∷ ds → is_new before c ≡ true
    → pair_lines parts before cs ≡ json_line (pair_object_at parts c cs) ++ pair_lines parts (Some c) ds
pairs-more parts before c cs ds e new =
    ap (pair_lines parts before) e
    ∙ ap (λ t. cond t (json_line (pair_object_at parts c (c ∷ ds))) [] ++ pair_lines parts (Some c) ds) new
    ∙ ap (λ (xs : List Cell). json_line (pair_object_at parts c xs) ++ pair_lines parts (Some c) ds) (sym e)

pub pairs-same : (parts : ℕ) (before : Option Cell) (c : Cell) (cs ds : List Cell) → cs ≡ c ∷ ds → is_new before c ≡ false
    → pair_lines parts before cs ≡ pair_lines parts (Some c) ds
pairs-same parts before c cs ds e new =
    ap (pair_lines parts before) e ∙ ap (λ t. cond t (json_line (pair_object_at parts c (c ∷ ds))) [] ++ pair_lines parts (Some c) ds) new

-- what was begun goes on
pub more_of : (old now new piece rest left all : List ℕ) → now ++ left ≡ old ++ all → left ≡ piece ++ rest → new ≡ now ++ piece → new ++ rest ≡ old ++ all
more_of old now new piece rest left all before cut last =
    ap (λ (xs : List ℕ). xs ++ rest) last ∙ append_assoc now piece rest ∙ ap (λ (xs : List ℕ). now ++ xs) (sym cut) ∙ before

pub same_of : (old now new rest left all : List ℕ) → now ++ left ≡ old ++ all → left ≡ rest → new ≡ now → new ++ rest ≡ old ++ all
same_of old now new rest left all before same last =
    ap (λ (xs : List ℕ). xs ++ rest) last ∙ ap (λ (xs : List ℕ). now ++ xs) (sym same) ∙ before

-- the first of what is left, and what is behind it
pub cons_drop : {X : Type 0} (xs : List X) (at : ℕ) (x : X) (rest : List X) → take (length xs - at) (drop at xs) ≡ x ∷ rest → drop at xs ≡ x ∷ drop (at + 1) xs
cons_drop {X} xs at x rest e =
    let all : drop at xs ≡ x ∷ rest = sym (take_all (length xs - at) (drop at xs) (omega (arith, length-drop at xs))) ∙ e in
    all ∙ ap (λ (ys : List X). x ∷ ys) (sym (sym (drop-drop 1 at xs) ∙ ap (λ (ys : List X). drop 1 ys) all))

-- three pieces
pub three_of : (a b c d p q r : List ℕ) → b ≡ a ++ p → c ≡ b ++ q → d ≡ c ++ r → d ≡ a ++ (p ++ q ++ r)
three_of a b c d p q r first second third =
    third ∙ ap (λ (xs : List ℕ). xs ++ r) (second ∙ ap (λ (xs : List ℕ). xs ++ q) first ∙ append_assoc a p q) ∙ append_assoc a (p ++ q) r

pub keys-more : (cells more : List Cell) (c : Cell) (n : ℕ) (r : Row) (rows rest : List Row) → more ≡ cells ++ c ∷ [] → rows ≡ r ∷ rest → cell_key c ≡ key_of n (row_said r)
    → map cell_key more ++ keys_from (n + 1) (map row_said rest) ≡ map cell_key cells ++ keys_from n (map row_said rows)
keys-more cells more c n r rows rest last e key =
    ap (λ (cs : List Cell). map cell_key cs ++ keys_from (n + 1) (map row_said rest)) last
    ∙ ap (λ ks. ks ++ keys_from (n + 1) (map row_said rest)) (map-append cell_key cells (c ∷ []))
    ∙ append_assoc (map cell_key cells) (cell_key c ∷ []) (keys_from (n + 1) (map row_said rest))
    ∙ ap (λ k. map cell_key cells ++ k ∷ keys_from (n + 1) (map row_said rest)) key
    ∙ ap (λ m. map cell_key cells ++ key_of n (row_said r) ∷ keys_from m (map row_said rest)) (omega arith)
    ∙ ap (λ (rs : List Row). map cell_key cells ++ keys_from n (map row_said rs)) (sym e)

item_lines-holds : (vs : List Value) → item_lines (items_of (map view vs)) ≡ hold_lines vs
item_lines-holds [] = refl
item_lines-holds (v ∷ vs) = ap (λ (xs : List ℕ). hold_line (view v) ++ xs) (item_lines-holds vs)

pub holds-are : (d e : Data) (vs : List Value) → get (codes "holds") d ≡ Some e → as_array e ≡ Some (items_view vs) → holds_text d ≡ hold_lines vs
holds-are d e vs there list = ap held_by there ∙ ap list_lines list ∙ item_lines-holds vs

pub holds-no_list : (d e : Data) → get (codes "holds") d ≡ Some e → as_array e ≡ None → holds_text d ≡ []
holds-no_list d e there list = ap held_by there ∙ ap list_lines list

pub holds-none : (d : Data) → get (codes "holds") d ≡ None → holds_text d ≡ []
holds-none d there = ap held_by there

-- a row more
pub rows-more : (f : List ℕ → Said) (rows more : List Row) (row : Row) (line rest behind : List ℕ) (all : List Said) → rest ≡ line ++ 10 ∷ behind → HasNoFeed line → row_said row ≡ f line
    → more ≡ rows ++ row ∷ [] → map row_said rows ++ map f (lines_of rest) ≡ all → map row_said more ++ map f (lines_of behind) ≡ all
rows-more f rows more row line rest behind all cut free said last before =
    ap (λ (rs : List Row). map row_said rs ++ map f (lines_of behind)) last
    ∙ ap (λ (ss : List Said). ss ++ map f (lines_of behind)) (map-append row_said rows (row ∷ []))
    ∙ append_assoc (map row_said rows) (row_said row ∷ []) (map f (lines_of behind))
    ∙ ap (λ (s : Said). map row_said rows ++ s ∷ map f (lines_of behind)) said
    ∙ ap (λ (ls : List (List ℕ)). map row_said rows ++ map f ls) (sym (ap lines_of cut ∙ lines-more line behind free))
    ∙ before

-- no line is left
pub rows-end : (f : List ℕ → Said) (rows : List Row) (rest : List ℕ) (all : List Said) → HasNoFeed rest → map row_said rows ++ map f (lines_of rest) ≡ all → map row_said rows ≡ all
rows-end f rows rest all free before =
    sym (append-nil (map row_said rows)) ∙ ap (λ (ls : List (List ℕ)). map row_said rows ++ map f ls) (sym (lines-none rest free)) ∙ before
