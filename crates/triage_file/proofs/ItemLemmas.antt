-- Items of an array beside the values that they are, and keys of a table.
use Rattle.std.proofs.Common.{◌≡◌, ℕ, ◌+◌, ◌<◌, ◌||◌, Bool, cond, List, [], ◌∷◌, nat_lt, not, drop, get_or, length, map, position, Option, Some, None, option_map, refl, ap, ◌∙◌}
use Rattle.std.proofs.lemmas.List.{drop_more, length-map}
use Rattle.std.specs.List.{list_any, position_or_len, prefix_len}
use Rattle.toml.specs.Data.{Data}
use Rattle.toml.specs.View.{items_view, view}
use Rattle.toml.specs.declared.value.Value.{Value}
use Rattle.triage_file.specs.Entries.{items_in, mistake_of}
use Rattle.triage_file.specs.Files.{mistaken_from}
use Rattle.triage_file.specs.declared.mistakes.Mistake.{Mistake}

-- the items of an array's view are the views of its items
pub items_in-view : (vs : List Value) → items_in (items_view vs) ≡ map view vs
items_in-view [] = refl
items_in-view (v ∷ vs) = ap (λ ds. view v ∷ ds) (items_in-view vs)

-- a test of some view
pub list_any-view : (test : Data → Bool) (vs : List Value) → list_any test (map view vs) ≡ list_any (λ v. test (view v)) vs
list_any-view test [] = refl
list_any-view test (v ∷ vs) = ap (λ b. test (view v) || b) (list_any-view test vs)

passed : (test : Data → Bool) (vs : List Value) → prefix_len (λ d. not (test d)) (map view vs) ≡ prefix_len (λ v. not (test (view v))) vs
passed test [] = refl
passed test (v ∷ vs) = ap (λ n. cond (not (test (view v))) (1 + n) 0) (passed test vs)

-- the first view that passes
pub position-view : (test : Data → Bool) (vs : List Value) → position test (map view vs) ≡ position (λ v. test (view v)) vs
position-view test vs =
    ap (λ n. cond (nat_lt n (length (map view vs))) (Some n) None) (passed test vs)
    ∙ ap (λ n. cond (nat_lt (position_or_len (λ v. test (view v)) vs) n) (Some (position_or_len (λ v. test (view v)) vs)) None) (length-map vs view)

-- an entry without a mistake, and one with a mistake
pub mistaken_from-none :
    (vs : List Value) (i : ℕ) (v : Value) → i < length vs → mistake_of (view (get_or vs i v)) ≡ None
    → mistaken_from i (map view (drop i vs)) ≡ mistaken_from (i + 1) (map view (drop (i + 1) vs))
mistaken_from-none vs i v lt right = rw (drop_more vs i v lt, right)

pub mistaken_from-some :
    (vs : List Value) (i : ℕ) (v : Value) (mistake : Mistake) → i < length vs → mistake_of (view (get_or vs i v)) ≡ Some mistake
    → mistaken_from i (map view (drop i vs)) ≡ Some (i, mistake)
mistaken_from-some vs i v mistake lt wrong = rw (drop_more vs i v lt, wrong)
