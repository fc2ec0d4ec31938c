-- The order of pairs, what an access accesses, and rows of the same places.
use Rattle.std.proofs.Common.{◌≡◌, ℕ, ◌<◌, ◌≤◌, ◌⊎◌, ◌==◌, Bool, true, false, true≢false, List, All, Some, slice_get, refl, sym, subst, arith, eq-eqb, eqb-true, inl, inr}
use Rattle.std.proofs.lemmas.Bool.{cases_order, or_cases, or_left}
use Rattle.std.proofs.lemmas.List.Elements.{All-get_or}
use Rattle.std.proofs.lemmas.Option.{get_or_from_slice_get, slice_get_within}
use Rattle.rapid_text.specs.Operations.{is_write}
use Rattle.rapid_text.specs.declared.event.Op.TheVariants.{Read}
use Rattle.rapid_text.specs.Recording.{Recording}
use Rattle.event_index.specs.Relations.{is_access}
use Rattle.race_groups.specs.Found.{AreOnce}
use Rattle.race_groups.specs.Kinds.{IsRow}
use Rattle.race_groups.specs.declared.kinds.Row.{Row}
use Rattle.race_groups.proofs.RowLemmas.{between_one}
use Rattle.race_groups.specs.least_pairs.Lanes.{access_op}
use Rattle.race_groups.specs.least_pairs.Pairs.{AreAt}

pub cases_le : (m n : ℕ) → (m ≤ n) ⊎ (n < m)
cases_le m n = elim (cases_order m n) [
  | inl same ↦ inl (omega (arith, same))
  | inr (inl lt) ↦ inl (omega (arith, lt))
  | inr (inr gt) ↦ inr gt
]

-- a read or a write of a variable accesses it, and no other
pub access_is : (w : Bool) (x : ℕ) → is_access x (access_op w x) ≡ true
access_is true x = eq-eqb x x refl
access_is false x = or_left (x == x) (is_write x (Read x)) (eq-eqb x x refl)

pub access_one : (w : Bool) (x y : ℕ) → is_access y (access_op w x) ≡ true → x ≡ y
access_one true x y is = eqb-true x y is
access_one false x y is =
    elim (or_cases (x == y) false is) [ inl same ↦ eqb-true x y same | inr fails ↦ absurd (true≢false (sym fails)) ]

-- what holds of all elements holds of the one that stands there
pub at_get : {X : Type 0} (P : X → Type 0) (xs : List X) (k : ℕ) (x : X) → All P xs → slice_get xs k ≡ Some x → P x
at_get P xs k x all at = subst P (get_or_from_slice_get xs k x x at) (All-get_or P xs k x (slice_get_within xs k x at) all)

pair_same : (p q : ℕ × ℕ) → p.0 ≡ q.0 → p.1 ≡ q.1 → p ≡ q
pair_same (a, b) (c, d) first second = cc

-- two rows of the places of one pair are one row
pub one_row :
    (r : Recording) (place : ℕ → ℕ) (rows : List Row) → All (IsRow r place) rows → AreOnce rows → (at k : ℕ) (row other : Row) (a b : ℕ) → slice_get rows at ≡ Some row
    → slice_get rows k ≡ Some other → AreAt place row.places a b → AreAt place other.places a b → k ≡ at
one_row r place rows rows_are once at k row other a b is is' there there' =
    let first = at_get (IsRow r place) rows at row rows_are is in
    let second = at_get (IsRow r place) rows k other rows_are is' in
    let same = between_one other.places.0 other.places.1 row.places.0 row.places.1 (place a) (place b) second.rising first.rising there' there in
    once k at other row is' is (pair_same other.places row.places same.0 same.1)
