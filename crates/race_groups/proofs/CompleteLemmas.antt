-- Which rows there are, and where they stand.
use Rattle.std.proofs.Common.{◌≡◌, ℕ, zero, suc, ◌*◌, ◌<◌, ◌≤◌, ◌==◌, ◌&&◌, ◌⊎◌, Bool, true, false, not, nat_lt, List, [], ◌∷◌, length, map, All, Contains, count_by, get_or, Option, Some, None, Result, Err, Vec, refl, sym, ap, subst, ◌∙◌, inl, inr, arith}
use Rattle.std.specs.List.{slice_get}
use Rattle.std.specs.Option.{option_map, IfSome}
use Rattle.std.specs.Map.{keys_of, lookup}
use Rattle.std.specs.declared.alloc.Global.{Global}
use Rattle.std.proofs.lemmas.Bool.{cases_Bool, cases_order, cases_lt, cond-true, cond-false, and_parts, and_from, false_from_ne_true, true≢false, lt-ltb, le-ltb, eq-eqb, or_left, or_right}
use Rattle.std.proofs.lemmas.List.{length-map}
use Rattle.std.proofs.lemmas.List.Elements.{All-contains, All-head, All-tail, All-nil, All-cons, filter_passes}
use Rattle.std.proofs.lemmas.Map.Keys.{apart_from_distinct}
use Rattle.std.proofs.lemmas.Option.{same_Some, slice_get_within, get_or_from_slice_get, slice_get-map}
use Rattle.rapid_text.specs.declared.event.Event.{Event}
use Rattle.event_index.specs.Lookups.{count_before}
use Rattle.indexmap.specs.IndexMap.{IndexMap, IsUnique, get, keys}
use Rattle.race_groups.specs.Counts.{AreCounted, is_below}
use Rattle.race_groups.specs.Ends.{known_before}
use Rattle.race_groups.specs.Found.{HaveConflict, AreComplete, AreOnce, AreTooMany, are_places}
use Rattle.race_groups.specs.Groups.{group_of, conflicts, count_of, is_between}
use Rattle.race_groups.specs.Rows.{Part, of_all, of_candidates, of_ordered, of_guarded, same_places, count_at, AreMore}
use Rattle.race_groups.specs.declared.class.Class.{Class}
use Rattle.race_groups.specs.declared.kinds.Row.{Row}
use Rattle.race_groups.specs.declared.rows.Sums.{Sums}
use Rattle.race_groups.proofs.ApartLemmas.{in_group}
use Rattle.race_groups.proofs.BuildLemmas.{All-from_slice_get}
use Rattle.race_groups.proofs.RowLemmas.{same_places_are, are_same_places, between_one, count_at-none}
use Rattle.race_groups.proofs.TellLemmas.{IsPair, group_pairs, All-both, count_all}

-- what holds of a number that is found
pub found_from : (P Q : ℕ → Type 0) (o : Option ℕ) → ((n : ℕ) → P n → Q n) → IfSome o P → IfSome o Q
found_from P Q None more found = found
found_from P Q (Some n) more found = more n found

-- errors that are the same
pub same_Err : {A E : Type 0} (x y : E) → ◌≡◌ {A = Result A E} (Err x) (Err y) → x ≡ y
same_Err x y is = cc

abbrev pub places_of : List Row → List (ℕ × ℕ)
places_of rows = map (λ (row : Row). row.places) rows

-- rows and their places, each with the lesser first
rises_test : (p q : ℕ) → p ≤ q → not (nat_lt q p) ≡ true
rises_test p q le = ap not (le-ltb q p le)

test_rises : (p q : ℕ) → not (nat_lt q p) ≡ true → p ≤ q
test_rises p q holds =
    elim (cases_lt q p) [
      | inl lt ↦ absurd (true≢false (sym holds ∙ ap not (lt-ltb q p lt)))
      | inr fine ↦ fine
    ]

head_same : {X : Type 0} (x y : X) (xs ys : List X) → x ∷ xs ≡ y ∷ ys → (x ≡ y) × (xs ≡ ys)
head_same x y xs ys is = (cc, cc)

pub are_places-from : (rows : List Row) (ks : List (ℕ × ℕ)) → places_of rows ≡ ks → All (λ p. p.0 ≤ p.1) ks → are_places rows ks ≡ true
are_places-from [] [] is all = refl
are_places-from [] (k ∷ ks) is all = cc
are_places-from (row ∷ rows) [] is all = cc
are_places-from (row ∷ rows) (k ∷ ks) is all =
    let both = head_same row.places k (places_of rows) ks is in
    let low : k.0 ≤ k.1 = All-head (λ (p : ℕ × ℕ). p.0 ≤ p.1) k ks all in
    let rises : row.places.0 ≤ row.places.1 = subst (λ (p : ℕ × ℕ). p.0 ≤ p.1) (sym both.0) low in
    and_from (not (nat_lt row.places.1 row.places.0) && same_places row.places k) (are_places rows ks)
    (and_from (not (nat_lt row.places.1 row.places.0)) (same_places row.places k) (rises_test row.places.0 row.places.1 rises) (are_same_places row.places k both.0))
    (are_places-from rows ks both.1 (All-tail (λ (p : ℕ × ℕ). p.0 ≤ p.1) k ks all))

pub are_places-tells : (rows : List Row) (ks : List (ℕ × ℕ)) → are_places rows ks ≡ true → (places_of rows ≡ ks) × All (λ (row : Row). row.places.0 ≤ row.places.1) rows
are_places-tells [] [] holds = (refl, All-nil (λ (row : Row). row.places.0 ≤ row.places.1))
are_places-tells [] (k ∷ ks) holds = absurd (true≢false (sym holds))
are_places-tells (row ∷ rows) [] holds = absurd (true≢false (sym holds))
are_places-tells (row ∷ rows) (k ∷ ks) holds =
    let both = and_parts (not (nat_lt row.places.1 row.places.0) && same_places row.places k) (are_places rows ks) holds in
    let here = and_parts (not (nat_lt row.places.1 row.places.0)) (same_places row.places k) both.0 in
    let rest = are_places-tells rows ks both.1 in (
      ap (λ p. p ∷ places_of rows) (same_places_are row.places k here.1) ∙ ap (λ ps. k ∷ ps) rest.0,
      All-cons (λ (r : Row). r.places.0 ≤ r.places.1) row rows (test_rises row.places.0 row.places.1 here.0) rest.1,
    )

-- the row at a place, and the place's key
some_row : (o : Option Row) (k : ℕ × ℕ) → option_map (λ (row : Row). row.places) o ≡ Some k → (row : Row) × (o ≡ Some row) × (row.places ≡ k)
some_row None k is = cc
some_row (Some row) k is = (row, refl, same_Some row.places k is)

pub row_from_key : (rows : List Row) (ks : List (ℕ × ℕ)) (i : ℕ) (k : ℕ × ℕ) → places_of rows ≡ ks → slice_get ks i ≡ Some k → (row : Row) × (slice_get rows i ≡ Some row) × (row.places ≡ k)
row_from_key rows ks i k is at =
    some_row (slice_get rows i) k (sym (slice_get-map (λ (row : Row). row.places) rows i) ∙ ap (λ ps. slice_get ps i) is ∙ at)

pub key_from_row : (rows : List Row) (ks : List (ℕ × ℕ)) (i : ℕ) (row : Row) → places_of rows ≡ ks → slice_get rows i ≡ Some row → slice_get ks i ≡ Some row.places
key_from_row rows ks i row is at = ap (λ ps. slice_get ps i) (sym is) ∙ slice_get-map (λ (r : Row). r.places) rows i ∙ ap (option_map (λ (r : Row). r.places)) at

-- a key that is looked up, and one that is not there
pub key_there : {X : Type 0} (key : ℕ × ℕ) (es : List ((ℕ × ℕ) × X)) (v : X) → lookup (same_places key) es ≡ Some v → (i : ℕ) × (slice_get (keys_of es) i ≡ Some key)
key_there key [] v at = cc
key_there key (e ∷ es) v at =
    elim (cases_Bool (same_places key e.0)) [
      | inl here ↦ (0, ap Some (sym (same_places_are key e.0 here)))
      | inr not_so ↦
          let rest = key_there key es v (sym (cond-false (same_places key e.0) (Some e.1) (lookup (same_places key) es) not_so) ∙ at) in
          (suc rest.0, rest.1)
    ]

pub key_not_there : {X : Type 0} (key : ℕ × ℕ) (es : List ((ℕ × ℕ) × X)) → lookup (same_places key) es ≡ None → (i : ℕ) → slice_get (keys_of es) i ≡ Some key → ⊥
key_not_there key [] none i at = cc
key_not_there key (e ∷ es) none zero at =
    let here : same_places key e.0 ≡ true = are_same_places key e.0 (sym (same_Some e.0 key at)) in
    cc (sym (cond-true (same_places key e.0) (Some e.1) (lookup (same_places key) es) here) ∙ none)
key_not_there key (e ∷ es) none (suc i) at =
    elim (cases_Bool (same_places key e.0)) [
      | inl here ↦ cc (sym (cond-true (same_places key e.0) (Some e.1) (lookup (same_places key) es) here) ∙ none)
      | inr not_so ↦ key_not_there key es (sym (cond-false (same_places key e.0) (Some e.1) (lookup (same_places key) es) not_so) ∙ none) i at
    ]

-- no key stands twice
apart_keys : {S : Type 0} (m : IndexMap (ℕ × ℕ) Sums S) → IsUnique same_places m → (i k : ℕ) (p : ℕ × ℕ) → slice_get (keys m) i ≡ Some p → slice_get (keys m) k ≡ Some p → i < k → ⊥
apart_keys m unique i k p one other lt =
    let apart = apart_from_distinct same_places (keys m) i k p unique lt (slice_get_within (keys m) k p other) in
    let same : same_places (get_or (keys m) i p) (get_or (keys m) k p) ≡ true =
    are_same_places (get_or (keys m) i p) (get_or (keys m) k p) (get_or_from_slice_get (keys m) i p p one ∙ sym (get_or_from_slice_get (keys m) k p p other))
    in true≢false (sym same ∙ apart)

pub keys_once : {S : Type 0} (m : IndexMap (ℕ × ℕ) Sums S) → IsUnique same_places m → (i k : ℕ) (p : ℕ × ℕ) → slice_get (keys m) i ≡ Some p → slice_get (keys m) k ≡ Some p → i ≡ k
keys_once m unique i k p one other =
    elim (cases_order i k) [
      | inl same ↦ same
      | inr (inl lt) ↦ absurd (apart_keys m unique i k p one other lt)
      | inr (inr gt) ↦ absurd (apart_keys m unique k i p other one gt)
    ]

pub AreOnce-from : {S : Type 0} (m : IndexMap (ℕ × ℕ) Sums S) (rows : List Row) → IsUnique same_places m → places_of rows ≡ keys m → AreOnce rows
AreOnce-from m rows unique is i k v w one other same =
    keys_once m unique i k w.places (key_from_row rows (keys m) i v is one ∙ ap Some same) (key_from_row rows (keys m) k w is other)

-- the row of two places, in either order
module _ {S : Type 0} (m : IndexMap (ℕ × ℕ) Sums S) (rows : List Row) (tells : are_places rows (keys m) ≡ true) (key : ℕ × ℕ) (c d : ℕ) (low : key.0 ≤ key.1) (between : is_between key.0 key.1 c d ≡ true) where
  pub row_found : (at : ℕ) (v : Sums) → slice_get m.entries at ≡ Some (key, v) → (row : Row) × (slice_get rows at ≡ Some row) × (is_between row.places.0 row.places.1 c d ≡ true)
  row_found at v entry =
      let told = are_places-tells rows (keys m) tells in
      let there : slice_get (keys m) at ≡ Some key = slice_get-map (λ (e : (ℕ × ℕ) × Sums). e.0) m.entries at ∙ ap (option_map (λ (e : (ℕ × ℕ) × Sums). e.0)) entry in
      let found = row_from_key rows (keys m) at key told.0 there in
      (found.0, found.1, ap (λ (p : ℕ × ℕ). is_between p.0 p.1 c d) found.2 ∙ between)

  pub row_missing : get same_places m key ≡ None → (at : ℕ) (row : Row) → slice_get rows at ≡ Some row → is_between row.places.0 row.places.1 c d ≡ false
  row_missing none at row is =
      let told = are_places-tells rows (keys m) tells in
      let there = key_from_row rows (keys m) at row told.0 is in
      let rises : row.places.0 ≤ row.places.1 = All-contains (λ (r : Row). r.places.0 ≤ r.places.1) rows row told.1 (at, slice_get_within rows at row is, get_or_from_slice_get rows at row row is) in
      false_from_ne_true (is_between row.places.0 row.places.1 c d)
      (λ same.
      let one = between_one row.places.0 row.places.1 key.0 key.1 c d rises low same between in
      let key_is : row.places ≡ key = ap (λ x. (x, row.places.1)) one.0 ∙ ap (λ y. (key.0, y)) one.1 in
      key_not_there key m.entries none at (there ∙ ap Some key_is))

-- the lesser of two places first
pub rising_places : (c d : ℕ) → (key : ℕ × ℕ) × (key.0 ≤ key.1) × (is_between key.0 key.1 c d ≡ true)
rising_places c d =
    elim (cases_lt d c) [
      | inl lt ↦ ((d, c), omega arith, or_right (c == d && d == c) (c == c && d == d) (and_from (c == c) (d == d) (eq-eqb c c refl) (eq-eqb d d refl)))
      | inr le ↦ ((c, d), le, or_left (c == c && d == d) (c == d && d == c) (and_from (c == c) (d == d) (eq-eqb c c refl) (eq-eqb d d refl)))
    ]

-- each conflicting pair has a row, where all of them are counted
some_or_none : {X : Type 0} (o : Option X) → (o ≡ None) ⊎ ((x : X) × (o ≡ Some x))
some_or_none None = inl refl
some_or_none (Some x) = inr (x, refl)

pub AreComplete-from : {S : Type 0} (T : List Event) (place : ℕ → ℕ) (k : Part) (m : IndexMap (ℕ × ℕ) Sums S) (rows : List Row) → places_of rows ≡ keys m
    → ((p q : ℕ) → p ≤ q → count_at k m p q ≡ 2 * length (group_of T place p q)) → AreComplete T place rows
AreComplete-from T place k m rows is counted a b lt conflict =
    let key = rising_places (place a) (place b) in
    let p = key.0.0 in
    let q = key.0.1 in
    let there = in_group T place p q a b lt conflict key.2 in
    elim (some_or_none (get same_places m key.0)) [
      | inl none ↦
          let zero_at = count_at-none m k p q none in
          let all = counted p q key.1 in
          absurd (omega (arith, zero_at, all, there.1))
      | inr some ↦
          let at = key_there key.0 m.entries some.0 some.1 in
          let row = row_from_key rows (keys m) at.0 key.0 is at.1 in
          record { at = at.0; row = row.0; is = row.1; between = ap (λ (e : ℕ × ℕ). is_between e.0 e.1 (place a) (place b)) row.2 ∙ key.2 }
    ]

-- what is counted is there
head_of : {X : Type 0} (P : X → Type 0) (test : X → Bool) (xs : List X) → All P xs → 0 < count_by test xs → (x : X) × P x
head_of P test [] all more = absurd (omega (arith, more))
head_of P test (x ∷ xs) all more = (x, All-head P x xs all)

pub have_conflict : (T : List Event) (place : ℕ → ℕ) (test : ℕ × ℕ → Bool) (p q : ℕ) → 0 < count_of T place test p q → HaveConflict T place (p, q)
have_conflict T place test p q more =
    let P : ℕ × ℕ → Type 0 = λ e. IsPair T e.0 e.1 in
    let B : ℕ × ℕ → Type 0 = λ e. is_between p q (place e.0) (place e.1) ≡ true in
    let all = All-both P B (group_of T place p q) (group_pairs T place p q) (filter_passes (λ e. is_between p q (place e.0) (place e.1)) (conflicts T)) in
    let found = head_of (λ e. P e × B e) test (group_of T place p q) all more in
    let pair : IsPair T found.0.0 found.0.1 = found.1.0 in
    record { first = found.0.0; second = found.0.1; earlier = pair.earlier; conflict = pair.conflict; between = found.1.1 }

pub have_some : (T : List Event) (place : ℕ → ℕ) (p q : ℕ) → 0 < length (group_of T place p q) → HaveConflict T place (p, q)
have_some T place p q more = have_conflict T place (λ e. true) p q (let all = count_all (group_of T place p q) in omega (arith, all, more))

-- rows that count none where there is none, of which there are too many
pub AreTooMany-from : {S : Type 0} (T : List Event) (place : ℕ → ℕ) (limit : ℕ) (m : IndexMap (ℕ × ℕ) Sums S) → AreMore limit m
    → ((k : Part) (p q : ℕ) → p ≤ q → count_at k m p q ≤ 3 * length (group_of T place p q)) → AreTooMany T place limit
AreTooMany-from T place limit m are fits = record {
  places = keys m;
  more = omega (arith, are.more, length-map m.entries (λ (e : (ℕ × ℕ) × Sums). e.0));
  rising = are.are.rising;
  once = keys_once m are.once;
  conflicts =
      All-from_slice_get (HaveConflict T place) (keys m)
      (λ i p at.
      let there : Contains (keys m) p = (i, slice_get_within (keys m) i p at, get_or_from_slice_get (keys m) i p p at) in
      let some = are.are.counted p.0 p.1 there in
      let low : p.0 ≤ p.1 = All-contains (λ (e : ℕ × ℕ). e.0 ≤ e.1) (keys m) p are.are.rising there in
      let le = fits some.0 p.0 p.1 low in
      have_some T place p.0 p.1 (omega (arith, le, some.1)));
}

-- what is counted of two places is of a conflicting pair
module _
    {S : Type 0} (T : List Event) (place : ℕ → ℕ) (classes : List ℕ) (infos : List Class) (lists : List (Vec ℕ Global)) (m : IndexMap (ℕ × ℕ) Sums S)
    (counted : AreCounted T place classes infos lists m) where
  counted_conflict : (p q : ℕ) → p ≤ q → (k : Part) → 0 < count_at k m p q → HaveConflict T place (p, q)
  counted_conflict p q low of_all some = let all = counted.all p q low in have_some T place p q (omega (arith, all, some))
  counted_conflict p q low of_candidates some =
      let more = counted.candidates p q low in
      have_conflict T place (is_below T classes infos lists of_candidates (count_before T)) p q (omega (arith, more, some))
  counted_conflict p q low of_ordered some =
      let more = counted.ordered p q low in
      have_conflict T place (is_below T classes infos lists of_ordered (known_before T)) p q (omega (arith, more, some))
  counted_conflict p q low of_guarded some =
      let more = counted.guarded p q low in
      have_conflict T place (is_below T classes infos lists of_guarded (known_before T)) p q (omega (arith, more, some))

  -- so each row has one
  pub AreConflicting-from : (rows : List Row) → places_of rows ≡ keys m → All (λ (row : Row). HaveConflict T place row.places) rows
  AreConflicting-from rows is =
      All-from_slice_get (λ (row : Row). HaveConflict T place row.places) rows
      (λ i row at.
      let p = row.places in
      let key = key_from_row rows (keys m) i row is at in
      let there : Contains (keys m) p = (i, slice_get_within (keys m) i p key, get_or_from_slice_get (keys m) i p p key) in
      let some = counted.are.counted p.0 p.1 there in
      let low : p.0 ≤ p.1 = All-contains (λ (e : ℕ × ℕ). e.0 ≤ e.1) (keys m) p counted.are.rising there in
      counted_conflict p.0 p.1 low some.0 some.1)
