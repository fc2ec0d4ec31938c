-- Verdicts on different rows.
use Rattle.std.proofs.Common.{◌≡◌, ◌≢◌, ℕ, zero, suc, ◌+◌, ◌-◌, ◌<◌, ◌≤◌, ◌%◌, Bool, List, [], ◌∷◌, ◌++◌, All, AllPairs, Contains, IsPermutation, length, remove, get_or, Some, refl, sym, ap, ◌∙◌, subst, arith, inl, inr}
use Rattle.std.specs.List.{slice_get}
use Rattle.std.proofs.lemmas.Bool.{cases_Bool, cases_lt, false_from_ne_true, true≢false}
use Rattle.std.proofs.lemmas.List.{length-append, get_or_append_left, get_or-append_right}
use Rattle.std.proofs.lemmas.List.Elements.{All-append, All-cons, All-get_or, All-head, All-nil, All-push, All-tail, All-weaker, Contains-append_left, Contains-append_right}
use Rattle.std.proofs.lemmas.List.Sorted.{Contains-permutation, IsPermutation-remove, length_permutation}
use Rattle.std.proofs.lemmas.Map.Keys.{IsDistinct-IsPermutation, IsDistinct-from_apart, apart_from_distinct}
use Rattle.std.proofs.lemmas.Option.{get_or_from_slice_get, slice_get_within}
use Rattle.rapid_text.specs.Recording.{Recording}
use Rattle.race_groups.specs.Found.{AreOnce}
use Rattle.race_groups.specs.Rows.{same_places}
use Rattle.race_groups.specs.declared.kinds.Row.{Row}
use Rattle.race_groups.proofs.BuildLemmas.{length-cons}
use Rattle.race_groups.proofs.RowLemmas.{same_places_are, are_same_places}
use Rattle.race_triage.specs.Verdicts.{AreOn, AreOnceTold, IsAdded, IsAnswered, IsBelow, IsOneAt, IsOwn, IsVerdict}
use Rattle.race_triage.specs.declared.verdicts.Verdict.{Verdict}

pub stands_here : {X : Type 0} (x y : X) (xs : List X) → x ≡ y → Contains (x ∷ xs) y
stands_here x y xs is = (0, omega (arith, length-cons x xs), is)

-- pairs within one list, within another, and between the two
pub all_pairs_append :
    {X : Type 0} (R : X → X → Type 0) (xs ys : List X) → AllPairs R xs → AllPairs R ys
    → ((i j : ℕ) (d : X) → i < length xs → j < length ys → R (get_or xs i d) (get_or ys j d)) → AllPairs R (xs ++ ys)
all_pairs_append {X} R xs ys one other between i j d lt le =
    let n = length xs in
    let size = length-append xs ys in
    elim (cases_lt j n) [
      | inl low ↦
          subst (λ (x : X). R x (get_or (xs ++ ys) j d)) (sym (get_or_append_left xs ys d i (omega (arith, lt, low))))
          (subst (λ (y : X). R (get_or xs i d) y) (sym (get_or_append_left xs ys d j low)) (one i j d lt low))
      | inr high ↦
          let right = sym (get_or-append_right xs ys n j d refl high) in
          elim (cases_lt i n) [
            | inl low ↦
                subst (λ (x : X). R x (get_or (xs ++ ys) j d)) (sym (get_or_append_left xs ys d i low))
                (subst (λ (y : X). R (get_or xs i d) y) right (between i (j - n) d low (omega (arith, high, le, size))))
            | inr over ↦
                subst (λ (x : X). R x (get_or (xs ++ ys) j d)) (sym (get_or-append_right xs ys n i d refl over))
                (subst (λ (y : X). R (get_or ys (i - n) d) y) right (other (i - n) (j - n) d (omega (arith, lt, over)) (omega (arith, high, le, size))))
          ]
    ]

pub pairs_tail : {X : Type 0} (R : X → X → Type 0) (x : X) (xs : List X) → AllPairs R (x ∷ xs) → AllPairs R xs
pairs_tail R x xs pairs i j d lt le = pairs (suc i) (suc j) d (omega (arith, lt)) (omega (arith, le, length-cons x xs))

pub pairs_head : {X : Type 0} (R : X → X → Type 0) (x : X) (xs : List X) → AllPairs R (x ∷ xs) → (j : ℕ) (d : X) → j < length xs → R x (get_or xs j d)
pairs_head R x xs pairs j d le = pairs zero (suc j) d (omega arith) (omega (arith, le, length-cons x xs))

-- what stands in a list and is not its first stands behind that
behind_first : {X : Type 0} (x y : X) (xs : List X) → Contains (x ∷ xs) y → x ≢ y → Contains xs y
behind_first x y xs (zero, lt, at) other = absurd (other at)
behind_first x y xs (suc k, lt, at) other = (k, omega (arith, lt, length-cons x xs), at)

-- what differs and stands in a list is no more than that
pub distinct-le :
    {X Y : Type 0} (f : X → Y) (xs : List X) (ys : List Y) → AllPairs (λ (a b : X). f a ≢ f b) xs → All (λ (x : X). Contains ys (f x)) xs → length xs ≤ length ys
distinct-le f [] ys apart all = omega arith
distinct-le {X} {Y} f (x ∷ xs) ys apart all =
    let here : Contains ys (f x) = All-head (λ (z : X). Contains ys (f z)) x xs all in
    let left : List Y = remove ys here.0 in
    let moved = IsPermutation-remove ys here.0 (f x) here.1 (sym here.2) in
    let rest : All (λ (z : X). Contains left (f z)) xs =
    λ j d lt.
    let z = get_or xs j d in
    let there : Contains ys (f z) = All-get_or (λ (w : X). Contains ys (f w)) xs j d lt (All-tail (λ (w : X). Contains ys (f w)) x xs all) in
    behind_first (f x) (f z) left (Contains-permutation ys (f x ∷ left) (f z) moved there) (pairs_head (λ (a b : X). f a ≢ f b) x xs apart j d lt)
    in
    let more = distinct-le f xs left (pairs_tail (λ (a b : X). f a ≢ f b) x xs apart) rest in
    let long = length_permutation ys (f x ∷ left) moved in
    omega (arith, more, long, length-cons x xs, length-cons (f x) left)

-- whether two verdicts are on the same places
abbrev is_twice : Verdict → Verdict → Bool
is_twice v w = same_places v.row.places w.row.places

twice_flips : (v w : Verdict) → is_twice v w ≡ is_twice w v
twice_flips v w = elim (cases_Bool (is_twice v w)) [
  | inl same ↦ same ∙ sym (are_same_places w.row.places v.row.places (sym (same_places_are v.row.places w.row.places same)))
  | inr other ↦
      other
      ∙ sym (false_from_ne_true (is_twice w v)
      (λ same. true≢false (sym (are_same_places v.row.places w.row.places (sym (same_places_are w.row.places v.row.places same))) ∙ other)))
]

-- in another order no two are on the same places either
pub once-permutation : (vs ws : List Verdict) → IsPermutation vs ws → AreOnceTold vs → AreOnceTold ws
once-permutation vs ws moved once =
    let distinct = IsDistinct-from_apart is_twice vs
    (λ i j d lt le. false_from_ne_true (is_twice (get_or vs i d) (get_or vs j d))
    (λ same. once i j d lt le (same_places_are (get_or vs i d).row.places (get_or vs j d).row.places same)))
    in
    let kept = IsDistinct-IsPermutation is_twice twice_flips vs ws moved distinct in
    λ i j d lt le same.
    true≢false (sym (are_same_places (get_or ws i d).row.places (get_or ws j d).row.places same) ∙ apart_from_distinct is_twice ws i j d kept lt le)

module _ (rows : List Row) where
  pub AreOn-none : (At : ℕ → Type 0) → AreOn rows At []
  AreOn-none At = record {
    on = All-nil (λ (v : Verdict). IsOneAt rows At v.row);
    once = λ i j d lt le. absurd (omega (arith, le));
  }

  pub AreOn-weaker : (At Bt : ℕ → Type 0) (vs : List Verdict) → ((k : ℕ) → At k → Bt k) → AreOn rows At vs → AreOn rows Bt vs
  AreOn-weaker At Bt vs more are = record {
    on = All-weaker (λ (v : Verdict). IsOneAt rows At v.row) (λ (v : Verdict). IsOneAt rows Bt v.row) (λ v is. (is.0, more is.0 is.1, is.2)) vs are.on;
    once = are.once;
  }

  pub AreOn-one : (at : ℕ) (v : Verdict) → slice_get rows at ≡ Some v.row → AreOn rows (λ k. k ≡ at) (v ∷ [])
  AreOn-one at v is = record {
    on = All-cons (λ (w : Verdict). IsOneAt rows (λ k. k ≡ at) w.row) v [] (at, refl, is) (All-nil (λ (w : Verdict). IsOneAt rows (λ k. k ≡ at) w.row));
    once = λ i j d lt le. absurd (omega (arith, lt, le, length-cons v []));
  }

  -- there are no more verdicts than rows
  pub AreOn-few : (At : ℕ → Type 0) (vs : List Verdict) → AreOn rows At vs → length vs ≤ length rows
  AreOn-few At vs are =
      distinct-le (λ (v : Verdict). v.row) vs rows
      (λ i j d lt le same. are.once i j d lt le (ap (λ (row : Row). row.places) same))
      (All-weaker (λ (v : Verdict). IsOneAt rows At v.row) (λ (v : Verdict). Contains rows v.row)
      (λ v is. (is.0, slice_get_within rows is.0 v.row is.2, get_or_from_slice_get rows is.0 v.row v.row is.2)) vs are.on)

  module _ (once : AreOnce rows) where
    on_apart : (At Bt : ℕ → Type 0) (v w : Verdict) → ((k : ℕ) → At k → Bt k → ⊥) → IsOneAt rows At v.row → IsOneAt rows Bt w.row → v.row.places ≢ w.row.places
    on_apart At Bt v w others one other same =
        let here : one.0 ≡ other.0 = once one.0 other.0 v.row w.row one.2 other.2 same in
        others other.0 (subst At here one.1) other.1

    -- verdicts on rows of which none is of both
    pub AreOn-append : (At Bt Ct : ℕ → Type 0) (vs ws : List Verdict) → ((k : ℕ) → At k → Bt k → ⊥) → ((k : ℕ) → At k → Ct k) → ((k : ℕ) → Bt k → Ct k)
        → AreOn rows At vs → AreOn rows Bt ws → AreOn rows Ct (vs ++ ws)
    AreOn-append At Bt Ct vs ws others first second one other = record {
      on =
          All-append (λ (v : Verdict). IsOneAt rows Ct v.row) vs ws (AreOn-weaker At Ct vs first one).on (AreOn-weaker Bt Ct ws second other).on;
      once =
          all_pairs_append (λ (v w : Verdict). v.row.places ≢ w.row.places) vs ws one.once other.once
          (λ i j d lt le.
          on_apart At Bt (get_or vs i d) (get_or ws j d) others (All-get_or (λ (v : Verdict). IsOneAt rows At v.row) vs i d lt one.on)
          (All-get_or (λ (v : Verdict). IsOneAt rows Bt v.row) ws j d le other.on));
    }

    -- a part behind those before it
    pub AreOn-part : (every from : ℕ) (vs ws new : List Verdict) → new ≡ vs ++ ws → AreOn rows (IsBelow every from) vs → AreOn rows (λ at. at % every ≡ from) ws
        → AreOn rows (IsBelow every (from + 1)) new
    AreOn-part every from vs ws new is one other =
        subst (AreOn rows (IsBelow every (from + 1))) (sym is)
        (AreOn-append (IsBelow every from) (λ at. at % every ≡ from) (IsBelow every (from + 1)) vs ws (λ k low same. omega (arith, low, same)) (λ k low. omega (arith, low))
        (λ k same. omega (arith, same)) one other)

-- a verdict more
module _ (r : Recording) (place : ℕ → ℕ) (tries : ℕ) (apart : Bool) (row : Row) (old new : List Verdict) (is : IsAdded r place tries apart row old new) where
  pub added_all : All (IsVerdict r place tries apart) old → All (IsVerdict r place tries apart) new
  added_all all =
      subst (All (IsVerdict r place tries apart)) (sym is.added) (All-push (IsVerdict r place tries apart) old is.verdict all is.is.0)

  pub added_answers : IsAnswered new row
  added_answers = (
    is.verdict,
    subst (λ (vs : List Verdict). Contains vs is.verdict) (sym is.added)
        (Contains-append_right old (is.verdict ∷ []) is.verdict (stands_here is.verdict is.verdict [] refl)),
    is.is.1,
  )

  pub added_keeps : (v : Verdict) → Contains old v → Contains new v
  added_keeps v there = subst (λ (vs : List Verdict). Contains vs v) (sym is.added) (Contains-append_left old (is.verdict ∷ []) v there)

  pub added_on : (rows : List Row) (at from every : ℕ) → AreOnce rows → slice_get rows at ≡ Some row → at % every ≡ from
      → AreOn rows (IsOwn from every at) old → AreOn rows (IsOwn from every (at + 1)) new
  added_on rows at from every once here own on =
      subst (AreOn rows (IsOwn from every (at + 1))) (sym is.added)
      (AreOn-append rows once (IsOwn from every at) (λ k. k ≡ at) (IsOwn from every (at + 1)) old (is.verdict ∷ []) (λ k low same. omega (arith, low.0, same))
      (λ k low. (omega (arith, low.0), low.1)) (λ k same. (omega (arith, same), subst (λ i. i % every ≡ from) (sym same) own)) on
      (AreOn-one rows at is.verdict (here ∙ ap (λ (w : Row). Some w) (sym is.is.1))))
