-- Where no pair of two places is a candidate or open, no correct reordering shows one.
use Rattle.std.proofs.Common.{◌≡◌, ℕ, zero, suc, ◌<◌, ◌==◌, ◌&&◌, ◌↔◌, Bool, true, cond, IsTrue, List, [], ◌∷◌, length, map, filter, count_by, Contains, sym, ap, ◌∙◌, subst, arith, inl, inr}
use Rattle.std.specs.List.{flat_map, slice_get}
use Rattle.std.proofs.lemmas.Bool.{cases_Bool, cases_order, cond-true, cond-false, or_cases, or_left, or_right, and_parts, and_from}
use Rattle.std.proofs.lemmas.List.Elements.{All-contains, Contains-append_left, Contains-append_right}
use Rattle.std.proofs.lemmas.List.FromFn.{length-range_with_len, get_or-range_with_len}
use Rattle.std.proofs.lemmas.List.Sums.{sum_by-cons}
use Rattle.std.proofs.lemmas.Option.{same_Some, slice_get_within}
use Rattle.rapid_text.specs.Recording.{Recording}
use Rattle.rapid_text.specs.declared.event.Event.{Event}
use Rattle.trace_rules.specs.Rules.{IsDisciplined}
use Rattle.event_index.specs.Lookups.{before}
use Rattle.event_index.specs.Relations.{IsConflicting, is_conflict}
use Rattle.event_index.proofs.CallerLemmas.{Decides-is_conflict}
use Rattle.schedule.specs.Reordering.{IsCorrectReordering}
use Rattle.schedule.specs.Shows.{Shows}
use Rattle.schedule.proofs.CallerLemmas.{Shows-sym}
use Rattle.must_order.specs.Kinds.{IsKind}
use Rattle.must_order.specs.Laws.{ApartIsNeverShown}
use Rattle.must_order.specs.declared.kind.Kind.TheVariants.{Candidate, Open}
use Rattle.race_groups.specs.Groups.{pairs_below, conflicts, group_of, is_between, IsCountOf}
use Rattle.race_groups.specs.Kinds.{IsRow, IsNeverShownBetween}
use Rattle.race_groups.specs.declared.kinds.Row.{Row}
use Rattle.race_groups.proofs.BuildLemmas.{length-cons}

at_later : {X : Type 0} (x y : X) (xs : List X) → Contains xs y → Contains (x ∷ xs) y
at_later x y xs (k, lt, at) = (suc k, omega (arith, lt, length-cons x xs), at)

at_here : {X : Type 0} (x y : X) (xs : List X) → x ≡ y → Contains (x ∷ xs) y
at_here x y xs is = (0, omega (arith, length-cons x xs), is)

in_filter : {X : Type 0} (p : X → Bool) (xs : List X) (y : X) → Contains xs y → p y ≡ true → Contains (filter p xs) y
in_filter p [] y (k, lt, at) so = absurd (omega arith)
in_filter {X} p (x ∷ xs) y (zero, lt, at) so =
    subst (λ (l : List X). Contains l y) (sym (cond-true (p x) (x ∷ filter p xs) (filter p xs) (ap p at ∙ so))) (at_here x y (filter p xs) at)
in_filter {X} p (x ∷ xs) y (suc k, lt, at) so =
    let rest : Contains (filter p xs) y = in_filter p xs y (k, omega (arith, lt, length-cons x xs), at) so in
    elim (cases_Bool (p x)) [
      | inl kept ↦ subst (λ (l : List X). Contains l y) (sym (cond-true (p x) (x ∷ filter p xs) (filter p xs) kept)) (at_later x y (filter p xs) rest)
      | inr dropped ↦ subst (λ (l : List X). Contains l y) (sym (cond-false (p x) (x ∷ filter p xs) (filter p xs) dropped)) rest
    ]

in_map : {X Y : Type 0} (f : X → Y) (xs : List X) (y : X) → Contains xs y → Contains (map f xs) (f y)
in_map f [] y (k, lt, at) = absurd (omega arith)
in_map f (x ∷ xs) y (zero, lt, at) = at_here (f x) (f y) (map f xs) (ap f at)
in_map f (x ∷ xs) y (suc k, lt, at) = at_later (f x) (f y) (map f xs) (in_map f xs y (k, omega (arith, lt, length-cons x xs), at))

in_flat_map : {X Y : Type 0} (g : X → List Y) (xs : List X) (z : X) (y : Y) → Contains xs z → Contains (g z) y → Contains (flat_map g xs) y
in_flat_map g [] z y (k, lt, at) inner = absurd (omega arith)
in_flat_map g (x ∷ xs) z y (zero, lt, at) inner = Contains-append_left (g x) (flat_map g xs) y (subst (λ w. Contains (g w) y) (sym at) inner)
in_flat_map g (x ∷ xs) z y (suc k, lt, at) inner =
    Contains-append_right (g x) (flat_map g xs) y (in_flat_map g xs z y (k, omega (arith, lt, length-cons x xs), at) inner)

in_before : (n k : ℕ) → k < n → Contains (before n) k
in_before n k lt =
    let size = length-range_with_len 0 n in
    (k, omega (arith, size), get_or-range_with_len 0 n k k lt ∙ omega arith)

-- each conflicting pair stands in its group
pub in_group : (T : List Event) (place : ℕ → ℕ) (p q a b : ℕ) → a < b → IsConflicting T a b → is_between p q (place a) (place b) ≡ true → Contains (group_of T place p q) (a, b)
in_group T place p q a b lt conflict between =
    let low : b < length T = slice_get_within T b conflict.w conflict.second in
    let pair = in_flat_map (λ d. map (λ c. (c, d)) (before d)) (before (length T)) b (a, b) (in_before (length T) b low) (in_map (λ c. (c, b)) (before b) a (in_before b a lt)) in
    let clash : is_conflict T a b ≡ true = (Decides-is_conflict T a b).1 conflict in
    in_filter (λ e. is_between p q (place e.0) (place e.1)) (conflicts T) (a, b) (in_filter (λ e. is_conflict T e.0 e.1) (pairs_below (length T)) (a, b) pair clash) between

counts_one : {X : Type 0} (test : X → Bool) (xs : List X) (x : X) → Contains xs x → test x ≡ true → 0 < count_by test xs
counts_one test [] x (k, lt, at) so = absurd (omega arith)
counts_one test (y ∷ xs) x (zero, lt, at) so =
    let parts = sum_by-cons (λ z. cond (test z) 1 0) y xs in
    let one : ◌≡◌ {A = ℕ} (cond (test y) 1 0) 1 = ap (λ (t : Bool). cond t 1 0) (ap test at ∙ so) in
    omega (arith, parts, one)
counts_one test (y ∷ xs) x (suc k, lt, at) so =
    let parts = sum_by-cons (λ z. cond (test z) 1 0) y xs in
    let rest = counts_one test xs x (k, omega (arith, lt, length-cons y xs), at) so in
    omega (arith, parts, rest)

-- what is counted as none holds of no element
pub none_counted : {X : Type 0} (P : X → Type 0) (xs : List X) (n : ℕ) (x : X) → IsCountOf P xs n → n ≡ 0 → Contains xs x → ¬ P x
none_counted P xs n x counted none there holds =
    let told = All-contains (λ y. IsTrue (counted.test y) ↔ P y) xs x counted.tells there in
    let some = counts_one counted.test xs x there (told.1 holds) in
    let same = counted.count in
    omega (arith, some, same, none)

module _ (r : Recording) (rules : IsDisciplined r.events) (law : ApartIsNeverShown) (place : ℕ → ℕ) (row : Row) (is : IsRow r place row) (no_candidate : row.counts.candidates ≡ 0) (none_is_open : row.counts.open_pairs ≡ 0) where
  rising_never : (a b : ℕ) (P : List ℕ) → a < b → is_between row.places.0 row.places.1 (place a) (place b) ≡ true → IsCorrectReordering r.events P → ¬ Shows r.events P a b
  rising_never a b P lt between reordering shows =
      let group = group_of r.events place row.places.0 row.places.1 in
      let there = in_group r.events place row.places.0 row.places.1 a b lt shows.conflict between in
      let not_candidate = none_counted (λ e. IsKind r e.0 e.1 Candidate) group row.counts.candidates (a, b) is.candidates no_candidate there in
      let not_open = none_counted (λ e. IsKind r e.0 e.1 Open) group row.counts.open_pairs (a, b) is.open_pairs none_is_open there in
      not_open (
        not_candidate,
        (λ forced. (law r.events P a b rules reordering (inl forced)).0 shows),
        λ l lt' shared. (law r.events P a b rules reordering (inr (l, shared))).0 shows,
      )

  between_turned : (a b : ℕ) → is_between row.places.0 row.places.1 (place a) (place b) ≡ true → is_between row.places.0 row.places.1 (place b) (place a) ≡ true
  between_turned a b between =
      let p = row.places.0 in
      let q = row.places.1 in
      elim (or_cases (place a == p && place b == q) (place a == q && place b == p) between) [
        | inl one ↦
            let both = and_parts (place a == p) (place b == q) one in
            or_right (place b == p && place a == q) (place b == q && place a == p) (and_from (place b == q) (place a == p) both.1 both.0)
        | inr other ↦
            let both = and_parts (place a == q) (place b == p) other in
            or_left (place b == p && place a == q) (place b == q && place a == p) (and_from (place b == p) (place a == q) both.1 both.0)
      ]

  pub never_between : IsNeverShownBetween r.events place row.places.0 row.places.1
  never_between a b P between reordering shows =
      elim (cases_order a b) [
        | inl same ↦
            let c = shows.conflict in
            c.clash.threads (ap (λ (v : Event). v.thread) (same_Some c.v c.w (sym c.first ∙ ap (slice_get r.events) same ∙ c.second)))
        | inr (inl lt) ↦ rising_never a b P lt between reordering shows
        | inr (inr gt) ↦ rising_never b a P gt (between_turned a b between) reordering (Shows-sym r.events P a b shows)
      ]
