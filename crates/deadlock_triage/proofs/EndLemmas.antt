-- What holds for the verdicts after all pairs of requests were visited, in any order.
use Rattle.std.proofs.Common.{◌≡◌, ◌≢◌, ℕ, zero, suc, ◌-◌, ◌<◌, ◌≤◌, Bool, true, false, List, All, AllPairs, IsPermutation, Vec, length, get_or, Some, refl, sym, ap, ◌∙◌, subst, arith, inl, inr, nat_eq}
use Rattle.std.specs.Cmp.Lexicographic.{pointwise, bytes_decides}
use Rattle.std.specs.List.{slice_get}
use Rattle.std.specs.declared.alloc.Global.{Global}
use Rattle.std.proofs.lemmas.Bool.{cases_Bool, cases_lt, cases_order, false_from_ne_true, true≢false}
use Rattle.std.proofs.lemmas.List.Sorted.{All-permutation, Contains-permutation}
use Rattle.std.proofs.lemmas.Map.Keys.{IsDistinct-IsPermutation, IsDistinct-from_apart, apart_from_distinct}
use Rattle.std.proofs.lemmas.Option.{get_or_from_slice_get, same_Some, slice_get-get_or, slice_get_within}
use Rattle.rapid_text.specs.Recording.{Recording}
use Rattle.lock_waits.specs.Waits.{WaitsFor}
use Rattle.deadlock_triage.specs.Patterns.{locations_of}
use Rattle.deadlock_triage.specs.Requests.{AreNested, IsNested, IsPair}
use Rattle.deadlock_triage.specs.Rows.{AreRows, IsSeen}
use Rattle.deadlock_triage.specs.Verdicts.{AreApart, AreComplete, ArePatternsOnce, AreVerdicts, IsApart, IsVerdict}
use Rattle.deadlock_triage.specs.declared.outcomes.Verdict.{Verdict}
use Rattle.deadlock_triage.proofs.ListLemmas.{All-at, Contains-at, at-Contains}
use Rattle.deadlock_triage.proofs.PatternLemmas.{cycle_first, cycle_second, locations-same}
use Rattle.deadlock_triage.proofs.VisitLemmas.{nested_within}

module _ (xs : List ℕ) (rises : AllPairs ◌<◌ xs) where
  index_below : (k : ℕ) → k < length xs → k ≤ get_or xs k 0
  index_below zero lt = omega arith
  index_below (suc k) lt =
      let before = index_below k (omega (arith, lt)) in
      let step = rises k (suc k) 0 (omega arith) lt in
      omega (arith, before, step)

  -- rising numbers below n are at most n
  pub rising-length : (n : ℕ) → ((k : ℕ) → k < length xs → get_or xs k 0 < n) → length xs ≤ n
  rising-length n below =
      elim (cases_lt 0 (length xs)) [
        | inl some ↦
            let last = index_below (length xs - 1) (omega (arith, some)) in
            let low = below (length xs - 1) (omega (arith, some)) in
            omega (arith, some, last, low)
        | inr none ↦ omega (arith, none)
      ]

-- there are at most as many nested requests as events
pub nested-length : (r : Recording) (nested : List ℕ) → AreNested r nested → length nested ≤ length r.events
nested-length r nested all = rising-length nested all.rising (length r.events) (λ k lt. nested_within r nested k all lt)

module _ (r : Recording) (nested : List ℕ) (all : AreNested r nested) where
  -- both requests of a pair are nested
  first_nested : (e d : ℕ) → IsPair r e d → IsNested r e
  first_nested e d pair =
      let w : WaitsFor r.events d e = cycle_second r.events e d pair.cycle in
      record { request = pair.first; other = w.lock; holds = w.held }

  second_nested : (e d : ℕ) → IsPair r e d → IsNested r d
  second_nested e d pair =
      let w : WaitsFor r.events e d = cycle_first r.events e d pair.cycle in
      record { request = pair.second; other = w.lock; holds = w.held }

  pub all_seen : (n e d : ℕ) → n ≡ length nested → IsPair r e d → IsSeen nested 0 n e d
  all_seen n e d whole pair =
      let a = at-Contains nested e (all.all e (first_nested e d pair)) in
      let b = at-Contains nested d (all.all d (second_nested e d pair)) in
      let x = slice_get_within nested a.0 e a.1 in
      let y = slice_get_within nested b.0 d b.1 in
      let at_a : get_or nested a.0 0 ≡ e = get_or_from_slice_get nested a.0 e 0 a.1 in
      let at_b : get_or nested b.0 0 ≡ d = get_or_from_slice_get nested b.0 d 0 b.1 in
      let lower : a.0 < b.0 =
      elim (cases_order a.0 b.0) [
        | inl same ↦ let one : e ≡ d = sym at_a ∙ ap (λ k. get_or nested k 0) same ∙ at_b in absurd (omega (arith, pair.earlier, one))
        | inr other ↦ elim other [
          | inl low ↦ low
          | inr high ↦ let turned = all.rising b.0 a.0 0 high x in absurd (omega (arith, pair.earlier, turned, at_a, at_b))
        ]
      ] in
      record { a = a.0; b = b.0; lower = lower; first = a.1; second = b.1; low = inl (omega (arith, y, whole)) }

module _ (r : Recording) (place : ℕ → ℕ) (nested : List ℕ) (whole : Bool) (n : ℕ) (keys : List (Vec ℕ Global)) (vs : List Verdict) (rows : AreRows r place nested whole 0 n keys vs) where
  pub end-verdicts : AreVerdicts r place vs
  end-verdicts = All-at (IsVerdict r place) vs rows.verdicts

  pub end-once : ArePatternsOnce vs
  end-once i j d lt le same =
      let one = rows.once i j (get_or vs i d) (get_or vs j d) (slice_get-get_or vs i d (omega (arith, lt, le))) (slice_get-get_or vs j d le) same in
      omega (arith, one, lt)

  module _ (all : AreNested r nested) (visited : whole ≡ true → n ≡ length nested) where
    pub end-apart : AreApart r place vs
    end-apart =
        All-at (IsApart r place) vs
        (λ k v at is_apart e d pair has.
        rows.apart k v at is_apart e d (all_seen r nested all n e d (visited (rows.if_whole k v at is_apart)) pair) pair has)

    pub end-complete : whole ≡ true → AreComplete r place vs
    end-complete so e d pair =
        let f = rows.found e d (all_seen r nested all n e d (visited so) pair) pair in
        (f.verdict, Contains-at vs f.at f.verdict f.is, f.pattern)

-- whether two verdicts are on one pattern
abbrev is_twice : Verdict → Verdict → Bool
is_twice v w = pointwise nat_eq (locations_of v.pattern) (locations_of w.pattern)

twice-same : (v w : Verdict) → is_twice v w ≡ true → v.pattern ≡ w.pattern
twice-same v w so = locations-same v.pattern w.pattern ((bytes_decides (locations_of v.pattern) (locations_of w.pattern)).0 so)

same-twice : (v w : Verdict) → v.pattern ≡ w.pattern → is_twice v w ≡ true
same-twice v w so = (bytes_decides (locations_of v.pattern) (locations_of w.pattern)).1 (ap locations_of so)

twice_flips : (v w : Verdict) → is_twice v w ≡ is_twice w v
twice_flips v w = elim (cases_Bool (is_twice v w)) [
  | inl same ↦ same ∙ sym (same-twice w v (sym (twice-same v w same)))
  | inr other ↦ other ∙ sym (false_from_ne_true (is_twice w v) (λ same. true≢false (sym (same-twice v w (sym (twice-same w v same))) ∙ other)))
]

-- in another order the same holds
module _ (vs ws : List Verdict) (moved : IsPermutation vs ws) where
  pub once-permutation : ArePatternsOnce vs → ArePatternsOnce ws
  once-permutation once =
      let distinct = IsDistinct-from_apart is_twice vs
      (λ i j d lt le. false_from_ne_true (is_twice (get_or vs i d) (get_or vs j d)) (λ same. once i j d lt le (twice-same (get_or vs i d) (get_or vs j d) same)))
      in
      let kept = IsDistinct-IsPermutation is_twice twice_flips vs ws moved distinct in
      λ i j d lt le same. true≢false (sym (same-twice (get_or ws i d) (get_or ws j d) same) ∙ apart_from_distinct is_twice ws i j d kept lt le)

  pub complete-permutation : (r : Recording) (place : ℕ → ℕ) → AreComplete r place vs → AreComplete r place ws
  complete-permutation r place complete e d pair =
      let f = complete e d pair in
      (f.0, Contains-permutation vs ws f.0 moved f.1, f.2)

-- what holds for the verdicts in another order
module _ (r : Recording) (place : ℕ → ℕ) (nested : List ℕ) (whole : Bool) (n : ℕ) (keys : List (Vec ℕ Global)) (vs ws : List Verdict) (rows : AreRows r place nested whole 0 n keys vs) (moved : IsPermutation vs ws) where
  pub sorted-verdicts : AreVerdicts r place ws
  sorted-verdicts = All-permutation (IsVerdict r place) vs ws moved (end-verdicts r place nested whole n keys vs rows)

  pub sorted-once : ArePatternsOnce ws
  sorted-once = once-permutation vs ws moved (end-once r place nested whole n keys vs rows)

  module _ (all : AreNested r nested) (visited : whole ≡ true → n ≡ length nested) where
    pub sorted-apart : AreApart r place ws
    sorted-apart = All-permutation (IsApart r place) vs ws moved (end-apart r place nested whole n keys vs rows all visited)

    pub sorted-complete : whole ≡ true → AreComplete r place ws
    sorted-complete so = complete-permutation vs ws moved r place (end-complete r place nested whole n keys vs rows all visited so)
