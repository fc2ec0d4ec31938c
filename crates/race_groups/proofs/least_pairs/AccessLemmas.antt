-- The list of all accesses of a variable.
use Rattle.std.proofs.Common.{◌≡◌, ℕ, ◌+◌, ◌<◌, ◌≤◌, true, List, Contains, filter, length, slice_index, get_or, sym, ap, ◌∙◌, subst, arith, inl, inr}
use Rattle.std.specs.List.{AllPairs}
use Rattle.std.proofs.lemmas.Bool.{cases_lt}
use Rattle.std.proofs.lemmas.List.{get_or_default, get_or_past}
use Rattle.std.proofs.lemmas.List.Elements.{All-get_or, All-same, filter_passes}
use Rattle.std.proofs.lemmas.List.FromFn.{get_or-range_with_len, length-range_with_len}
use Rattle.std.proofs.lemmas.List.Kept.{AllPairs-filter}
use Rattle.std.proofs.lemmas.Option.{slice_get_within}
use Rattle.rapid_text.specs.declared.event.Event.{Event}
use Rattle.event_index.specs.Lookups.{before}
use Rattle.event_index.specs.Relations.{is_access}
use Rattle.event_index.proofs.CallerLemmas.{passes_event}
use Rattle.schedule.proofs.ListLemmas.{Contains-filter}
use Rattle.race_groups.specs.least_pairs.Pairs.{is_access_at}

before_rises : (n : ℕ) → AllPairs (λ a b. a < b) (before n)
before_rises n = λ i k d lt within.
    let len = length-range_with_len 0 n in
    let first = get_or-range_with_len 0 n i d (omega (arith, len)) in
    let second = get_or-range_with_len 0 n k d (omega (arith, len)) in
    omega (arith, first, second)

-- an access is an event of the trace
access_within : (T : List Event) (x e : ℕ) → is_access_at T x e ≡ true → e < length T
access_within T x e access =
    let found = passes_event (λ v. is_access x v.op) T e access in
    slice_get_within T e found.0 found.1

module _ (T : List Event) (x : ℕ) (xs : List ℕ) (are : xs ≡ filter (is_access_at T x) (before (length T))) where
  pub accesses_pass : (i : ℕ) → i < length xs → is_access_at T x (slice_index xs i) ≡ true
  accesses_pass i lt =
      let P = λ (e : ℕ). is_access_at T x e ≡ true in
      All-get_or P xs i 0 lt (All-same P xs (filter (is_access_at T x) (before (length T))) are (filter_passes (is_access_at T x) (before (length T))))

  pub accesses_within : (i : ℕ) → i < length xs → slice_index xs i < length T
  accesses_within i lt = access_within T x (slice_index xs i) (accesses_pass i lt)

  rising : AllPairs (λ a b. a < b) xs
  rising = subst (AllPairs (λ a b. a < b)) (sym are) (AllPairs-filter (λ a b. a < b) (is_access_at T x) (before (length T)) (before_rises (length T)))

  pub accesses_before : (i k : ℕ) → i < k → k < length xs → slice_index xs i < slice_index xs k
  accesses_before i k lt within = rising i k 0 lt within

  -- behind an access comes the next one, or no event any more
  pub accesses_rise : (i : ℕ) → i < length xs → slice_index xs i + 1 ≤ get_or xs (i + 1) (length T)
  accesses_rise i lt = elim (cases_lt (i + 1) (length xs)) [
    | inl more ↦
        let up = rising i (i + 1) 0 (omega arith) more in
        let same = get_or_default xs (i + 1) (length T) 0 more in
        omega (arith, up, same)
    | inr last ↦
        let end = get_or_past xs (i + 1) (length T) last in
        omega (arith, end, accesses_within i lt)
  ]

  -- each access is in the list
  pub access_there : (e : ℕ) → is_access_at T x e ≡ true → (i : ℕ) × (i < length xs) × (slice_index xs i ≡ e)
  access_there e access =
      let lt = access_within T x e access in
      let n = length T in
      let here : get_or (before n) e e ≡ e = get_or-range_with_len 0 n e e lt ∙ omega arith in
      let low : e < length (before n) = omega (arith, length-range_with_len 0 n) in
      let kept : Contains xs e = subst (λ (ys : List ℕ). Contains ys e) (sym are) (Contains-filter (is_access_at T x) (before n) e (e, low, here) access) in
      (kept.0, kept.1, sym (get_or_default xs kept.0 e 0 kept.1) ∙ kept.2)

  -- an access before the next one is one of the first
  pub access_before : (n e : ℕ) → is_access_at T x e ≡ true → e < get_or xs n (length T) → (i : ℕ) × (i < n) × (slice_index xs i ≡ e)
  access_before n e access lt =
      let there = access_there e access in
      let is : slice_index xs there.0 ≡ e = there.2 in
      elim (cases_lt there.0 n) [
        | inl low ↦ (there.0, low, is)
        | inr high ↦
            let inside : n < length xs = omega (arith, high, there.1) in
            let same = get_or_default xs n (length T) 0 inside in
            elim (cases_lt n there.0) [
              | inl apart ↦ let up = rising n there.0 0 apart there.1 in absurd (omega (arith, up, is, same, lt))
              | inr le ↦
                  let one : there.0 ≡ n = omega (arith, le, high) in
                  let at = ap (slice_index xs) one in
                  absurd (omega (arith, at, is, same, lt))
            ]
      ]
