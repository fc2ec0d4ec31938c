-- The numbers below n that pass a test: their members, how many of them pass another test, and which is
-- the last of these.
use Rattle.std.proofs.Common.{◌≡◌, ℕ, zero, suc, ◌+◌, ◌<◌, ◌≤◌, Bool, true, false, cond, List, [], ◌∷◌, ◌++◌, length, take, reverse, get_or, find, count_by, Contains, Some, slice_get, sym, refl, ap, ◌∙◌, subst, arith, add-one, append-nil, inl, inr}
use Rattle.std.specs.List.{AllPairs}
use Rattle.std.proofs.lemmas.Bool.{cases_Bool, true≢false}
use Rattle.std.proofs.lemmas.List.FromFn.{length-range_with_len, get_or-range_with_len}
use Rattle.std.proofs.lemmas.List.Elements.{filter_passes}
use Rattle.std.proofs.lemmas.List.Sums.{sum_by_push}
use Rattle.std.proofs.lemmas.List.Kept.{AllPairs-filter}
use Rattle.std.proofs.lemmas.Option.{slice_get-get_or}
use Rattle.rapid_text.specs.declared.event.Event.{Event}
use Rattle.rapid_text.specs.declared.event.Op.TheVariants.{Read}
use Rattle.event_index.specs.Events.{passes_at}
use Rattle.event_index.specs.Lookups.{before}
use Rattle.event_index.proofs.CallerLemmas.{before_more, filter_more_before, find_last_yes, find_last_no, passes_here, count_more}
use Rattle.schedule.proofs.CallerLemmas.{Contains-filter, Contains-from_filter, find-reverse_push}
use Rattle.witness_search.specs.Layout.{kept}

pub kept_yes : (test : ℕ → Bool) (n : ℕ) → test n ≡ true → kept test (n + 1) ≡ kept test n ++ n ∷ []
kept_yes test n so = filter_more_before test n ∙ ap (λ b. kept test n ++ cond b (n ∷ []) []) so

pub kept_no : (test : ℕ → Bool) (n : ℕ) → test n ≡ false → kept test (n + 1) ≡ kept test n
kept_no test n fails = filter_more_before test n ∙ ap (λ b. kept test n ++ cond b (n ∷ []) []) fails ∙ append-nil (kept test n)

-- the first n numbers are those below n, and rise
before_has : (n d : ℕ) → d < n → Contains (before n) d
before_has n d lt = (d, omega (arith, length-range_with_len 0 n), get_or-range_with_len 0 n d d lt ∙ omega arith)

before_below : (n d : ℕ) → Contains (before n) d → d < n
before_below n d (k, lt, at) =
    let low : k < n = omega (arith, length-range_with_len 0 n) in
    omega (arith, get_or-range_with_len 0 n k d low)

before-rises : (n : ℕ) → AllPairs (λ x y. x < y) (before n)
before-rises n i j d ij jn =
    let low : j < n = omega (arith, length-range_with_len 0 n) in
    omega (arith, get_or-range_with_len 0 n i d (omega arith), get_or-range_with_len 0 n j d low)

-- the members are those that pass
pub kept_member : (test : ℕ → Bool) (n d : ℕ) → d < n → test d ≡ true → Contains (kept test n) d
kept_member test n d lt so = Contains-filter test (before n) d (before_has n d lt) so

pub kept_below : (test : ℕ → Bool) (n d : ℕ) → Contains (kept test n) d → d < n
kept_below test n d within = before_below n d (Contains-from_filter test (before n) d within)

pub kept_passes : (test : ℕ → Bool) (n d : ℕ) → Contains (kept test n) d → test d ≡ true
kept_passes test n d (k, lt, at) = rw (← at) (filter_passes test (before n) k d lt)

-- they rise
pub kept-rises : (test : ℕ → Bool) (n : ℕ) → AllPairs (λ x y. x < y) (kept test n)
kept-rises test n = AllPairs-filter (λ x y. x < y) test (before n) (before-rises n)

-- one number more
more : (p : ℕ → Bool) (n : ℕ) → count_by p (before (n + 1)) ≡ count_by p (before n) + cond (p n) 1 0
more p n = ap (count_by p) (before_more n) ∙ sum_by_push (λ d. cond (p d) 1 0) (before n) n

more_kept : (p test : ℕ → Bool) (n : ℕ) → test n ≡ true → count_by p (kept test (n + 1)) ≡ count_by p (kept test n) + cond (p n) 1 0
more_kept p test n so = ap (count_by p) (kept_yes test n so) ∙ sum_by_push (λ d. cond (p d) 1 0) (kept test n) n

-- a second test counts no more among those that pass the first
pub count_by-kept_le : (p test : ℕ → Bool) (n : ℕ) → count_by p (kept test n) ≤ count_by p (before n)
count_by-kept_le p test zero = omega arith
count_by-kept_le p test (suc n) =
    let rest = count_by-kept_le p test n in
    subst (λ (k : ℕ). count_by p (kept test k) ≤ count_by p (before k)) (add-one n)
    (elim (cases_Bool (test n)) [
      | inl so ↦ omega (arith, rest, more p n, more_kept p test n so)
      | inr fails ↦ let same = ap (count_by p) (kept_no test n fails) in omega (arith, rest, more p n, same)
    ])

-- and as many, where all that pass the second pass the first
pub count_by-kept : (p test : ℕ → Bool) (n : ℕ) → ((d : ℕ) → d < n → p d ≡ true → test d ≡ true) → count_by p (kept test n) ≡ count_by p (before n)
count_by-kept p test zero all = refl
count_by-kept p test (suc n) all =
    let rest : count_by p (kept test n) ≡ count_by p (before n) = count_by-kept p test n (λ d lt. all d (omega arith)) in
    subst (λ (k : ℕ). count_by p (kept test k) ≡ count_by p (before k)) (add-one n)
    (elim (cases_Bool (test n)) [
      | inl so ↦ more_kept p test n so ∙ ap (λ k. k + cond (p n) 1 0) rest ∙ sym (more p n)
      | inr fails ↦ elim (cases_Bool (p n)) [
        | inl passes ↦ absurd (true≢false (sym (all n (omega arith) passes) ∙ fails))
        | inr not_either ↦ rw (kept_no test n fails, more p n, not_either) (omega (arith, rest))
      ]
    ])

-- the last that passes a second test is the same among those that pass the first, where it passes the first
pub find_last-kept : (p test : ℕ → Bool) (n : ℕ) → ((w : ℕ) → find p (reverse (before n)) ≡ Some w → test w ≡ true) → find p (reverse (kept test n)) ≡ find p (reverse (before n))
find_last-kept p test zero passes = refl
find_last-kept p test (suc n) passes =
    let now : (w : ℕ) → find p (reverse (before (n + 1))) ≡ Some w → test w ≡ true = rw add-one passes in
    subst (λ (k : ℕ). find p (reverse (kept test k)) ≡ find p (reverse (before k))) (add-one n)
    (elim (cases_Bool (p n)) [
      | inl last ↦ rw (kept_yes test n (now n (find_last_yes p n last)), find-reverse_push p (kept test n) n, last, find_last_yes p n last) refl
      | inr other ↦
          let rest = find_last-kept p test n (λ w is. now w (find_last_no p n other ∙ is)) in
          elim (cases_Bool (test n)) [
            | inl so ↦ rw (kept_yes test n so, find-reverse_push p (kept test n) n, other, find_last_no p n other) rest
            | inr fails ↦ rw (kept_no test n fails, find_last_no p n other) rest
          ]
    ])

-- an event of the trace
pub event_there : (T : List Event) (e : ℕ) → e < length T → (v : Event) × (slice_get T e ≡ Some v)
event_there T e within = (get_or T e (record { thread = 0; op = Read 0 }), slice_get-get_or T e _ within)

-- counting the first numbers is counting the first events
pub count_by-before : (T : List Event) (test : Event → Bool) (n : ℕ) → n ≤ length T → count_by (passes_at test T) (before n) ≡ count_by test (take n T)
count_by-before T test zero fits = refl
count_by-before T test (suc n) fits =
    let (v, at) = event_there T n (omega arith) in
    let rest : count_by (passes_at test T) (before n) ≡ count_by test (take n T) = count_by-before T test n (omega arith) in
    subst (λ (k : ℕ). count_by (passes_at test T) (before k) ≡ count_by test (take k T)) (add-one n) (more (passes_at test T) n
    ∙ ap (λ b. count_by (passes_at test T) (before n) + cond b 1 0) (passes_here test T n v at) ∙ ap (λ k. k + cond (test v) 1 0) rest
    ∙ sym (count_more test T n v at))
