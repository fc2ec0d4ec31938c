-- The classes of which one thread has all events: nothing is counted of them for that thread, and a walk passes by a run of them.
use Rattle.std.proofs.Common.{◌≡◌, ◌≢◌, ℕ, zero, suc, ◌+◌, ◌<◌, ◌≤◌, ◌==◌, List, length, take, sum_by, slice_index, All, Some, cond, sym, ap, ◌∙◌, inl, inr, add-one, arith}
use Rattle.std.proofs.lemmas.Bool.{cases_eq, cases_lt, cond-false, ne_eqb}
use Rattle.std.proofs.lemmas.List.Elements.{All-take, All-weaker}
use Rattle.std.proofs.lemmas.List.Sums.{sum_by_more}
use Rattle.rapid_text.specs.declared.event.Event.{Event}
use Rattle.rapid_text.specs.Recording.{Recording}
use Rattle.event_index.specs.Events.{thread_at}
use Rattle.event_index.specs.Lookups.{before, events_of}
use Rattle.event_index.proofs.CallerLemmas.{events_of-thread}
use Rattle.race_groups.specs.Counting.{IsFront, class_count, front_count}
use Rattle.race_groups.specs.Owners.{AreOwners}
use Rattle.race_groups.proofs.SumLemmas.{sum_by_same, sum_by_each, sum_by_zero}

module _ (T : List Event) (threads : ℕ) (classes owners : List ℕ) (are : AreOwners T threads classes owners) (u c : ℕ) (lt : u < threads) (own : slice_index owners c ≡ u) where
  -- an event of such a class is of the owner
  of_owner : (e t : ℕ) → thread_at T e ≡ Some t → slice_index classes e ≡ c → t ≡ u
  of_owner e t at is =
      let here : slice_index owners (slice_index classes e) ≡ u = ap (slice_index owners) is ∙ own in
      sym (are e t at (omega (arith, here))) ∙ here

  -- no other thread has one
  pub other_none : (t : ℕ) → t ≢ u → (xs : List ℕ) → All (λ e. thread_at T e ≡ Some t) xs → class_count classes c xs ≡ 0
  other_none t ne xs all =
      let f : ℕ → ℕ = λ e. cond (slice_index classes e == c) 1 0 in
      let g : ℕ → ℕ = λ e. 0 in
      sum_by_same f g xs
      (All-weaker (λ e. thread_at T e ≡ Some t) (λ e. f e ≡ g e)
      (λ e at. elim (cases_eq (slice_index classes e) c) [ inl is ↦ absurd (ne (of_owner e t at is)) | inr fails ↦ cond-false (slice_index classes e == c) 1 0 (ne_eqb (slice_index classes e) c fails) ])
      xs all)
      ∙ sum_by_zero xs

  -- none comes before the fronts of the owner
  pub front_none : (fronts : List ℕ) → slice_index fronts u ≡ 0 → front_count T threads classes fronts c ≡ 0
  front_none fronts begin =
      sum_by_each (λ t. class_count classes c (take (slice_index fronts t) (events_of T t))) (λ t. 0) (before threads)
      (λ t. elim (cases_eq t u) [
        | inl is ↦ ap (λ n. class_count classes c (take n (events_of T t))) (ap (slice_index fronts) is ∙ begin)
        | inr ne ↦ other_none t ne (take (slice_index fronts t) (events_of T t)) (All-take (λ e. thread_at T e ≡ Some t) (slice_index fronts t) (events_of T t) (events_of-thread T t))
      ])
      ∙ sum_by_zero (before threads)

-- nothing is counted of a thread's own classes
pub own_nothing : (r : Recording) (n : ℕ) (classes : List ℕ) (u : ℕ) (end : ℕ → ℕ → ℕ) (i : ℕ) (fronts counts : List ℕ) → IsFront r.events (length r.threads) n classes u end i fronts counts
    → (owners : List ℕ) → AreOwners r.events (length r.threads) classes owners → u < length r.threads
    → (c : ℕ) → c < n → slice_index owners c ≡ u → slice_index counts c ≡ 0
own_nothing r n classes u end i fronts counts are owners owned lt c low own =
    are.counts.counted c (omega (arith, low, are.len))
    ∙ front_none r.events (length r.threads) classes owners owned u c lt own fronts are.own

-- a walk passes by places whose terms are 0
pub sum_by_passed : (f : ℕ → ℕ) (cs : List ℕ) (i n : ℕ) → i ≤ n → n ≤ length cs → ((k : ℕ) → i ≤ k → k < n → f (slice_index cs k) ≡ 0) → sum_by f (take n cs) ≡ sum_by f (take i cs)
sum_by_passed f cs i zero le low none =
    let is : 0 ≡ i = omega (arith, le) in
    ap (λ m. sum_by f (take m cs)) is
sum_by_passed f cs i (suc n) le low none =
    elim (cases_lt n i) [
      | inl over ↦
          let is : suc n ≡ i = omega (arith, le, over) in
          ap (λ m. sum_by f (take m cs)) is
      | inr under ↦
          let rest = sum_by_passed f cs i n (omega (arith, under)) (omega (arith, low)) (λ k from to. none k from (omega (arith, to))) in
          let more : sum_by f (take (suc n) cs) ≡ sum_by f (take n cs) + f (slice_index cs n) = ap (λ m. sum_by f (take m cs)) (sym (add-one n)) ∙ sum_by_more f cs n 0 (omega (arith, low)) in
          let here = none n (omega (arith, under)) (omega arith) in
          omega (arith, rest, more, here)
    ]
