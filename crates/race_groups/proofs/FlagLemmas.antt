-- The later events of a thread, parted into those of flagged classes and others.
use Rattle.std.proofs.Common.{◌≡◌, ℕ, ◌+◌, ◌<◌, ◌≤◌, ◌==◌, Bool, true, false, cond, List, length, sum_by, slice_index, All, refl, sym, ap, ◌∙◌, arith}
use Rattle.std.proofs.lemmas.List.Elements.{All-get_or, All-weaker}
use Rattle.rapid_text.specs.declared.event.Event.{Event}
use Rattle.event_index.specs.Lookups.{before, events_of}
use Rattle.event_index.proofs.CallerLemmas.{events_of-within}
use Rattle.race_groups.specs.Counting.{flagged_class, flagged_sum, later_count, unflagged_count}
use Rattle.race_groups.specs.declared.class.Class.{Class}
use Rattle.race_groups.proofs.SumLemmas.{sum_by_at, sum_by_each, sum_by_if, sum_by_same, sum_by_turned, sum_by-plus}
use Rattle.race_groups.proofs.PairLemmas.{sum_by_below-le}

swap : (d s : Bool) (n : ℕ) → cond d (cond s n 0) 0 ≡ cond s (cond d n 0) 0
swap true true n = refl
swap true false n = refl
swap false true n = refl
swap false false n = refl

both : (d : Bool) (n : ℕ) → cond d n 0 + cond d 0 n ≡ n
both true n = omega arith
both false n = omega arith

cond_le : (d : Bool) (n : ℕ) → cond d 0 n ≤ n
cond_le true n = omega arith
cond_le false n = omega arith

module _ (key : ℕ → ℕ) (flag : ℕ → Bool) (f : ℕ → ℕ) (n : ℕ) (xs : List ℕ) (within : All (λ b. key b < n) xs) where
  -- those of flagged classes, class by class
  pub sum_by_flagged : sum_by (λ j. cond (flag j) (sum_by (λ b. cond (key b == j) (f b) 0) xs) 0) (before n) ≡ sum_by (λ b. cond (flag (key b)) (f b) 0) xs
  sum_by_flagged =
      let term : ℕ → ℕ → ℕ = λ j b. cond (key b == j) (cond (flag j) (f b) 0) 0 in
      sum_by_each (λ j. cond (flag j) (sum_by (λ b. cond (key b == j) (f b) 0) xs) 0) (λ j. sum_by (term j) xs) (before n)
      (λ j. sum_by_if (flag j) (λ b. cond (key b == j) (f b) 0) xs ∙ sum_by_each (λ b. cond (flag j) (cond (key b == j) (f b) 0) 0) (term j) xs (λ b. swap (flag j) (key b == j) (f b)))
      ∙ sum_by_turned term (before n) xs
      ∙ sum_by_same (λ b. sum_by (λ j. term j b) (before n)) (λ b. cond (flag (key b)) (f b) 0) xs
      (All-weaker (λ b. key b < n) (λ b. sum_by (λ j. term j b) (before n) ≡ cond (flag (key b)) (f b) 0) (λ b lt. sum_by_at (key b) (λ j. cond (flag j) (f b) 0) n lt) xs within)

  -- and the others are all
  pub sum_by_parted : sum_by (λ j. cond (flag j) (sum_by (λ b. cond (key b == j) (f b) 0) xs) 0) (before n) + sum_by (λ b. cond (flag (key b)) 0 (f b)) xs ≡ sum_by f xs
  sum_by_parted =
      ap (λ m. m + sum_by (λ b. cond (flag (key b)) 0 (f b)) xs) sum_by_flagged
      ∙ sym (sum_by-plus (λ b. cond (flag (key b)) (f b) 0) (λ b. cond (flag (key b)) 0 (f b)) xs)
      ∙ sum_by_each (λ b. cond (flag (key b)) (f b) 0 + cond (flag (key b)) 0 (f b)) f xs (λ b. both (flag (key b)) (f b))

  -- those of the first flagged classes, and of one more
  pub flagged_part : (j : ℕ) → j < n
      → sum_by (λ i. cond (flag i) (sum_by (λ b. cond (key b == i) (f b) 0) xs) 0) (before j) + cond (flag j) (sum_by (λ b. cond (key b == j) (f b) 0) xs) 0 ≤ sum_by f xs
  flagged_part j lt =
      let part = sum_by_below-le (λ i. cond (flag i) (sum_by (λ b. cond (key b == i) (f b) 0) xs) 0) j n lt in
      let whole = sum_by_parted in
      omega (arith, part, whole)

-- the same of a thread's later events
module _ (T : List Event) (keeps : Class → Class → Bool) (classes : List ℕ) (infos : List Class) (u : ℕ) (end : ℕ → ℕ → ℕ) (p q : ℕ) (flags : List ℕ) (len : length classes ≡ length T) (within : All (λ c. c < length infos) classes) where
  lane_within : All (λ b. slice_index classes b < length infos) (events_of T u)
  lane_within =
      All-weaker (λ e. e < length T) (λ b. slice_index classes b < length infos) (λ b lt. All-get_or (λ c. c < length infos) classes b 0 (omega (arith, lt, len)) within) (events_of T u) (events_of-within T u)

  pub flagged_fits : (j : ℕ) → j < length infos
      → flagged_sum T keeps classes infos u end p q flags j + flagged_class T keeps classes infos u end p q flags j ≤ sum_by (later_count T keeps classes infos u end p q) (events_of T u)
  flagged_fits = flagged_part (slice_index classes) (λ j. slice_index flags j == 1) (later_count T keeps classes infos u end p q) (length infos) (events_of T u) lane_within

  pub flagged_all : flagged_sum T keeps classes infos u end p q flags (length infos) + sum_by (unflagged_count T keeps classes infos u end p q flags) (events_of T u)
      ≡ sum_by (later_count T keeps classes infos u end p q) (events_of T u)
  flagged_all = sum_by_parted (slice_index classes) (λ j. slice_index flags j == 1) (later_count T keeps classes infos u end p q) (length infos) (events_of T u) lane_within
