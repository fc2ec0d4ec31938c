-- What is added of what comes below one cut and not below the next.
use Rattle.std.proofs.Common.{◌≡◌, ℕ, ◌+◌, ◌-◌, ◌<◌, ◌≤◌, Bool, true, false, List, sum_by, slice_index, All, refl, ap, ◌∙◌, arith}
use Rattle.std.specs.Bool.{if◌then◌else◌}
use Rattle.std.proofs.lemmas.List.Sums.{sum_by-le-sum_by}
use Rattle.rapid_text.specs.declared.event.Event.{Event}
use Rattle.event_index.specs.Lookups.{count_before}
use Rattle.shb_clocks.specs.SharedRows.{Counted}
use Rattle.race_groups.specs.Basis.{loose_of}
use Rattle.race_groups.specs.Counting.{AreFronts, IsFront}
use Rattle.race_groups.specs.Ends.{counted_before, known_before, lower_of, nothing, upper_of}
use Rattle.race_groups.specs.Rows.{Part, of_all, of_candidates, of_ordered, of_guarded, by_part}
use Rattle.race_groups.proofs.MonotoneLemmas.{front_count-mono, share_parted}
use Rattle.race_groups.proofs.SumLemmas.{sum_by_each, sum_by_zero}
use Rattle.std.proofs.lemmas.Bool.{cases_eq}
use Rattle.std.proofs.Common.{inl, inr}

-- nothing of each class
abbrev pub none_of : ℕ → ℕ
none_of c = 0

-- what comes below the part's cut
abbrev pub upper_counts : List ℕ → List ℕ → Part → ℕ → ℕ
upper_counts earlier known = by_part none_of (slice_index earlier) (slice_index known)

nothing_if : (b : Bool) → ◌≡◌ {A = ℕ} (if b then 0 else 0) 0
nothing_if true = refl
nothing_if false = refl

pub sum_nothing : (d : ℕ → Bool) (cs : List ℕ) → sum_by (λ c. if d c then none_of c else 0) cs ≡ 0
sum_nothing d cs = sum_by_each (λ c. if d c then none_of c else 0) none_of cs (λ c. nothing_if (d c)) ∙ sum_by_zero cs

-- What is added and what comes below the lower cut are what comes below the upper one. `X` tells how much comes below a cut.
module _ (T : List Event) (rows : Counted) (d : ℕ → Bool) (earlier known forced cs : List ℕ) (X : (ℕ → ℕ → ℕ) → ℕ)
    (under : All (λ c. slice_index known c ≤ slice_index earlier c) cs) (within : All (λ c. slice_index forced c ≤ slice_index known c) cs) (none : X nothing ≡ 0)
    (first : sum_by (λ c. if d c then slice_index earlier c else 0) cs ≡ X (count_before T))
    (second : sum_by (λ c. if d c then slice_index known c else 0) cs ≡ X (known_before T))
    (third : sum_by (λ c. if d c then slice_index forced c else 0) cs ≡ X (counted_before rows T)) where
  pub loose_added : (k : Part) → sum_by (λ c. if d c then loose_of earlier known forced k c else 0) cs + X (lower_of T rows k) ≡ X (upper_of T k)
  loose_added of_all = let some = sum_nothing d cs in omega (arith, some)
  loose_added of_candidates = let parted = share_parted d (slice_index earlier) (slice_index known) cs under in omega (arith, parted, first, second)
  loose_added of_ordered = let parted = share_parted d (slice_index known) (slice_index forced) cs within in omega (arith, parted, second, third)
  loose_added of_guarded = let parted = share_parted d (slice_index known) (slice_index forced) cs within in omega (arith, parted, second, third)

-- it is no more than what comes below the upper cut
pub loose_le : (earlier known forced cs : List ℕ) (k : Part) → sum_by (loose_of earlier known forced k) cs ≤ sum_by (upper_counts earlier known k) cs
loose_le earlier known forced cs of_all = omega arith
loose_le earlier known forced cs of_candidates = sum_by-le-sum_by (λ c. slice_index earlier c - slice_index known c) (slice_index earlier) cs (λ c. omega arith)
loose_le earlier known forced cs of_ordered = sum_by-le-sum_by (λ c. slice_index known c - slice_index forced c) (slice_index known) cs (λ c. omega arith)
loose_le earlier known forced cs of_guarded = sum_by-le-sum_by (λ c. slice_index known c - slice_index forced c) (slice_index known) cs (λ c. omega arith)

-- so that it fits where that does
pub loose_room : (earlier known forced cs : List ℕ) (n : ℕ) → sum_by (slice_index earlier) cs ≤ n → sum_by (slice_index known) cs ≤ n → (k : Part) → sum_by (loose_of earlier known forced k) cs ≤ n
loose_room earlier known forced cs n first second of_all = let none = sum_by_zero cs in omega (arith, none)
loose_room earlier known forced cs n first second of_candidates = let less = loose_le earlier known forced cs of_candidates in omega (arith, less, first)
loose_room earlier known forced cs n first second of_ordered = let less = loose_le earlier known forced cs of_ordered in omega (arith, less, second)
loose_room earlier known forced cs n first second of_guarded = let less = loose_le earlier known forced cs of_guarded in omega (arith, less, second)

-- where nothing comes below the cuts, nothing is added
pub loose_none : (earlier known forced : List ℕ) (c : ℕ) → slice_index earlier c ≡ 0 → slice_index known c ≡ 0 → (k : Part) → loose_of earlier known forced k c ≡ 0
loose_none earlier known forced c first second of_all = refl
loose_none earlier known forced c first second of_candidates = omega (arith, first)
loose_none earlier known forced c first second of_ordered = omega (arith, second)
loose_none earlier known forced c first second of_guarded = omega (arith, second)

-- the counts before fronts that are the ends of one cut are no more than those of another that reaches further
pub fronts_nested : (T : List Event) (threads n : ℕ) (classes : List ℕ) (u : ℕ) (end further : ℕ → ℕ → ℕ) (i b : ℕ) (fronts counts more more_counts : List ℕ)
    → IsFront T threads n classes u end i fronts counts → IsFront T threads n classes u further i more more_counts
    → AreFronts threads u (end b) fronts → AreFronts threads u (further b) more
    → ((t : ℕ) → t < threads → end b t ≤ further b t) → (c : ℕ) → c < n → slice_index counts c ≤ slice_index more_counts c
fronts_nested T threads n classes u end further i b fronts counts more more_counts is also at to le c lt =
    let each = front_count-mono T threads classes fronts more c
    (λ t low. elim (cases_eq t u) [
      | inl same ↦ let none = ap (slice_index fronts) same in omega (arith, none, at.1)
      | inr ne ↦ let here = at.0 t low ne in let there = to.0 t low ne in let less = le t low in omega (arith, here, there, less)
    ])
    in
    let here = is.counts.counted c (omega (arith, lt, is.len)) in
    let there = also.counts.counted c (omega (arith, lt, also.len)) in
    omega (arith, each, here, there)
