-- Ends that are no further count no more, and what is forced is known.
use Rattle.std.proofs.Common.{◌≡◌, ℕ, zero, suc, ◌+◌, ◌-◌, ◌<◌, ◌≤◌, ◌==◌, Bool, true, false, cond, List, [], ◌∷◌, length, take, sum_by, slice_index, All, refl, inl, inr, arith}
use Rattle.std.specs.Bool.{if◌then◌else◌}
use Rattle.std.proofs.lemmas.Bool.{cases_lt}
use Rattle.std.proofs.lemmas.Option.{slice_get-get_or}
use Rattle.std.proofs.lemmas.List.Elements.{All-head, All-tail, All-weaker}
use Rattle.std.proofs.lemmas.List.Sums.{sum_by-cons}
use Rattle.rapid_text.specs.declared.event.Event.{Event}
use Rattle.trace_rules.specs.Rules.{IsDisciplined}
use Rattle.event_index.specs.Lookups.{before, events_of, place_of}
use Rattle.event_index.proofs.CallerLemmas.{place_of-events_of}
use Rattle.must_order.specs.MustBefore.{IsForced}
use Rattle.race_groups.specs.Counting.{class_count, front_count, ends_list, below_sum}
use Rattle.race_groups.specs.Cuts.{IsCutOf}
use Rattle.race_groups.specs.Ends.{IsKnownBefore, known_before}
use Rattle.race_groups.proofs.FrontLemmas.{class_count-between}
use Rattle.race_groups.proofs.PartLemmas.{forced_is_known}
use Rattle.race_groups.proofs.SumLemmas.{sum_by_below_suc}
use Rattle.race_groups.proofs.WeightLemmas.{get_before}

-- sums of smaller terms
pub sum_by-mono : {X : Type 0} (f g : X → ℕ) (xs : List X) → All (λ x. f x ≤ g x) xs → sum_by f xs ≤ sum_by g xs
sum_by-mono f g [] le = omega arith
sum_by-mono f g (x ∷ xs) le =
    let rest = sum_by-mono f g xs (All-tail (λ x. f x ≤ g x) x xs le) in
    let here : f x ≤ g x = All-head (λ x. f x ≤ g x) x xs le in
    omega (arith, rest, here, sum_by-cons f x xs, sum_by-cons g x xs)

pub sum_by_below-mono : (f g : ℕ → ℕ) (n : ℕ) → ((k : ℕ) → k < n → f k ≤ g k) → sum_by f (before n) ≤ sum_by g (before n)
sum_by_below-mono f g zero le = omega arith
sum_by_below-mono f g (suc n) le =
    let rest = sum_by_below-mono f g n (λ k lt. le k (omega arith)) in
    let here : f n ≤ g n = le n (omega arith) in
    let all : sum_by f (before n) + f n ≤ sum_by g (before n) + g n = omega (arith, rest, here) in
    rw (sum_by_below_suc f n, sum_by_below_suc g n) all

if_minus : (b : Bool) (e k : ℕ) → k ≤ e → (if b then e - k else 0) + (if b then k else 0) ≡ (if b then e else 0)
if_minus true e k le = omega (arith, le)
if_minus false e k le = refl

-- What one cut counts beyond another, and what the other counts, are what the one counts.
pub share_parted : {X : Type 0} (d : X → Bool) (more less : X → ℕ) (xs : List X) → All (λ c. less c ≤ more c) xs
    → sum_by (λ c. if d c then more c - less c else 0) xs + sum_by (λ c. if d c then less c else 0) xs ≡ sum_by (λ c. if d c then more c else 0) xs
share_parted d more less [] le = refl
share_parted d more less (c ∷ cs) le =
    let rest = share_parted d more less cs (All-tail (λ c. less c ≤ more c) c cs le) in
    let here = if_minus (d c) (more c) (less c) (All-head (λ c. less c ≤ more c) c cs le) in
    omega (arith, rest, here, sum_by-cons (λ c. if d c then more c - less c else 0) c cs, sum_by-cons (λ c. if d c then less c else 0) c cs, sum_by-cons (λ c. if d c then more c else 0) c cs)

-- fronts that are no further
pub front_count-mono : (T : List Event) (threads : ℕ) (classes fronts further : List ℕ) (c : ℕ)
    → ((t : ℕ) → t < threads → slice_index fronts t ≤ slice_index further t)
    → front_count T threads classes fronts c ≤ front_count T threads classes further c
front_count-mono T threads classes fronts further c le =
    sum_by_below-mono
    (λ t. class_count classes c (take (slice_index fronts t) (events_of T t)))
    (λ t. class_count classes c (take (slice_index further t) (events_of T t)))
    threads
    (λ t lt.
    let part = class_count-between classes c (slice_index fronts t) (slice_index further t) (events_of T t) (le t lt) in
    omega (arith, part))

cond_mono : (b : Bool) (m n : ℕ) → m ≤ n → cond b 0 m ≤ cond b 0 n
cond_mono true m n le = omega arith
cond_mono false m n le = le

cond_mono_first : (b : Bool) (m n : ℕ) → m ≤ n → cond b m 0 ≤ cond b n 0
cond_mono_first true m n le = le
cond_mono_first false m n le = omega arith

-- ends that are no further, as lists
pub ends_list-mono : (threads u : ℕ) (end further : ℕ → ℕ) → ((t : ℕ) → t < threads → end t ≤ further t)
    → (t : ℕ) → t < threads → slice_index (ends_list threads u end) t ≤ slice_index (ends_list threads u further) t
ends_list-mono threads u end further le t lt =
    let one = get_before (λ t. cond (t == u) 0 (end t)) threads t lt in
    let other = get_before (λ t. cond (t == u) 0 (further t)) threads t lt in
    let here = cond_mono (t == u) (end t) (further t) (le t lt) in
    omega (arith, one, other, here)

-- the sums below them, where they are no further at each event of the list
pub below_sum-mono : (T : List Event) (threads : ℕ) (classes : List ℕ) (u : ℕ) (end further : ℕ → ℕ → ℕ) (j c : ℕ) (xs : List ℕ)
    → All (λ b. (t : ℕ) → t < threads → end b t ≤ further b t) xs
    → below_sum T threads classes u end j c xs ≤ below_sum T threads classes u further j c xs
below_sum-mono T threads classes u end further j c xs le =
    let f : ℕ → ℕ = λ b. cond (slice_index classes b == j) (front_count T threads classes (ends_list threads u (end b)) c) 0 in
    let g : ℕ → ℕ = λ b. cond (slice_index classes b == j) (front_count T threads classes (ends_list threads u (further b)) c) 0 in
    sum_by-mono f g xs
    (All-weaker (λ b. (t : ℕ) → t < threads → end b t ≤ further b t) (λ b. f b ≤ g b)
    (λ b here.
    cond_mono_first (slice_index classes b == j)
    (front_count T threads classes (ends_list threads u (end b)) c)
    (front_count T threads classes (ends_list threads u (further b)) c)
    (front_count-mono T threads classes (ends_list threads u (end b)) (ends_list threads u (further b)) c (ends_list-mono threads u (end b) (further b) here)))
    xs le)

-- A relation that is part of another has the nearer ends.
pub IsCutOf-mono : (T : List Event) (IsLess IsMore : ℕ → ℕ → Type 0) (end further : ℕ → ℕ → ℕ) → IsCutOf T IsLess end → IsCutOf T IsMore further
    → ((a b : ℕ) → IsLess a b → IsMore a b) → (b t : ℕ) → b < length T → end b t ≤ further b t
IsCutOf-mono T IsLess IsMore end further less more part b t lt =
    elim (cases_lt (further b t) (end b t)) [
      | inl back ↦
          let k = further b t in
          let within = less.within b t lt in
          let a = slice_index (events_of T t) k in
          let at = place_of-events_of T t k a (slice_get-get_or (events_of T t) k 0 (omega arith)) in
          let here : place_of T a < end b t = omega (arith, at.2) in
          let over = more.counted a b t lt at.1 (part a b (less.reached a b t lt at.1 here)) in
          absurd (omega (arith, over, at.2))
      | inr fine ↦ fine
    ]

-- what is forced is known
pub forced-le-known : (T : List Event) → IsDisciplined T → (ends : ℕ → ℕ → ℕ) → IsCutOf T (IsForced T) ends → IsCutOf T (IsKnownBefore T) (known_before T)
    → (b t : ℕ) → b < length T → ends b t ≤ known_before T b t
forced-le-known T rules ends forced known = IsCutOf-mono T (IsForced T) (IsKnownBefore T) ends (known_before T) forced known (forced_is_known T rules)
