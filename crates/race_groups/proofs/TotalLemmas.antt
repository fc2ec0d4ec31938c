-- All pairs, class by class: how many events there are of each of two classes, without those that are of one thread.
use Rattle.std.proofs.Common.{◌≡◌, ◌≢◌, ℕ, ◌+◌, ◌*◌, ◌<◌, ◌≤◌, ◌==◌, Bool, true, false, cond, List, [], ◌∷◌, length, take, sum_by, slice_index, All, refl, sym, ap, ◌∙◌, inl, inr, mul_comm, arith, add-one}
use Rattle.std.proofs.lemmas.Bool.{cases_eq, cond-false, cond-true, eq-eqb, ne_eqb}
use Rattle.std.proofs.lemmas.Nat.{mul-le}
use Rattle.std.proofs.lemmas.List.{take_all}
use Rattle.std.proofs.lemmas.List.Elements.{All-get_or, All-weaker}
use Rattle.std.proofs.lemmas.List.FromFn.{length-range_with_len}
use Rattle.std.proofs.lemmas.List.Sums.{sum_by-cons, sum_by-le-sum_by, count_by-le-length}
use Rattle.rapid_text.specs.declared.event.Event.{Event}
use Rattle.rapid_text.specs.Recording.{Recording, IsWellFormed}
use Rattle.event_index.specs.Lookups.{before, events_of}
use Rattle.event_index.proofs.CallerLemmas.{events_of-within, events_of-thread}
use Rattle.race_groups.specs.Counting.{below_sum, class_count, class_sum, ends_list, front_count, later_count, thread_sum, total_ends, whole_ends}
use Rattle.race_groups.specs.Ends.{nothing}
use Rattle.race_groups.specs.Owners.{AreOwners}
use Rattle.race_groups.specs.Rows.{Part, of_all, of_candidates, of_ordered, of_guarded}
use Rattle.race_groups.specs.Totals.{total_count, two_sum}
use Rattle.race_groups.specs.declared.class.Class.{Class}
use Rattle.race_groups.proofs.DoubledLemmas.{sum_by-times}
use Rattle.race_groups.proofs.FlagLemmas.{sum_by_flagged}
use Rattle.race_groups.proofs.LaterLemmas.{later_nothing}
use Rattle.race_groups.proofs.OwnerLemmas.{other_none}
use Rattle.race_groups.proofs.PairLemmas.{sum_by_below-le}
use Rattle.race_groups.proofs.SumLemmas.{sum_by_below, sum_by_below_changed, sum_by_each, sum_by_zero, sum_by-plus}
use Rattle.race_groups.proofs.ClassLemmas.{sums_nothing}
use Rattle.race_groups.proofs.ThreadLemmas.{sum_by_threads}
use Rattle.race_groups.proofs.WeightLemmas.{get_before}

cond_times : (b : Bool) (n : ℕ) → cond b n 0 ≡ cond b 1 0 * n
cond_times true n = omega arith
cond_times false n = omega arith

cond_nothing : (b : Bool) → ◌≡◌ {A = ℕ} (cond b 0 0) 0
cond_nothing true = refl
cond_nothing false = refl

-- the events of a class of the other threads
others_are : (T : List Event) (threads : ℕ) (classes : List ℕ) (u c : ℕ) → u < threads
    → front_count T threads classes (ends_list threads u (λ t. length (events_of T t))) c + class_count classes c (events_of T u) ≡ total_count T threads classes c
others_are T threads classes u c lt =
    let ends = ends_list threads u (λ t. length (events_of T t)) in
    let f : ℕ → ℕ = λ t. class_count classes c (events_of T t) in
    let g : ℕ → ℕ = λ t. class_count classes c (take (cond (t == u) 0 (length (events_of T t))) (events_of T t)) in
    let changed = sum_by_below_changed f g u threads lt
    (λ t ne. sym (ap (λ n. class_count classes c (take n (events_of T t))) (other t ne) ∙ ap (class_count classes c) (take_all (length (events_of T t)) (events_of T t) (omega arith))))
    in
    let none : g u ≡ 0 = ap (λ n. class_count classes c (take n (events_of T u))) (cond-true (u == u) 0 (length (events_of T u)) (eq-eqb u u refl)) in
    let same : front_count T threads classes ends c ≡ sum_by g (before threads) =
    sum_by_below (λ t. class_count classes c (take (slice_index ends t) (events_of T t))) g threads (λ t low. ap (λ n. class_count classes c (take n (events_of T t))) (get_before (λ t. cond (t == u) 0 (length (events_of T t))) threads t low))
    in omega (arith, changed, none, same)
  where
    other : (t : ℕ) → t ≢ u → cond (t == u) 0 (length (events_of T t)) ≡ length (events_of T t)
    other t ne = cond-false (t == u) 0 (length (events_of T t)) (ne_eqb t u ne)

-- all events of one class together
sum_alike : (T : List Event) (threads : ℕ) (classes : List ℕ) (u : ℕ) (end : ℕ → ℕ) (j c : ℕ) (xs : List ℕ)
    → below_sum T threads classes u (λ b. end) j c xs ≡ class_count classes j xs * front_count T threads classes (ends_list threads u end) c
sum_alike T threads classes u end j c xs =
    let n : ℕ = front_count T threads classes (ends_list threads u end) c in
    sum_by_each (λ b. cond (slice_index classes b == j) n 0) (λ b. cond (slice_index classes b == j) 1 0 * n) xs (λ b. cond_times (slice_index classes b == j) n)
    ∙ sum_by-times (λ b. cond (slice_index classes b == j) 1 0) n xs

-- and none before ends that are 0
sum_none : (T : List Event) (threads : ℕ) (classes : List ℕ) (u j c : ℕ) (xs : List ℕ) → below_sum T threads classes u nothing j c xs ≡ 0
sum_none T threads classes u j c xs =
    sum_by_each (λ b. cond (slice_index classes b == j) (front_count T threads classes (ends_list threads u (nothing b)) c) 0) (λ b. 0) xs
    (λ b. ap (λ n. cond (slice_index classes b == j) n 0) empty ∙ cond_nothing (slice_index classes b == j))
    ∙ sum_by_zero xs
  where
    zero_at : (t : ℕ) → t < threads → slice_index (ends_list threads u (λ s. 0)) t ≡ 0
    zero_at t lt = get_before (λ s. cond (s == u) 0 0) threads t lt ∙ cond_nothing (t == u)

    empty : front_count T threads classes (ends_list threads u (λ s. 0)) c ≡ 0
    empty =
        sum_by_below (λ t. class_count classes c (take (slice_index (ends_list threads u (λ s. 0)) t) (events_of T t))) (λ t. 0) threads
        (λ t lt. ap (λ n. class_count classes c (take n (events_of T t))) (zero_at t lt))
        ∙ sum_by_zero (before threads)

none_of : (n : ℕ) → 0 * n ≡ 0
none_of n = omega arith

-- of each of two classes, one of a thread and the other of another or of the same: together they are all
times_both : (a o m : ℕ) → a * o + m * a ≡ a * (o + m)
times_both a o m = omega arith

module _ (T : List Event) (threads : ℕ) (classes : List ℕ) where
  -- how many events of the class the thread has
  abbrev has : ℕ → ℕ → ℕ
  has c t = class_count classes c (events_of T t)

  -- how many pairs of two classes are of one thread
  abbrev pub same_thread : ℕ → ℕ → ℕ
  same_thread j c = sum_by (λ t. has c t * has j t) (before threads)

  one_thread : (j c u : ℕ) → u < threads → below_sum T threads classes u (whole_ends T) j c (events_of T u) + has c u * has j u ≡ has j u * total_count T threads classes c
  one_thread j c u lt =
      let others : ℕ = front_count T threads classes (ends_list threads u (λ t. length (events_of T t))) c in
      ap (λ n. n + has c u * has j u) (sum_alike T threads classes u (λ t. length (events_of T t)) j c (events_of T u))
      ∙ times_both (has j u) others (has c u)
      ∙ ap (λ n. has j u * n) (others_are T threads classes u c lt)

  pub two_all : (j c : ℕ) → two_sum T threads classes (whole_ends T) j c + same_thread j c ≡ total_count T threads classes j * total_count T threads classes c
  two_all j c =
      let below : ℕ → ℕ = λ u. below_sum T threads classes u (whole_ends T) j c (events_of T u) in
      let same : ℕ → ℕ = λ t. has c t * has j t in
      sym (sum_by-plus below same (before threads))
      ∙ sum_by_below (λ t. below t + same t) (λ t. has j t * total_count T threads classes c) threads (one_thread j c)
      ∙ sum_by-times (has j) (total_count T threads classes c) (before threads)

  -- which of two classes comes first does not matter
  pub two_turned : (j c : ℕ) → two_sum T threads classes (whole_ends T) j c ≡ two_sum T threads classes (whole_ends T) c j
  two_turned j c =
      let one = two_all j c in
      let other = two_all c j in
      let same : same_thread j c ≡ same_thread c j = sum_by_each (λ t. has c t * has j t) (λ t. has j t * has c t) (before threads) (λ t. mul_comm (has c t) (has j t)) in
      let product = mul_comm (total_count T threads classes j) (total_count T threads classes c) in
      omega (arith, one, other, same, product)

  -- before ends that are 0 there are none
  pub two_none : (j c : ℕ) → two_sum T threads classes nothing j c ≡ 0
  two_none j c = sum_by_each (λ u. below_sum T threads classes u nothing j c (events_of T u)) (λ u. 0) (before threads) (λ u. sum_none T threads classes u j c (events_of T u)) ∙ sum_by_zero (before threads)

  -- nor are there of two classes of which one thread has all events
  module _ (owners : List ℕ) (are : AreOwners T threads classes owners) (u : ℕ) (lt : u < threads) where
    two_owned : (j c : ℕ) → slice_index owners j ≡ u → slice_index owners c ≡ u → two_sum T threads classes (whole_ends T) j c ≡ 0
    two_owned j c mine own = sum_by_each (λ t. below_sum T threads classes t (whole_ends T) j c (events_of T t)) (λ t. 0) (before threads) each ∙ sum_by_zero (before threads)
      where
        other : (t : ℕ) → t ≢ u → below_sum T threads classes t (whole_ends T) j c (events_of T t) ≡ 0
        other t ne =
            let n : ℕ = front_count T threads classes (ends_list threads t (λ s. length (events_of T s))) c in
            sum_alike T threads classes t (λ s. length (events_of T s)) j c (events_of T t) ∙ ap (λ m. m * n) (other_none T threads classes owners are u j lt mine t ne (events_of T t) (events_of-thread T t)) ∙ none_of n

        each : (t : ℕ) → below_sum T threads classes t (whole_ends T) j c (events_of T t) ≡ 0
        each t = elim (cases_eq t u) [
          | inl is ↦ ap (λ s. below_sum T threads classes s (whole_ends T) j c (events_of T s)) is ∙ sums_nothing T threads classes owners are u c lt own (whole_ends T) j (events_of T u)
          | inr ne ↦ other t ne
        ]

    pub owned_none : (k : Part) (j c : ℕ) → slice_index owners j ≡ u → slice_index owners c ≡ u → two_sum T threads classes (total_ends T k) j c ≡ 0
    owned_none of_all j c mine own = two_owned j c mine own
    owned_none of_candidates j c mine own = two_none j c
    owned_none of_ordered j c mine own = two_none j c
    owned_none of_guarded j c mine own = two_none j c

-- the ends are within the threads
pub total_within : (T : List Event) (k : Part) (b t : ℕ) → b < length T → total_ends T k b t ≤ length (events_of T t)
total_within T of_all b t lt = omega arith
total_within T of_candidates b t lt = omega arith
total_within T of_ordered b t lt = omega arith
total_within T of_guarded b t lt = omega arith

-- the events of all classes are all events of the thread
module _ (T : List Event) (keeps : Class → Class → Bool) (classes : List ℕ) (infos : List Class) (u : ℕ) (end : ℕ → ℕ → ℕ) (p q : ℕ) (len : length classes ≡ length T) (within : All (λ c. c < length infos) classes) where
  inside : All (λ b. slice_index classes b < length infos) (events_of T u)
  inside = All-weaker (λ e. e < length T) (λ b. slice_index classes b < length infos) (λ b lt. All-get_or (λ c. c < length infos) classes b 0 (omega (arith, lt, len)) within) (events_of T u) (events_of-within T u)

  pub classes_all : sum_by (class_sum T keeps classes infos u end p q) (before (length infos)) ≡ thread_sum T keeps classes infos end p q u
  classes_all = sum_by_flagged (slice_index classes) (λ j. true) (later_count T keeps classes infos u end p q) (length infos) (events_of T u) inside

-- below no ends there is nothing
pub thread_nothing : (T : List Event) (keeps : Class → Class → Bool) (classes : List ℕ) (infos : List Class) (p q u : ℕ) → thread_sum T keeps classes infos nothing p q u ≡ 0
thread_nothing T keeps classes infos p q u =
    sum_by_each (later_count T keeps classes infos u nothing p q) (λ b. 0) (events_of T u) (λ b. later_nothing T keeps classes infos u p q b) ∙ sum_by_zero (events_of T u)

pub threads_nothing : (T : List Event) (keeps : Class → Class → Bool) (classes : List ℕ) (infos : List Class) (p q n : ℕ) → sum_by (thread_sum T keeps classes infos nothing p q) (before n) ≡ 0
threads_nothing T keeps classes infos p q n =
    sum_by_each (thread_sum T keeps classes infos nothing p q) (λ u. 0) (before n) (λ u. thread_nothing T keeps classes infos p q u) ∙ sum_by_zero (before n)

-- the classes have few events
pub count_few : (r : Recording) → IsWellFormed r → (classes : List ℕ) (c k : ℕ) → k < length r.threads
    → sum_by (λ t. class_count classes c (events_of r.events t)) (before k) + length (events_of r.events k) ≤ 1048576
count_few r formed classes c k lt =
    let T = r.events in
    let f : ℕ → ℕ = λ t. class_count classes c (events_of T t) in
    let g : ℕ → ℕ = λ t. sum_by (λ e. 1) (events_of T t) in
    let less = sum_by-le-sum_by f g (before k) (λ t. sum_by-le-sum_by (λ e. cond (slice_index classes e == c) 1 0) (λ e. 1) (events_of T t) (λ e. one_le (slice_index classes e == c))) in
    let part = sum_by_below-le g k (length r.threads) lt in
    let whole : sum_by g (before (length r.threads)) ≡ sum_by (λ e. 1) (before (length T)) = sum_by_threads r formed (λ e. 1) in
    let size = count_all (before (length T)) in
    let mine = count_all (events_of T k) in
    let all = length-range_with_len 0 (length T) in
    omega (arith, less, part, whole, size, mine, all, formed.events)
  where
    one_le : (b : Bool) → cond b 1 0 ≤ 1
    one_le true = omega arith
    one_le false = omega arith

    count_all : (xs : List ℕ) → sum_by (λ x. 1) xs ≡ length xs
    count_all [] = refl
    count_all (x ∷ xs) = let rest = count_all xs in omega (arith, rest, sum_by-cons (λ y. 1) x xs, add-one (length xs))

pub total_few : (r : Recording) → IsWellFormed r → (classes : List ℕ) (c : ℕ) → total_count r.events (length r.threads) classes c ≤ 1048576
total_few r formed classes c =
    let T = r.events in
    let f : ℕ → ℕ = λ e. cond (slice_index classes e == c) 1 0 in
    let whole : total_count T (length r.threads) classes c ≡ sum_by f (before (length T)) = sum_by_threads r formed f in
    let few = count_by-le-length (λ e. slice_index classes e == c) (before (length T)) in
    let all = length-range_with_len 0 (length T) in
    omega (arith, whole, few, all, formed.events)

-- products of numbers that are not large
pub total_fits : (times all : ℕ) → times ≤ 1048576 → all ≤ 1048576 → times * all ≤ 1099511627776
total_fits times all few small =
    let fits = mul-le times all 1048576 1048576 few small in
    omega (arith, fits)
