-- What all later events of one class add to a row, from the sums of what comes below their cuts.
use Rattle.std.proofs.Common.{◌≡◌, ℕ, ◌<◌, ◌≤◌, ◌==◌, Bool, true, false, cond, List, length, map, sum_by, slice_index, get_or, All, Some, refl, sym, ap, ◌∙◌, inl, inr, arith}
use Rattle.std.specs.List.{slice_get}
use Rattle.std.proofs.lemmas.Bool.{cases_Bool, cond-false, eqb-true}
use Rattle.std.proofs.lemmas.List.Elements.{All-get_or, All-weaker}
use Rattle.std.proofs.lemmas.List.FromFn.{length-map-range_with_len, length-range_with_len}
use Rattle.std.proofs.lemmas.List.Sums.{sum_by-le, length-filter, count_by-le-length}
use Rattle.rapid_text.specs.Recording.{Recording, IsWellFormed}
use Rattle.rapid_text.specs.declared.event.Event.{Event}
use Rattle.rapid_text.specs.declared.event.Op.{Op}
use Rattle.event_index.specs.Lookups.{before, events_of}
use Rattle.event_index.specs.Relations.{is_access}
use Rattle.event_index.proofs.CallerLemmas.{events_of-length, events_of-within}
use Rattle.race_groups.specs.Classes.{AreConflicting, accesses, adds_to, members_of}
use Rattle.race_groups.specs.Counting.{AreCounts, below_sum, class_sum, ends_list, front_count, later_by, later_count}
use Rattle.race_groups.specs.Ends.{nothing}
use Rattle.race_groups.specs.Owners.{AreOwners}
use Rattle.race_groups.specs.declared.class.Class.{Class}
use Rattle.race_groups.proofs.ConflictLemmas.{conflicting_few}
use Rattle.race_groups.proofs.LaterLemmas.{later_none, later_nothing}
use Rattle.race_groups.proofs.MonotoneLemmas.{below_sum-mono}
use Rattle.race_groups.proofs.OwnerLemmas.{front_none}
use Rattle.race_groups.proofs.SumLemmas.{sum_by_below, sum_by_each, sum_by_if, sum_by_same, sum_by_turned, sum_by_zero}
use Rattle.race_groups.proofs.WalkLemmas.{share_of}
use Rattle.race_groups.proofs.WeightLemmas.{below_sum-le, get_before, ends_are, ends_within}
use Rattle.race_groups.proofs.WholeLemmas.{members_within, share_whole}

-- sums that are not large are not large together
pub members_fit : (infos : List Class) (x : ℕ) (op : Op) (sums : ℕ → ℕ) (cs : List ℕ) → length infos ≤ 1048576 → ((k : ℕ) → k < length infos → sums k ≤ 1099511627776) → AreConflicting infos x op cs
    → sum_by sums cs ≤ 1152921504606846976
members_fit infos x op sums cs few small are =
    let test : ℕ → Bool = λ c. accesses x (slice_get infos c) in
    let each = sum_by-le sums 1099511627776 (members_of infos x) (All-weaker (λ c. c < length infos) (λ c. sums c ≤ 1099511627776) (λ c lt. small c lt) (members_of infos x) (members_within infos x)) in
    let size = length-filter test (before (length infos)) in
    let short = count_by-le-length test (before (length infos)) in
    let whole = length-range_with_len 0 (length infos) in
    let less = conflicting_few infos sums x op cs are in
    omega (arith, each, size, short, whole, few, less)

cond_none : (b : Bool) → ◌≡◌ {A = ℕ} (cond b 0 0) 0
cond_none true = refl
cond_none false = refl

swap : (d s : Bool) (n : ℕ) → cond d (cond s n 0) 0 ≡ cond s (cond d n 0) 0
swap true true n = refl
swap true false n = refl
swap false true n = refl
swap false false n = refl

module _ (r : Recording) (formed : IsWellFormed r) (classes : List ℕ) (infos : List Class) (u c : ℕ) (j : Class) (keeps : Class → Class → Bool) (p q : ℕ) (end : ℕ → ℕ → ℕ)
    (at : slice_get infos c ≡ Some j) where
  -- a class that accesses nothing has no pairs
  pub class_none : ((x : ℕ) → is_access x j.op ≡ false) → class_sum r.events keeps classes infos u end p q c ≡ 0
  class_none none =
      sum_by_each (λ b. cond (slice_index classes b == c) (later_count r.events keeps classes infos u end p q b) 0) (λ b. 0) (events_of r.events u) each ∙ sum_by_zero (events_of r.events u)
    where
      each : (b : ℕ) → cond (slice_index classes b == c) (later_count r.events keeps classes infos u end p q b) 0 ≡ 0
      each b = elim (cases_Bool (slice_index classes b == c)) [
        | inl same ↦
            let is : slice_get infos (slice_index classes b) ≡ Some j = ap (slice_get infos) (eqb-true (slice_index classes b) c same) ∙ at in
            ap (λ n. cond (slice_index classes b == c) n 0) (later_none r.events keeps classes infos u end p q b j is none) ∙ cond_none (slice_index classes b == c)
        | inr other ↦ cond-false (slice_index classes b == c) (later_count r.events keeps classes infos u end p q b) 0 other
      ]

  module _ (len : length classes ≡ length r.events) (within : All (λ n. n < length infos) classes) (ends : (b t : ℕ) → b < length r.events → end b t ≤ length (events_of r.events t)) (named : u < length r.threads) where
    -- how many events of class k come below the cut of event b
    abbrev below : ℕ → ℕ → ℕ
    below b k = front_count r.events (length r.threads) classes (ends_list (length r.threads) u (end b)) k

    one_event : (b : ℕ) → b < length r.events → slice_get infos (slice_index classes b) ≡ Some j
        → sum_by (λ k. cond (adds_to keeps p q j (slice_get infos k)) (below b k) 0) (before (length infos)) ≡ later_count r.events keeps classes infos u end p q b
    one_event b lt is =
        let T = r.events in
        let n = length infos in
        let fronts = ends_list (length r.threads) u (end b) in
        let counts : List ℕ = map (below b) (before n) in
        let size : length counts ≡ n = length-map-range_with_len (below b) 0 n in
        let wide : length fronts ≡ length r.threads = length-map-range_with_len (λ t. cond (t == u) 0 (end b t)) 0 (length r.threads) in
        let are : AreCounts T (length r.threads) classes fronts counts = record {
          fronts_len = wide;
          within = ends_within r formed classes u c end ends named b lt;
          counted = λ k low. get_before (below b) n k (omega (arith, low, size));
        } in
        sum_by_below (λ k. cond (adds_to keeps p q j (slice_get infos k)) (below b k) 0) (share_of keeps p q j infos (slice_index counts)) n
        (λ k low. ap (λ m. cond (adds_to keeps p q j (slice_get infos k)) m 0) (sym (get_before (below b) n k low)))
        ∙ share_whole r formed keeps p q j classes fronts counts infos u (end b) len within size are (ends_are (length r.threads) u (end b) named)
        ∙ sym (ap (later_by T keeps classes infos u (end b) p q) is)

    each_event : (b : ℕ) → b < length r.events
        → sum_by (λ k. cond (adds_to keeps p q j (slice_get infos k)) (cond (slice_index classes b == c) (below b k) 0) 0) (before (length infos))
        ≡ cond (slice_index classes b == c) (later_count r.events keeps classes infos u end p q b) 0
    each_event b lt =
        let n = length infos in
        let D : ℕ → Bool = λ k. adds_to keeps p q j (slice_get infos k) in
        let whole : ℕ = sum_by (λ k. cond (D k) (below b k) 0) (before n) in
        sum_by_each (λ k. cond (D k) (cond (slice_index classes b == c) (below b k) 0) 0) (λ k. cond (slice_index classes b == c) (cond (D k) (below b k) 0) 0) (before n) (λ k. swap (D k) (slice_index classes b == c) (below b k))
        ∙ sym (sum_by_if (slice_index classes b == c) (λ k. cond (D k) (below b k) 0) (before n))
        ∙ elim (cases_Bool (slice_index classes b == c)) [
          | inl same ↦ ap (λ m. cond (slice_index classes b == c) m 0) (one_event b lt (ap (slice_get infos) (eqb-true (slice_index classes b) c same) ∙ at))
          | inr other ↦ cond-false (slice_index classes b == c) whole 0 other ∙ sym (cond-false (slice_index classes b == c) (later_count r.events keeps classes infos u end p q b) 0 other)
        ]

    pub class_whole : (sums : ℕ → ℕ) → All (λ e. e < length r.events) (events_of r.events u)
        → ((k : ℕ) → k < length infos → sums k ≡ below_sum r.events (length r.threads) classes u end c k (events_of r.events u))
        → sum_by (share_of keeps p q j infos sums) (before (length infos)) ≡ class_sum r.events keeps classes infos u end p q c
    class_whole sums known is =
        let n = length infos in
        let lane = events_of r.events u in
        let D : ℕ → Bool = λ k. adds_to keeps p q j (slice_get infos k) in
        let term : ℕ → ℕ → ℕ = λ k b. cond (D k) (cond (slice_index classes b == c) (below b k) 0) 0 in
        sum_by_below (share_of keeps p q j infos sums) (λ k. sum_by (term k) lane) n
        (λ k low. ap (λ m. cond (D k) m 0) (is k low) ∙ sum_by_if (D k) (λ b. cond (slice_index classes b == c) (below b k) 0) lane)
        ∙ sum_by_turned term (before n) lane
        ∙ sum_by_same (λ b. sum_by (λ k. term k b) (before n)) (λ b. cond (slice_index classes b == c) (later_count r.events keeps classes infos u end p q b) 0) lane
        (λ i d lt. each_event (get_or lane i d) (All-get_or (λ e. e < length r.events) lane i d lt known))

-- nothing comes below the cuts of the classes of which the thread itself has all events
pub sums_nothing : (T : List Event) (threads : ℕ) (classes owners : List ℕ) → AreOwners T threads classes owners → (u k : ℕ) → u < threads → slice_index owners k ≡ u
    → (end : ℕ → ℕ → ℕ) (j : ℕ) (xs : List ℕ) → below_sum T threads classes u end j k xs ≡ 0
sums_nothing T threads classes owners are u k lt own end j xs =
    let f : ℕ → ℕ = λ b. cond (slice_index classes b == j) (front_count T threads classes (ends_list threads u (end b)) k) 0 in
    let g : ℕ → ℕ = λ b. 0 in
    sum_by_each f g xs
    (λ b. ap (λ n. cond (slice_index classes b == j) n 0) (front_none T threads classes owners are u k lt own (ends_list threads u (end b)) (ends_are threads u (end b) lt).1) ∙ cond_none (slice_index classes b == j))
    ∙ sum_by_zero xs

-- none of them is large
pub sums_small : (r : Recording) → IsWellFormed r → (classes : List ℕ) (u c : ℕ) (end : ℕ → ℕ → ℕ) → ((b t : ℕ) → b < length r.events → end b t ≤ length (events_of r.events t)) → u < length r.threads
    → (k : ℕ) → below_sum r.events (length r.threads) classes u end c k (events_of r.events u) ≤ 1099511627776
sums_small r formed classes u c end ends named k =
    below_sum-le r formed classes u c end ends named k (events_of-within r.events u) (omega (arith, events_of-length r.events u, formed.events))

-- sums below ends that are no further
pub sums_nested : (T : List Event) (threads : ℕ) (classes : List ℕ) (u j n : ℕ) (end further : ℕ → ℕ → ℕ) (sums others : List ℕ)
    → ((k : ℕ) → k < n → slice_index sums k ≡ below_sum T threads classes u end j k (events_of T u))
    → ((k : ℕ) → k < n → slice_index others k ≡ below_sum T threads classes u further j k (events_of T u))
    → ((b : ℕ) → b < length T → (t : ℕ) → t < threads → end b t ≤ further b t) → (k : ℕ) → k < n → slice_index sums k ≤ slice_index others k
sums_nested T threads classes u j n end further sums others is also le k lt =
    let less = below_sum-mono T threads classes u end further j k (events_of T u)
    (All-weaker (λ e. e < length T) (λ b. (t : ℕ) → t < threads → end b t ≤ further b t) le (events_of T u) (events_of-within T u))
    in
    let here = is k lt in
    let there = also k lt in
    omega (arith, less, here, there)

-- below no ends there is nothing
pub class_nothing : (T : List Event) (keeps : Class → Class → Bool) (classes : List ℕ) (infos : List Class) (u p q c : ℕ) → class_sum T keeps classes infos u nothing p q c ≡ 0
class_nothing T keeps classes infos u p q c =
    sum_by_each (λ b. cond (slice_index classes b == c) (later_count T keeps classes infos u nothing p q b) 0) (λ b. 0) (events_of T u)
    (λ b. ap (λ n. cond (slice_index classes b == c) n 0) (later_nothing T keeps classes infos u p q b) ∙ cond_none (slice_index classes b == c))
    ∙ sum_by_zero (events_of T u)
