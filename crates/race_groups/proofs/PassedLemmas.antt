-- What is counted in the order of the trace, and that it is what comes below the cut "earlier in the trace".
use Rattle.std.proofs.Common.{◌≡◌, ℕ, zero, suc, ◌+◌, ◌-◌, ◌<◌, ◌≤◌, ◌==◌, nat_lt, Bool, true, false, not, ◌&&◌, cond, List, length, take, drop, sum_by, count_by, slice_index, Some, refl, sym, ap, ◌∙◌, subst, inl, inr, arith, get_or-drop}
use Rattle.std.specs.List.{slice_get}
use Rattle.std.proofs.lemmas.Bool.{cases_Bool, cases_eq, cases_lt, and_right, lt-ltb, le-ltb}
use Rattle.std.proofs.lemmas.List.{length-drop}
use Rattle.std.proofs.lemmas.List.FromFn.{length-map-range_with_len, length-range_with_len}
use Rattle.std.proofs.lemmas.List.Sums.{count_by-le-length, sum_by_more}
use Rattle.std.proofs.lemmas.Option.{slice_get-get_or, slice_get_within, get_or_from_slice_get}
use Rattle.std.proofs.Common.{get_or}
use Rattle.rapid_text.specs.declared.event.Event.{Event}
use Rattle.rapid_text.specs.Recording.{Recording, IsWellFormed}
use Rattle.event_index.specs.Events.{is_of_thread, thread_at}
use Rattle.event_index.specs.Lookups.{before, events_of, place_of, count_before}
use Rattle.event_index.proofs.CallerLemmas.{events_of-place, is_of_thread-from, is_of_thread-thread, place_of-events_of, thread_event, thread_here, thread_within}
use Rattle.race_groups.specs.Counting.{IsFront, IsPassed, ends_list, front_count, passed_count}
use Rattle.race_groups.specs.declared.passing.Passed.{Passed}
use Rattle.race_groups.proofs.EarlierLemmas.{counted_is, lane_all, reached_is}
use Rattle.race_groups.proofs.LoopLemmas.{count_before-rises, counted_at, lane_rises}
use Rattle.race_groups.proofs.SumLemmas.{sum_by_below, sum_by_below_suc, sum_by_below_more}
use Rattle.race_groups.proofs.ThreadLemmas.{same_thread, some_event, sum_by_fronts, thread_number, thread_number_is, thread_number_within}
use Rattle.race_groups.proofs.WeightLemmas.{ends_are}
use Rattle.race_groups.proofs.WholeLemmas.{front_is}

abbrev one_if : Bool → ℕ
one_if b = cond b 1 0

-- a class is counted where the event is of another thread
of_other : (s w : Bool) → w ≡ false → ◌≡◌ {A = ℕ} (cond (s && not w) 1 0) (cond s 1 0)
of_other true w is = ap one_if (ap not is)
of_other false w is = refl

module _ (T : List Event) (classes : List ℕ) (u : ℕ) where
  -- one event more
  passed_more : (m c : ℕ) → passed_count T classes u (m + 1) c ≡ passed_count T classes u m c + cond (slice_index classes m == c && not (is_of_thread T u m)) 1 0
  passed_more m c = sum_by_below_more (λ a. cond (slice_index classes a == c && not (is_of_thread T u a)) 1 0) m

  -- no more than all of them
  pub passed_few : (m c : ℕ) → passed_count T classes u m c ≤ m
  passed_few m c =
      let few = count_by-le-length (λ a. slice_index classes a == c && not (is_of_thread T u a)) (before m) in
      let size = length-range_with_len 0 m in
      omega (arith, few, size)

  -- one of the thread itself is not counted
  pub passed_own : (m c : ℕ) → thread_at T m ≡ Some u → passed_count T classes u (m + 1) c ≡ passed_count T classes u m c
  passed_own m c at =
      let own = ap not (is_of_thread-from T m u at) in
      let none : ◌≡◌ {A = ℕ} (cond (slice_index classes m == c && not (is_of_thread T u m)) 1 0) 0 =
      ap one_if (and_right (slice_index classes m == c) (not (is_of_thread T u m)) own)
      in
      omega (arith, passed_more m c, none)

  -- a run of events of other threads
  passed_run : (m d c : ℕ) → m + d ≤ length classes → ((a : ℕ) → m ≤ a → a < m + d → is_of_thread T u a ≡ false)
      → passed_count T classes u (m + d) c ≡ passed_count T classes u m c + count_by (λ k. k == c) (take d (drop m classes))
  passed_run m zero c le others =
      let is : m + zero ≡ m = omega arith in
      let same : passed_count T classes u (m + zero) c ≡ passed_count T classes u m c = ap (λ k. passed_count T classes u k c) is in
      let none : count_by (λ k. k == c) (take zero (drop m classes)) ≡ 0 = refl in
      omega (arith, same, none)
  passed_run m (suc d) c le others =
      let f : ℕ → ℕ = λ k. cond (k == c) 1 0 in
      let rest = passed_run m d c (omega (arith, le)) (λ a from to. others a from (omega (arith, to))) in
      let inside : d < length (drop m classes) = omega (arith, le, length-drop m classes) in
      let more = sum_by_more f (drop m classes) d 0 inside in
      let there : f (slice_index (drop m classes) d) ≡ f (slice_index classes (m + d)) = ap f (get_or-drop m classes d 0) in
      let one = passed_more (m + d) c in
      let other = of_other (slice_index classes (m + d) == c) (is_of_thread T u (m + d)) (others (m + d) (omega arith) (omega arith)) in
      let next : m + suc d ≡ m + d + 1 = omega arith in
      let size : suc d ≡ d + 1 = omega arith in
      let count : passed_count T classes u (m + suc d) c ≡ passed_count T classes u (m + d + 1) c = ap (λ k. passed_count T classes u k c) next in
      let run : count_by (λ k. k == c) (take (suc d) (drop m classes)) ≡ sum_by f (take (d + 1) (drop m classes)) = ap (λ k. sum_by f (take k (drop m classes))) size in
      omega (arith, rest, more, there, one, other, count, run)

  -- between two events of the thread all are of others
  between : (m i a : ℕ) → i < length (events_of T u) → ((k : ℕ) → k < i → k < length (events_of T u) → slice_index (events_of T u) k < m)
      → m ≤ a → a < slice_index (events_of T u) i → is_of_thread T u a ≡ false
  between m i a inside below from to =
      elim (cases_Bool (is_of_thread T u a)) [
        | inl own ↦
            let found = thread_event T a u (is_of_thread-thread T u a own) in
            let p = place_of T a in
            let here : slice_get (events_of T u) p ≡ Some a =
            subst (λ (t : ℕ). slice_get (events_of T t) p ≡ Some a) found.2 (events_of-place T a found.0 found.1)
            in
            let low = slice_get_within (events_of T u) p a here in
            let is : slice_index (events_of T u) p ≡ a = get_or_from_slice_get (events_of T u) p a 0 here in
            elim (cases_lt p i) [
              | inl early ↦ let less = below p early low in absurd (omega (arith, less, is, from))
              | inr late ↦ let more = lane_rises T u i p late low in absurd (omega (arith, more, is, to))
            ]
        | inr other ↦ other
      ]

  -- an event of the thread comes after those before it
  later_one : (i k : ℕ) → i < k → k < length (events_of T u) → slice_index (events_of T u) i < slice_index (events_of T u) k
  later_one i k lt inside =
      let rises = lane_rises T u i k (omega (arith, lt)) inside in
      let one = counted_at T u i (omega (arith, lt, inside)) in
      let two = counted_at T u k inside in
      elim (cases_eq (slice_index (events_of T u) i) (slice_index (events_of T u) k)) [
        | inl same ↦ let equal = ap (λ e. count_before T e u) same in absurd (omega (arith, equal, one, two, lt))
        | inr ne ↦ omega (arith, ne, rises)
      ]

  -- event i of the thread is passed, and the events before it
  pub IsPassed-moved :
      (i : ℕ) (old new : Passed) → IsPassed T classes u i old → length classes ≡ length T → i < length (events_of T u)
      → length new.counts.items ≡ length old.counts.items → new.upto ≡ slice_index (events_of T u) i + 1
      → ((c : ℕ) → c < length new.counts.items → slice_index new.counts.items c
      ≡ slice_index old.counts.items c + count_by (λ k. k == c) (take (slice_index (events_of T u) i - old.upto) (drop old.upto classes)))
      → IsPassed T classes u (i + 1) new
  IsPassed-moved i old new are len inside size upto counted =
      let e = slice_index (events_of T u) i in
      let m = old.upto in
      let here = place_of-events_of T u i e (slice_get-get_or (events_of T u) i 0 inside) in
      let from : m ≤ e = are.after_it i (omega arith) inside in
      let low : e < length T = here.0 in
      let whole : m + (e - m) ≡ e = omega (arith, from) in
      record {
        counted = λ c lt.
            let now = counted c lt in
            let was = are.counted c (omega (arith, lt, size)) in
            let run = passed_run m (e - m) c (omega (arith, whole, low, len)) (λ a above under. between m i a inside are.before_it above (omega (arith, under, whole))) in
            let same : passed_count T classes u (m + (e - m)) c ≡ passed_count T classes u e c = ap (λ k. passed_count T classes u k c) whole in
            let own = passed_own e c here.1 in
            let all : passed_count T classes u new.upto c ≡ passed_count T classes u (e + 1) c = ap (λ k. passed_count T classes u k c) upto in
            omega (arith, now, was, run, same, own, all);
        before_it = λ k low within. let rises = lane_rises T u k i (omega (arith, low)) inside in omega (arith, rises, upto);
        after_it = λ k high within. let rises = later_one i k (omega (arith, high)) within in omega (arith, rises, upto);
      }

-- the numbers below m among those below n
below_part : (g : ℕ → ℕ) (m n : ℕ) → m ≤ n → sum_by (λ e. cond (nat_lt e m) (g e) 0) (before n) ≡ sum_by g (before m)
below_part g m zero le =
    let none : 0 ≡ m = omega (arith, le) in
    ap (λ k. sum_by g (before k)) none
below_part g m (suc n) le =
    elim (cases_lt n m) [
      | inl last ↦
          let is : suc n ≡ m = omega (arith, last, le) in
          sum_by_below (λ e. cond (nat_lt e m) (g e) 0) g (suc n) (λ k lt. ap (λ (b : Bool). cond b (g k) 0) (lt-ltb k m (omega (arith, lt, is))))
          ∙ ap (λ k. sum_by g (before k)) is
      | inr over ↦
          let rest = below_part g m n over in
          let none : cond (nat_lt n m) (g n) 0 ≡ 0 = ap (λ (b : Bool). cond b (g n) 0) (le-ltb n m over) in
          let more = sum_by_below_suc (λ e. cond (nat_lt e m) (g e) 0) n in
          omega (arith, rest, none, more)
    ]

turned : (w l s : Bool) → ◌≡◌ {A = ℕ} (cond (not w && l) (cond s 1 0) 0) (cond l (cond (s && not w) 1 0) 0)
turned true true true = refl
turned true true false = refl
turned true false s = refl
turned false true true = refl
turned false true false = refl
turned false false s = refl

module _ (r : Recording) (formed : IsWellFormed r) (classes : List ℕ) (u : ℕ) (named : u < length r.threads) where
  -- an event comes before the cut where it comes before the event
  placed_before : (e m t : ℕ) → thread_at r.events e ≡ Some t → nat_lt (place_of r.events e) (count_before r.events m t) ≡ nat_lt e m
  placed_before e m t at =
      elim (cases_lt e m) [
        | inl low ↦ lt-ltb (place_of r.events e) (count_before r.events m t) (counted_is r.events e m t at low) ∙ sym (lt-ltb e m low)
        | inr high ↦
            elim (cases_lt (place_of r.events e) (count_before r.events m t)) [
              | inl under ↦ let less = reached_is r.events e m t at under in absurd (omega (arith, less, high))
              | inr over ↦ le-ltb (place_of r.events e) (count_before r.events m t) over ∙ sym (le-ltb e m high)
            ]
      ]

  thread_is : (e : ℕ) → e < length r.events → thread_at r.events e ≡ Some (thread_number r.events e)
  thread_is e lt =
      thread_here r.events e (get_or r.events e some_event) (slice_get-get_or r.events e some_event lt) ∙ ap Some (sym (thread_number_is r formed e lt))

  -- the ends of the cut "earlier" at an event
  abbrev earlier_ends : ℕ → List ℕ
  earlier_ends m = ends_list (length r.threads) u (count_before r.events m)

  ends_fit : (m t : ℕ) → m ≤ length r.events → t < length r.threads → slice_index (earlier_ends m) t ≤ length (events_of r.events t)
  ends_fit m t le lt =
      let ends = ends_are (length r.threads) u (count_before r.events m) named in
      elim (cases_eq t u) [
        | inl own ↦ let none = ap (slice_index (earlier_ends m)) own in omega (arith, none, ends.1)
        | inr ne ↦ let here = ends.0 t lt ne in let all = lane_all r.events t m le in omega (arith, here, all)
      ]

  -- what was passed is what comes before these ends
  passed_is : (m c : ℕ) → m ≤ length r.events → front_count r.events (length r.threads) classes (earlier_ends m) c ≡ passed_count r.events classes u m c
  passed_is m c le =
      let T = r.events in
      let ends = earlier_ends m in
      let S : ℕ → Bool = λ e. slice_index classes e == c in
      let own : ℕ → Bool = λ e. is_of_thread T u e in
      sum_by_fronts r formed (λ e. cond (S e) 1 0) (slice_index ends) (λ t lt. ends_fit m t le lt)
      ∙ sum_by_below
      (λ e. cond (nat_lt (place_of T e) (slice_index ends (thread_number T e))) (cond (S e) 1 0) 0)
      (λ e. cond (nat_lt e m) (cond (S e && not (own e)) 1 0) 0)
      (length T)
      (λ e lt.
      let t = thread_number T e in
      ap (λ (b : Bool). cond b (cond (S e) 1 0) 0)
      (front_is r formed u (length r.threads) (count_before T m) ends (place_of T e) t (thread_number_within r formed e lt) (ends_are (length r.threads) u (count_before T m) named)
      ∙ ap (λ (b : Bool). not (t == u) && b) (placed_before e m t (thread_is e lt)))
      ∙ ap (λ (b : Bool). cond (not b && nat_lt e m) (cond (S e) 1 0) 0) (sym (same_thread r formed u e lt))
      ∙ turned (own e) (nat_lt e m) (S e))
      ∙ below_part (λ e. cond (S e && not (own e)) 1 0) m (length T) le

  -- So what was passed up to an event of the thread is counted before fronts that are its ends.
  pub IsFront-passed : (n i e : ℕ) (passed : Passed) → IsPassed r.events classes u i passed → length passed.counts.items ≡ n → passed.upto ≡ e + 1
      → thread_at r.events e ≡ Some u
      → IsFront r.events (length r.threads) n classes u (count_before r.events) i (ends_list (length r.threads) u (count_before r.events e)) passed.counts.items
  IsFront-passed n i e passed are size upto at =
      let T = r.events in
      let low = thread_within T e u at in
      let ends = ends_are (length r.threads) u (count_before T e) named in
      record {
        len = size;
        counts = record {
          fronts_len = length-map-range_with_len (λ t. cond (t == u) 0 (count_before T e t)) 0 (length r.threads);
          within = λ t lt. ends_fit e t (omega (arith, low)) lt;
          counted = λ c lt.
              are.counted c lt ∙ ap (λ k. passed_count T classes u k c) upto ∙ passed_own T classes u e c at ∙ sym (passed_is e c (omega (arith, low)));
        };
        own = ends.1;
        behind = λ t k lt ne high inside.
            let here = ends.0 t lt ne in
            let after = are.after_it k high inside in
            let rise = count_before-rises T t e (slice_index (events_of T u) k) (omega (arith, after, upto)) in
            omega (arith, here, rise);
      }

-- before the first event of the thread nothing was passed
pub IsPassed-begin : (T : List Event) (classes : List ℕ) (u : ℕ) (passed : Passed) → passed.upto ≡ 0 → ((c : ℕ) → slice_index passed.counts.items c ≡ 0)
    → IsPassed T classes u 0 passed
IsPassed-begin T classes u passed upto none = record {
  counted = λ c lt.
      let nothing : passed_count T classes u passed.upto c ≡ 0 = ap (λ k. passed_count T classes u k c) upto in
      omega (arith, none c, nothing);
  before_it = λ k low inside. absurd (omega (arith, low));
  after_it = λ k high inside. omega (arith, upto);
}
