-- The count of a group as a sum: for each later event the earlier ones, and thread by thread.
use Rattle.std.proofs.Common.{◌≡◌, ℕ, zero, suc, ◌+◌, ◌^◌, ◌<◌, ◌≤◌, ◌==◌, nat_lt, Bool, true, false, not, ◌&&◌, cond, List, [], ◌∷◌, map, length, get_or, sum_by, slice_index, Some, refl, sym, ap, ◌∙◌, inl, inr, arith}
use Rattle.std.specs.List.{slice_get, flat_map}
use Rattle.std.specs.Option.{unwrap_or, option_map}
use Rattle.std.proofs.lemmas.Bool.{cases_lt, cases_eq, and_left, and_right, le-ltb, cond-false}
use Rattle.std.proofs.lemmas.Option.{slice_get-get_or}
use Rattle.std.proofs.lemmas.List.Elements.{All-get_or, All-weaker}
use Rattle.std.proofs.lemmas.List.FromFn.{length-range_with_len}
use Rattle.std.proofs.lemmas.List.Sums.{sum_by-cons, sum_by-append, sum_by-le, sum_by-le-sum_by}
use Rattle.rapid_text.specs.declared.event.Event.{Event}
use Rattle.rapid_text.specs.Recording.{Recording, IsWellFormed}
use Rattle.event_index.specs.Events.{passes_by, thread_at}
use Rattle.event_index.specs.Lookups.{before, events_of, place_of, count_before}
use Rattle.event_index.specs.Relations.{is_conflict, is_clash, is_clash_of_ops, pass_both}
use Rattle.event_index.proofs.CallerLemmas.{events_of-thread, place_of-count}
use Rattle.race_groups.specs.Groups.{pairs_below, conflicts, count_of, is_between}
use Rattle.race_groups.specs.Cuts.{IsCut, is_under, is_cut_off}
use Rattle.race_groups.specs.Classes.{AreClasses, adds_to, keeps_by, is_kept_pair}
use Rattle.race_groups.specs.Counting.{later_by, later_count, pair_count}
use Rattle.race_groups.specs.declared.class.Class.{Class}
use Rattle.race_groups.proofs.SumLemmas.{sum_by_each, sum_by_same, sum_by_below, sum_by_below_suc, sum_by-filter}
use Rattle.race_groups.proofs.ThreadLemmas.{thread_number, some_event, sum_by_threads}
use Rattle.race_groups.proofs.WalkLemmas.{some_class}
use Rattle.race_groups.proofs.LoopLemmas.{count_before-rises, later_sum-le}

sum_by-map : {X Y : Type 0} (f : Y → ℕ) (g : X → Y) (xs : List X) → sum_by f (map g xs) ≡ sum_by (λ x. f (g x)) xs
sum_by-map f g [] = refl
sum_by-map f g (x ∷ xs) = sum_by-cons f (g x) (map g xs) ∙ ap (λ n. f (g x) + n) (sum_by-map f g xs) ∙ sym (sum_by-cons (λ x. f (g x)) x xs)

sum_by-flat_map : {X Y : Type 0} (f : Y → ℕ) (g : X → List Y) (xs : List X) → sum_by f (flat_map g xs) ≡ sum_by (λ x. sum_by f (g x)) xs
sum_by-flat_map f g [] = refl
sum_by-flat_map f g (x ∷ xs) =
    sum_by-append f (g x) (flat_map g xs) ∙ ap (λ n. sum_by f (g x) + n) (sum_by-flat_map f g xs) ∙ sym (sum_by-cons (λ x. sum_by f (g x)) x xs)

-- a sum over pairs
pub sum_by-pairs : (f : ℕ × ℕ → ℕ) (n : ℕ) → sum_by f (pairs_below n) ≡ sum_by (λ b. sum_by (λ a. f (a, b)) (before b)) (before n)
sum_by-pairs f n =
    sum_by-flat_map f (λ b. map (λ a. (a, b)) (before b)) (before n)
    ∙ sum_by_each (λ b. sum_by f (map (λ a. (a, b)) (before b))) (λ b. sum_by (λ a. f (a, b)) (before b)) (before n) (λ b. sum_by-map f (λ a. (a, b)) (before b))

-- what is 0 from b on
pub sum_by_cut : (f : ℕ → ℕ) (b n : ℕ) → b ≤ n → ((k : ℕ) → b ≤ k → k < n → f k ≡ 0) → sum_by f (before n) ≡ sum_by f (before b)
sum_by_cut f b zero le none = let e : 0 ≡ b = omega arith in ap (λ k. sum_by f (before k)) e
sum_by_cut f b (suc n) le none =
    elim (cases_lt n b) [
      | inl over ↦ let e : suc n ≡ b = omega arith in ap (λ k. sum_by f (before k)) e
      | inr under ↦
          let rest = sum_by_cut f b n under (λ k low high. none k low (omega arith)) in
          let last : f n ≡ 0 = none n under (omega arith) in
          sum_by_below_suc f n ∙ omega (arith, rest, last)
    ]

-- a part of a sum
pub sum_by_below-le : (f : ℕ → ℕ) (k n : ℕ) → k < n → sum_by f (before k) + f k ≤ sum_by f (before n)
sum_by_below-le f k zero lt = absurd (omega arith)
sum_by_below-le f k (suc n) lt =
    let whole = sum_by_below_suc f n in
    elim (cases_eq k n) [
      | inl e ↦
          let one : f k ≡ f n = ap f e in
          let two : sum_by f (before k) ≡ sum_by f (before n) = ap (λ m. sum_by f (before m)) e in
          let all : sum_by f (before k) + f k ≤ sum_by f (before n) + f n = omega (arith, one, two) in
          rw whole all
      | inr ne ↦
          let rest = sum_by_below-le f k n (omega arith) in
          let all : sum_by f (before k) + f k ≤ sum_by f (before n) + f n = omega (arith, rest) in
          rw whole all
    ]

-- the conditions in another order
turned : (t l c k w : Bool) (n : ℕ) → cond ((t && l) && ((c && k) && w)) n 0 ≡ cond (t && c) (cond w (cond (l && k) n 0) 0) 0
turned false l c k w n = refl
turned true false false k w n = refl
turned true false true k true n = refl
turned true false true k false n = refl
turned true true false k w n = refl
turned true true true true w n = refl
turned true true true false true n = refl
turned true true true false false n = refl

shape :
    (under adds conf between cutoff kept t l c k w : Bool) (n : ℕ)
    → under ≡ (t && l) → adds ≡ ((c && k) && w) → conf ≡ (t && c) → between ≡ w → cutoff ≡ l → kept ≡ k
    → cond (under && adds) n 0 ≡ cond conf (cond between (cond (cutoff && kept) n 0) 0) 0
shape under adds conf between cutoff kept t l c k w n e1 e2 e3 e4 e5 e6 = cc (turned t l c k w n)

-- the count of a group as a sum over pairs
pub count_of-pairs : (T : List Event) (place : ℕ → ℕ) (test : ℕ × ℕ → Bool) (p q : ℕ)
    → count_of T place test p q
    ≡ sum_by (λ b. sum_by (λ a. cond (is_conflict T a b) (cond (is_between p q (place a) (place b)) (cond (test (a, b)) 1 0) 0) 0) (before b)) (before (length T))
count_of-pairs T place test p q =
    let one : ℕ × ℕ → ℕ = λ e. cond (test e) 1 0 in
    let inner : ℕ × ℕ → ℕ = λ e. cond (is_between p q (place e.0) (place e.1)) (one e) 0 in
    sum_by-filter one (λ e. is_between p q (place e.0) (place e.1)) (conflicts T)
    ∙ sum_by-filter inner (λ e. is_conflict T e.0 e.1) (pairs_below (length T))
    ∙ sum_by-pairs (λ e. cond (is_conflict T e.0 e.1) (inner e) 0) (length T)

-- what later events count, thread by thread, is what all events count, each of its own thread
pub later_sums : (r : Recording) → IsWellFormed r → (keeps : Class → Class → Bool) (classes : List ℕ) (infos : List Class) (end : ℕ → ℕ → ℕ) (p q : ℕ)
    → sum_by (λ u. sum_by (later_count r.events keeps classes infos u end p q) (events_of r.events u)) (before (length r.threads))
    ≡ sum_by (λ b. later_count r.events keeps classes infos (thread_number r.events b) end p q b) (before (length r.events))
later_sums r formed keeps classes infos end p q =
    let T = r.events in
    let h : ℕ → ℕ = λ b. later_count T keeps classes infos (thread_number T b) end p q b in
    sym (sum_by_each (λ u. sum_by h (events_of T u)) (λ u. sum_by (later_count T keeps classes infos u end p q) (events_of T u)) (before (length r.threads))
    (λ u. sum_by_same h (later_count T keeps classes infos u end p q) (events_of T u)
    (All-weaker (λ e. thread_at T e ≡ Some u) (λ e. h e ≡ later_count T keeps classes infos u end p q e)
    (λ e at. ap (λ o. later_count T keeps classes infos (unwrap_or o 0) end p q e) at) (events_of T u) (events_of-thread T u))))
    ∙ sum_by_threads r formed h

-- any ends, of a cut or not
module _ (r : Recording) (place : ℕ → ℕ) (keeps : Class → Class → Bool) (classes : List ℕ) (infos : List Class) (end : ℕ → ℕ → ℕ) (are : AreClasses r.events place classes infos) (p q : ℕ) where
  pub class_of : (e : ℕ) → e < length r.events → slice_get infos (slice_index classes e) ≡ Some (get_or infos (slice_index classes e) some_class)
  class_of e lt =
      slice_get-get_or infos (slice_index classes e) some_class (All-get_or (λ c. c < length infos) classes e 0 (omega (arith, are.len)) are.within)

  thread_is : (e : ℕ) → e < length r.events → thread_number r.events e ≡ (get_or r.events e some_event).thread
  thread_is e lt = ap (λ o. unwrap_or (option_map (λ (v : Event). v.thread) o) 0) (slice_get-get_or r.events e some_event lt)

  -- what an earlier event adds
  pub term : (a b n : ℕ) → a < length r.events → b < length r.events
      → cond (is_under r.events (thread_number r.events b) (end b) a && adds_to keeps p q (get_or infos (slice_index classes b) some_class) (slice_get infos (slice_index classes a))) n 0
      ≡ cond (is_conflict r.events a b) (cond (is_between p q (place a) (place b)) (cond (is_cut_off r.events end a b && is_kept_pair keeps classes infos a b) n 0) 0) 0
  term a b n alt blt =
      let T = r.events in
      let v = get_or T a some_event in
      let w = get_or T b some_event in
      let i = get_or infos (slice_index classes a) some_class in
      let j = get_or infos (slice_index classes b) some_class in
      let u = thread_number T b in
      let vat : slice_get T a ≡ Some v = slice_get-get_or T a some_event alt in
      let wat : slice_get T b ≡ Some w = slice_get-get_or T b some_event blt in
      let iat : slice_get infos (slice_index classes a) ≡ Some i = class_of a alt in
      let jat : slice_get infos (slice_index classes b) ≡ Some j = class_of b blt in
      let thread : w.thread ≡ u = sym (thread_is b blt) in
      let opa : v.op ≡ i.op = sym (are.op a v i vat iat) in
      let opb : w.op ≡ j.op = sym (are.op b w j wat jat) in
      let pa : place a ≡ i.place = sym (are.located a i alt iat) in
      let pb : place b ≡ j.place = sym (are.located b j blt jat) in
      shape
      (is_under T u (end b) a) (adds_to keeps p q j (slice_get infos (slice_index classes a))) (is_conflict T a b) (is_between p q (place a) (place b)) (is_cut_off T end a b) (is_kept_pair keeps classes infos a b)
      (not (v.thread == u)) (nat_lt (place_of T a) (end b v.thread)) (is_clash_of_ops i.op j.op) (keeps i j) (is_between p q i.place j.place) n
      (ap (passes_by (λ (v : Event). not (v.thread == u) && nat_lt (place_of T a) (end b v.thread))) vat)
      (ap (adds_to keeps p q j) iat)
      (ap (λ o. pass_both is_clash o (slice_get T b)) vat ∙ ap (pass_both is_clash (Some v)) wat
      ∙ ap (λ n. not (v.thread == n) && is_clash_of_ops v.op w.op) thread
      ∙ ap (λ o. not (v.thread == u) && is_clash_of_ops o w.op) opa
      ∙ ap (λ o. not (v.thread == u) && is_clash_of_ops i.op o) opb)
      (ap (λ n. is_between p q n (place b)) pa ∙ ap (is_between p q i.place) pb)
      (ap (passes_by (λ (v : Event). nat_lt (place_of T a) (end b v.thread))) vat)
      (ap (λ o. keeps_by keeps o (slice_get infos (slice_index classes b))) iat ∙ ap (keeps_by keeps (Some i)) jat)

  -- what a later event counts, by its class
  pub count_of_class : (b : ℕ) → b < length r.events
      → later_count r.events keeps classes infos (thread_number r.events b) end p q b
      ≡ pair_count r.events keeps classes infos (thread_number r.events b) (end b) (get_or infos (slice_index classes b) some_class) p q
  count_of_class b lt = ap (later_by r.events keeps classes infos (thread_number r.events b) (end b) p q) (class_of b lt)

module _ (r : Recording) (formed : IsWellFormed r) (place : ℕ → ℕ) (keeps : Class → Class → Bool) (classes : List ℕ) (infos : List Class) (end : ℕ → ℕ → ℕ) (are : AreClasses r.events place classes infos) (cut : IsCut r.events end) (p q : ℕ) where
  -- no event from b on comes before an end of b
  under_none : (a b : ℕ) → b ≤ a → a < length r.events → is_under r.events (thread_number r.events b) (end b) a ≡ false
  under_none a b le lt =
      let T = r.events in
      let v = get_or T a some_event in
      let vat : slice_get T a ≡ Some v = slice_get-get_or T a some_event lt in
      let at = ap (passes_by (λ (v : Event). not (v.thread == thread_number T b) && nat_lt (place_of T a) (end b v.thread))) vat in
      let placed : place_of T a ≡ count_before T a v.thread = place_of-count T a v vat in
      let early = cut.earlier b v.thread (omega arith) in
      let rise = count_before-rises T v.thread b a le in
      at ∙ and_right (not (v.thread == thread_number T b)) (nat_lt (place_of T a) (end b v.thread)) (le-ltb (place_of T a) (end b v.thread) (omega (arith, placed, early, rise)))

  pub later_is : (b : ℕ) → b < length r.events
      → later_count r.events keeps classes infos (thread_number r.events b) end p q b
      ≡ sum_by (λ a. cond (is_conflict r.events a b) (cond (is_between p q (place a) (place b)) (cond (is_cut_off r.events end a b && is_kept_pair keeps classes infos a b) 1 0) 0) 0) (before b)
  later_is b lt =
      let T = r.events in
      let u = thread_number T b in
      let j = get_or infos (slice_index classes b) some_class in
      let F : ℕ → ℕ = λ a. cond (is_under T u (end b) a && adds_to keeps p q j (slice_get infos (slice_index classes a))) 1 0 in
      count_of_class r place keeps classes infos end are p q b lt
      ∙ sum_by_cut F b (length T) (omega arith)
      (λ a low high. cond-false (is_under T u (end b) a && adds_to keeps p q j (slice_get infos (slice_index classes a))) 1 0 (and_left (is_under T u (end b) a) (adds_to keeps p q j (slice_get infos (slice_index classes a))) (under_none a b low high)))
      ∙ sum_by_below F (λ a. cond (is_conflict T a b) (cond (is_between p q (place a) (place b)) (cond (is_cut_off T end a b && is_kept_pair keeps classes infos a b) 1 0) 0) 0) b
      (λ a low. term r place keeps classes infos end are p q a b 1 (omega arith) lt)

  pub group_is : count_of r.events place (λ e. is_cut_off r.events end e.0 e.1 && is_kept_pair keeps classes infos e.0 e.1) p q
      ≡ sum_by (λ u. sum_by (later_count r.events keeps classes infos u end p q) (events_of r.events u)) (before (length r.threads))
  group_is =
      let T = r.events in
      count_of-pairs T place (λ e. is_cut_off T end e.0 e.1 && is_kept_pair keeps classes infos e.0 e.1) p q
      ∙ sum_by_below
      (λ b. sum_by (λ a. cond (is_conflict T a b) (cond (is_between p q (place a) (place b)) (cond (is_cut_off T end a b && is_kept_pair keeps classes infos a b) 1 0) 0) 0) (before b))
      (λ b. later_count T keeps classes infos (thread_number T b) end p q b) (length T) (λ b lt. sym (later_is b lt))
      ∙ sym (later_sums r formed keeps classes infos end p q)

-- all pairs fit
module _ (r : Recording) (formed : IsWellFormed r) (keeps : Class → Class → Bool) (classes : List ℕ) (infos : List Class) (end : ℕ → ℕ → ℕ) (p q k : ℕ) where
  pub room_is : k < length r.threads
      → sum_by (λ u. sum_by (later_count r.events keeps classes infos u end p q) (events_of r.events u)) (before k) + sum_by (λ e. length r.events) (events_of r.events k) ≤ 2 ^ 40
  room_is lt =
      let T = r.events in
      let g : ℕ → ℕ = λ u. sum_by (λ e. length T) (events_of T u) in
      let first = sum_by-le-sum_by (λ u. sum_by (later_count T keeps classes infos u end p q) (events_of T u)) g (before k) (λ u. later_sum-le T keeps classes infos u end p q (events_of T u)) in
      let part = sum_by_below-le g k (length r.threads) lt in
      let whole : sum_by g (before (length r.threads)) ≡ sum_by (λ e. length T) (before (length T)) = sum_by_threads r formed (λ e. length T) in
      let few = sum_by-le (λ e. length T) 1048576 (before (length T)) (λ i d below. formed.events) in
      let size = length-range_with_len 0 (length T) in
      omega (arith, first, part, whole, few, size, formed.events)
