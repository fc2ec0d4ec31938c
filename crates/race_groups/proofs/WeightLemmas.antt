-- The weight of the events before fronts: each event of a class weighed by how many later events are still to come.
use Rattle.std.proofs.Common.{◌≡◌, ℕ, ◌+◌, ◌-◌, ◌*◌, ◌<◌, ◌≤◌, ◌==◌, inl, inr, nat_lt, Bool, true, false, cond, List, length, set, take, drop, sum_by, slice_index, replicate, subst, map, get_or, zero-add, All, refl, sym, ap, ◌∙◌, arith, get_or-set_same, get_or-set_other}
use Rattle.std.proofs.lemmas.List.{take-take, drop-take, take_all, length-drop, length-replicate}
use Rattle.std.proofs.lemmas.List.Sums.{sum_by-take-drop}
use Rattle.rapid_text.specs.declared.event.Event.{Event}
use Rattle.event_index.specs.Lookups.{before, events_of, place_of}
use Rattle.rapid_text.specs.Recording.{Recording, IsWellFormed}
use Rattle.std.proofs.lemmas.List.Sums.{sum_by-le, sum_by_more, sum_by-take-le, count_by-le-length}
use Rattle.std.proofs.lemmas.List.Elements.{All-get_or}
use Rattle.std.proofs.lemmas.List.FromFn.{length-range_with_len, get_or-map-range_with_len}
use Rattle.std.proofs.lemmas.Bool.{cond-true, cond-false, cases_eq, eq-eqb, ne_eqb}
use Rattle.race_groups.specs.Cuts.{IsCut}
use Rattle.race_groups.specs.Counting.{AreFronts, AreSums, weight, weigh, class_count, front_count, ends_list, below_sum}
use Rattle.race_groups.proofs.LoopLemmas.{end_rises, zeros}
use Rattle.race_groups.proofs.FrontLemmas.{front_count-le}
use Rattle.race_groups.proofs.ThreadLemmas.{All-before, sum_by_fronts, thread_number}
use Rattle.race_groups.proofs.SumLemmas.{sum_by_each, sum_by_zero, sum_by-plus, sum_by_below, sum_by_below_changed}

module _ (T : List Event) (threads : ℕ) (fronts : List ℕ) where
  -- the elements between two places
  between : (w : ℕ → ℕ) (from to : ℕ) (xs : List ℕ) → from ≤ to → sum_by w (take to xs) ≡ sum_by w (take from xs) + sum_by w (take (to - from) (drop from xs))
  between w from to xs le =
      let e : to ≡ from + (to - from) = omega arith in
      let whole = sum_by-take-drop w (take to xs) from in
      let first : sum_by w (take from (take to xs)) ≡ sum_by w (take from xs) = ap (sum_by w) (take-take from to xs le) in
      let rest : sum_by w (drop from (take to xs)) ≡ sum_by w (take (to - from) (drop from xs)) = ap (λ n. sum_by w (drop from (take n xs))) e ∙ ap (sum_by w) (drop-take from (to - from) xs) in
      omega (arith, whole, first, rest)

  -- a front that moves on adds the events that it passes
  pub weight-set : (w : ℕ → ℕ) (t to : ℕ) → t < threads → length fronts ≡ threads → slice_index fronts t ≤ to
      → weight T threads (set fronts t to) w ≡ weight T threads fronts w + sum_by w (take (to - slice_index fronts t) (drop (slice_index fronts t) (events_of T t)))
  weight-set w t to lt len le =
      let f : ℕ → ℕ = λ t. sum_by w (take (slice_index fronts t) (events_of T t)) in
      let g : ℕ → ℕ = λ s. sum_by w (take (slice_index (set fronts t to) s) (events_of T s)) in
      let changed = sum_by_below_changed f g t threads lt (λ k ne. ap (λ n. sum_by w (take n (events_of T k))) (sym (get_or-set_other fronts t k to 0 ne))) in
      let here : g t ≡ sum_by w (take to (events_of T t)) = ap (λ n. sum_by w (take n (events_of T t))) (get_or-set_same fronts t to 0 (omega arith)) in
      let more = between w (slice_index fronts t) to (events_of T t) le in
      omega (arith, changed, here, more)

  -- nothing is before fronts that are 0
  pub weight-begin : (w : ℕ → ℕ) → ((t : ℕ) → slice_index fronts t ≡ 0) → weight T threads fronts w ≡ 0
  weight-begin w none =
      sum_by_each (λ t. sum_by w (take (slice_index fronts t) (events_of T t))) (λ t. 0) (before threads) (λ t. ap (λ n. sum_by w (take n (events_of T t))) (none t))
      ∙ sum_by_zero (before threads)

  pub weight-none : (w : ℕ → ℕ) → ((a : ℕ) → w a ≡ 0) → weight T threads fronts w ≡ 0
  weight-none w none =
      sum_by_each (λ t. sum_by w (take (slice_index fronts t) (events_of T t))) (λ t. 0) (before threads)
      (λ t. sum_by_each w (λ a. 0) (take (slice_index fronts t) (events_of T t)) none ∙ sum_by_zero (take (slice_index fronts t) (events_of T t)))
      ∙ sum_by_zero (before threads)

  pub weight-same : (w v : ℕ → ℕ) → ((a : ℕ) → w a ≡ v a) → weight T threads fronts w ≡ weight T threads fronts v
  weight-same w v same =
      sum_by_each (λ t. sum_by w (take (slice_index fronts t) (events_of T t))) (λ t. sum_by v (take (slice_index fronts t) (events_of T t))) (before threads)
      (λ t. sum_by_each w v (take (slice_index fronts t) (events_of T t)) same)

  pub weight-plus : (w v : ℕ → ℕ) → weight T threads fronts (λ a. w a + v a) ≡ weight T threads fronts w + weight T threads fronts v
  weight-plus w v =
      sum_by_each (λ t. sum_by (λ a. w a + v a) (take (slice_index fronts t) (events_of T t)))
      (λ t. sum_by w (take (slice_index fronts t) (events_of T t)) + sum_by v (take (slice_index fronts t) (events_of T t))) (before threads)
      (λ t. sum_by-plus w v (take (slice_index fronts t) (events_of T t)))
      ∙ sum_by-plus (λ t. sum_by w (take (slice_index fronts t) (events_of T t))) (λ t. sum_by v (take (slice_index fronts t) (events_of T t))) (before threads)

cond_le : (b : Bool) (w : ℕ) → cond b w 0 ≤ w
cond_le true w = omega arith
cond_le false w = omega arith

pub weigh_sum-le : (classes : List ℕ) (w c : ℕ) (xs : List ℕ) → w ≤ 1048576 → sum_by (weigh classes w c) xs ≤ length xs * 1048576
weigh_sum-le classes w c xs le = sum_by-le (weigh classes w c) 1048576 xs (λ k d lt. let h = cond_le (slice_index classes (get_or xs k d) == c) w in omega (arith, h, le))

-- no weight is large
pub weight-le : (r : Recording) → IsWellFormed r → (classes fronts : List ℕ) (c w : ℕ) → w ≤ 1048576 → ((t : ℕ) → t < length r.threads → slice_index fronts t ≤ length (events_of r.events t))
    → weight r.events (length r.threads) fronts (weigh classes w c) ≤ 1099511627776
weight-le r formed classes fronts c w le within =
    let T = r.events in
    let f : ℕ → ℕ = weigh classes w c in
    let g : ℕ → ℕ = λ e. cond (nat_lt (place_of T e) (slice_index fronts (thread_number T e))) (f e) 0 in
    let whole : weight T (length r.threads) fronts f ≡ sum_by g (before (length T)) = sum_by_fronts r formed f (slice_index fronts) within in
    let few = sum_by-le g 1048576 (before (length T)) (All-before (λ e. g e ≤ 1048576) (length T)
    (λ e lt. let a = cond_le (nat_lt (place_of T e) (slice_index fronts (thread_number T e))) (f e) in let b = cond_le (slice_index classes e == c) w in omega (arith, a, b, le)))
    in
    let size = length-range_with_len 0 (length T) in
    omega (arith, whole, few, size, formed.events)

-- a weight in two
weigh_two : (b : Bool) (v w : ℕ) → w ≡ v + 1 → cond b w 0 ≡ cond b v 0 + cond b 1 0
weigh_two true v w is = is
weigh_two false v w is = refl

pub get_before : (f : ℕ → ℕ) (n i : ℕ) → i < n → slice_index (map f (before n)) i ≡ f i
get_before f n i lt = get_or-map-range_with_len f 0 n i i 0 lt (zero-add i)

pub ends_are : (threads u : ℕ) (end : ℕ → ℕ) → u < threads → AreFronts threads u end (ends_list threads u end)
ends_are threads u end inside = (
  λ t lt ne. get_before (λ t. cond (t == u) 0 (end t)) threads t lt ∙ cond-false (t == u) 0 (end t) (ne_eqb t u ne),
  get_before (λ t. cond (t == u) 0 (end t)) threads u inside ∙ cond-true (u == u) 0 (end u) (eq-eqb u u refl),
)

-- the counts before fronts that are the ends
pub ends_same : (T : List Event) (threads u : ℕ) (end : ℕ → ℕ) (classes fronts : List ℕ) (c : ℕ) → u < threads → AreFronts threads u end fronts
    → front_count T threads classes fronts c ≡ front_count T threads classes (ends_list threads u end) c
ends_same T threads u end classes fronts c inside are =
    let there = ends_are threads u end inside in
    sum_by_below (λ t. class_count classes c (take (slice_index fronts t) (events_of T t))) (λ t. class_count classes c (take (slice_index (ends_list threads u end) t) (events_of T t))) threads
    (λ t lt.
    ap (λ n. class_count classes c (take n (events_of T t)))
    (elim (cases_eq t u) [
      | inl e ↦ ap (slice_index fronts) e ∙ are.1 ∙ sym (ap (slice_index (ends_list threads u end)) e ∙ there.1)
      | inr ne ↦ are.0 t lt ne ∙ sym (there.0 t lt ne)
    ]))

-- The sums as the events of a thread are gone through.
module _ (T : List Event) (threads n : ℕ) (classes : List ℕ) (u j : ℕ) (end : ℕ → ℕ → ℕ) (i left : ℕ) (fronts sums : List ℕ) (are : AreSums T threads n classes u j end i left fronts sums) (inside : i < length (events_of T u)) where
  abbrev pub of_class : ℕ → ℕ
  of_class e = cond (slice_index classes e == j) 1 0

  -- how many are left after this one
  pub left_more : left ≡ of_class (slice_index (events_of T u) i) + class_count classes j (drop (i + 1) (events_of T u))
  left_more =
      let lane = events_of T u in
      let more = sum_by_more of_class lane i 0 inside in
      let here = sum_by-take-drop of_class lane i in
      let there = sum_by-take-drop of_class lane (i + 1) in
      let is = are.left_is in
      omega (arith, more, here, there, is)

  pub AreSums-skipped : (slice_index classes (slice_index (events_of T u) i) == j) ≡ false → AreSums T threads n classes u j end (i + 1) left fronts sums
  AreSums-skipped other = record {
    len = are.len;
    fronts_len = are.fronts_len;
    own = are.own;
    within = are.within;
    behind = λ t k lt ne low below. are.behind t k lt ne (omega (arith, low)) below;
    left_is = let none : of_class (slice_index (events_of T u) i) ≡ 0 = cond-false (slice_index classes (slice_index (events_of T u) i) == j) 1 0 other in omega (arith, left_more, none);
    counted = λ c lt.
        let g : ℕ → ℕ = λ b. cond (slice_index classes b == j) (front_count T threads classes (ends_list threads u (end b)) c) 0 in
        let b = slice_index (events_of T u) i in
        let more = sum_by_more g (events_of T u) i 0 inside in
        let none : g b ≡ 0 = cond-false (slice_index classes b == j) (front_count T threads classes (ends_list threads u (end b)) c) 0 other in
        let old = are.counted c lt in
        omega (arith, more, none, old);
  }

  pub AreSums-moved : IsCut T end → u < threads → (slice_index classes (slice_index (events_of T u) i) == j) ≡ true → (rest : ℕ) (front after : List ℕ) → left ≡ rest + 1
      → length front ≡ threads → length after ≡ n → AreFronts threads u (end (slice_index (events_of T u) i)) front → ((t : ℕ) → t < threads → slice_index front t ≤ length (events_of T t))
      → ((c : ℕ) → c < length after → slice_index after c + weight T threads fronts (weigh classes left c) ≡ slice_index sums c + weight T threads front (weigh classes left c))
      → AreSums T threads n classes u j end (i + 1) rest front after
  AreSums-moved cut named this rest front after one wide size ends within moved = record {
    len = size;
    fronts_len = wide;
    own = ends.1;
    within = within;
    behind = λ t k lt ne low below.
        let here = ends.0 t lt ne in
        let rises = end_rises T end u t i k cut (omega (arith, low)) below in
        omega (arith, here, rises);
    left_is = let some : of_class (slice_index (events_of T u) i) ≡ 1 = cond-true (slice_index classes (slice_index (events_of T u) i) == j) 1 0 this in omega (arith, left_more, some, one);
    counted = λ c lt.
        let b = slice_index (events_of T u) i in
        let g : ℕ → ℕ = λ b. cond (slice_index classes b == j) (front_count T threads classes (ends_list threads u (end b)) c) 0 in
        let more = sum_by_more g (events_of T u) i 0 inside in
        let some : g b ≡ front_count T threads classes (ends_list threads u (end b)) c = cond-true (slice_index classes b == j) (front_count T threads classes (ends_list threads u (end b)) c) 0 this in
        let same = ends_same T threads u (end b) classes front c named ends in
        let two : weight T threads front (weigh classes left c) ≡ weight T threads front (weigh classes rest c) + front_count T threads classes front c =
        weight-same T threads front (weigh classes left c) (λ e. weigh classes rest c e + weigh classes 1 c e) (λ e. weigh_two (slice_index classes e == c) rest left one)
        ∙ weight-plus T threads front (weigh classes rest c) (weigh classes 1 c)
        in
        let old = are.counted c lt in
        let now = moved c (omega (arith, lt, size)) in
        omega (arith, more, some, same, two, old, now);
  }

  -- one is left where this one is of the class
  pub left_some : (slice_index classes (slice_index (events_of T u) i) == j) ≡ true → 0 < left
  left_some this = let some : of_class (slice_index (events_of T u) i) ≡ 1 = cond-true (slice_index classes (slice_index (events_of T u) i) == j) 1 0 this in omega (arith, left_more, some)

module _ (T : List Event) (threads n : ℕ) (classes : List ℕ) (u j : ℕ) (end : ℕ → ℕ → ℕ) where
  pub AreSums-same : (i left rest : ℕ) (fronts front sums after : List ℕ) → rest ≡ left → front ≡ fronts → after ≡ sums → AreSums T threads n classes u j end i left fronts sums → AreSums T threads n classes u j end i rest front after
  AreSums-same i left rest fronts front sums after e1 e2 e3 are =
      subst (λ x. AreSums T threads n classes u j end i x front after) (sym e1)
      (subst (λ x. AreSums T threads n classes u j end i left x after) (sym e2) (subst (λ x. AreSums T threads n classes u j end i left fronts x) (sym e3) are))

  pub AreSums-begin : (left m l : ℕ) (fronts sums : List ℕ) → fronts ≡ replicate m 0 → sums ≡ replicate l 0 → m ≡ threads → l ≡ n → left ≡ class_count classes j (events_of T u)
      → AreSums T threads n classes u j end 0 left fronts sums
  AreSums-begin left m l fronts sums f s wide size is =
      let none : (t : ℕ) → slice_index fronts t ≡ 0 = λ t. ap (λ xs. slice_index xs t) f ∙ zeros m t in
      record {
        len = ap length s ∙ length-replicate l 0 ∙ size;
        fronts_len = ap length f ∙ length-replicate m 0 ∙ wide;
        own = none u;
        within = λ t lt. omega (arith, none t);
        behind = λ t k lt ne low below. omega (arith, none t);
        left_is = is;
        counted = λ c lt.
            let here : slice_index sums c ≡ 0 = ap (λ xs. slice_index xs c) s ∙ zeros l c in
            let nothing = weight-begin T threads fronts (weigh classes left c) none in
            let empty : below_sum T threads classes u end j c (take 0 (events_of T u)) ≡ 0 = refl in
            omega (arith, here, nothing, empty);
      }

  -- few are left
  pub left_few : (i left : ℕ) (fronts sums : List ℕ) → AreSums T threads n classes u j end i left fronts sums → left ≤ length (events_of T u)
  left_few i left fronts sums are =
      let few = count_by-le-length (λ e. slice_index classes e == j) (drop i (events_of T u)) in
      let size = length-drop i (events_of T u) in
      omega (arith, few, size, are.left_is)

  nothing : (b : Bool) (w : ℕ) → w ≡ 0 → cond b w 0 ≡ 0
  nothing true w is = is
  nothing false w is = refl

  -- at the end nothing is left
  pub AreSums-end : (i left : ℕ) (fronts sums : List ℕ) → AreSums T threads n classes u j end i left fronts sums → length (events_of T u) ≤ i → (c : ℕ) → c < n
      → slice_index sums c ≡ below_sum T threads classes u end j c (events_of T u)
  AreSums-end i left fronts sums are done c lt =
      let few = count_by-le-length (λ e. slice_index classes e == j) (drop i (events_of T u)) in
      let size = length-drop i (events_of T u) in
      let none : left ≡ 0 = omega (arith, few, size, are.left_is, done) in
      let light = weight-none T threads fronts (weigh classes left c) (λ e. nothing (slice_index classes e == c) left none) in
      let whole : below_sum T threads classes u end j c (take i (events_of T u)) ≡ below_sum T threads classes u end j c (events_of T u) = ap (below_sum T threads classes u end j c) (take_all i (events_of T u) done) in
      let old = are.counted c lt in
      omega (arith, old, light, whole)

-- The sums fit.
module _ (r : Recording) (formed : IsWellFormed r) (classes : List ℕ) (u j : ℕ) (end : ℕ → ℕ → ℕ) (within : (b t : ℕ) → b < length r.events → end b t ≤ length (events_of r.events t)) (named : u < length r.threads) where
  pub ends_within : (b : ℕ) → b < length r.events → (t : ℕ) → t < length r.threads → slice_index (ends_list (length r.threads) u (end b)) t ≤ length (events_of r.events t)
  ends_within b lt t below =
      let are = ends_are (length r.threads) u (end b) named in
      elim (cases_eq t u) [
        | inl e ↦ let none : slice_index (ends_list (length r.threads) u (end b)) t ≡ 0 = ap (slice_index (ends_list (length r.threads) u (end b))) e ∙ are.1 in omega (arith, none)
        | inr ne ↦ let is = are.0 t below ne in let fits = within b t lt in omega (arith, is, fits)
      ]

  pub ends_count-le : (b c : ℕ) → b < length r.events → front_count r.events (length r.threads) classes (ends_list (length r.threads) u (end b)) c ≤ length r.events
  ends_count-le b c lt = front_count-le r formed classes (ends_list (length r.threads) u (end b)) c (ends_within b lt)

  pub below_sum-le : (c : ℕ) → All (λ e. e < length r.events) (events_of r.events u) → length (events_of r.events u) ≤ 1048576 → below_sum r.events (length r.threads) classes u end j c (events_of r.events u) ≤ 1099511627776
  below_sum-le c known short =
      let lane = events_of r.events u in
      let f : ℕ → ℕ = λ b. front_count r.events (length r.threads) classes (ends_list (length r.threads) u (end b)) c in
      let g : ℕ → ℕ = λ b. cond (slice_index classes b == j) (f b) 0 in
      let few = sum_by-le g 1048576 lane (λ k d lt.
      let b = get_or lane k d in
      let some = cond_le (slice_index classes b == j) (f b) in
      let fits = ends_count-le b c (All-get_or (λ e. e < length r.events) lane k d lt known) in
      omega (arith, some, fits, formed.events)) in
      omega (arith, few, short)

-- the sum so far is no more than the whole
pub below_part : (T : List Event) (threads : ℕ) (classes : List ℕ) (u j : ℕ) (end : ℕ → ℕ → ℕ) (c i : ℕ) → below_sum T threads classes u end j c (take i (events_of T u)) ≤ below_sum T threads classes u end j c (events_of T u)
below_part T threads classes u j end c i = sum_by-take-le (λ b. cond (slice_index classes b == j) (front_count T threads classes (ends_list threads u (end b)) c) 0) (events_of T u) i
