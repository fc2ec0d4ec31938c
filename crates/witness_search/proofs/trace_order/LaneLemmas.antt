-- The lanes of a lock, with one event more.
use Rattle.std.proofs.Common.{◌≡◌, ◌≢◌, ◌⊎◌, ◌↔◌, ℕ, ◌+◌, ◌-◌, ◌<◌, ◌≤◌, true, false, List, [], ◌∷◌, ◌++◌, Vec, Global, length, take, get_or, set, Some, AllPairs, Contains, slice_get, refl, sym, ap, ◌∙◌, subst, arith, inl, inr, true≢false}
use Rattle.std.proofs.lemmas.Bool.{cases_lt, cases_eq, false_from_ne_true}
use Rattle.std.proofs.lemmas.List.{length-append, length-set, get_or-set_same, get_or-set_other, get_or_default, get_or_append_left}
use Rattle.std.proofs.lemmas.List.Elements.{All-push, Contains-append_left, Contains-get_or, Contains-push, Contains-push_cases}
use Rattle.std.proofs.lemmas.List.Quantifiers.{all_pairs_push}
use Rattle.std.proofs.lemmas.Option.{slice_get_within, get_or_from_slice_get, slice_get-get_or}
use Rattle.rapid_text.specs.declared.event.Event.{Event}
use Rattle.rapid_text.specs.declared.event.Op.TheVariants.{Acquire}
use Rattle.rapid_text.specs.Recording.{Recording, IsWellFormed}
use Rattle.trace_rules.specs.Rules.{IsDisciplined, hold_count}
use Rattle.event_index.specs.Events.{op_at, thread_at}
use Rattle.event_index.specs.Lookups.{place_of, section_end, events_of}
use Rattle.event_index.proofs.CallerLemmas.{one_thread, thread_event, thread_within, events_of-place}
use Rattle.shb_clocks.proofs.ReadLemmas.{thread_named}
use Rattle.must_order.proofs.TableLemmas.{is_outer-not}
use Rattle.shb_clocks.proofs.PlaceLemmas.{place_of-le_from, place_of-later, le-from_place_of}
use Rattle.must_order.specs.Sections.{is_outer}
use Rattle.must_order.proofs.SectionLemmas.{section-open}
use Rattle.must_order.proofs.TimelineLemmas.{IsOuter, is_outer-from, IsOuter-test, held_since, section-since}
use Rattle.witness_search.specs.trace_order.Acquires.{IsOneOf, IsTaken, IsPassed, IsLaneUpTo, AreLanesUpTo, AreTakenUpTo, AreTaken}
use Rattle.witness_search.specs.declared.trace_order.acquires.Lane.{Lane}
use Rattle.witness_search.proofs.RisingLemmas.{no_member}

module _ (T : List Event) (t k : ℕ) where
  -- one event more of the thread is passed
  pub passed_more : (e : ℕ) → IsPassed T t k e → IsPassed T t (k + 1) e
  passed_more e is = record {
    thread = is.thread;
    of = is.of;
    passed = elim is.passed [ inl low ↦ inl low | inr here ↦ inr (here.0, omega (arith, here.1)) ];
  }

  -- which is this one
  module _ (e : ℕ) (of : thread_at T e ≡ Some t) (next : place_of T e ≡ k) where
    pub passed_cases : (a : ℕ) → IsPassed T t (k + 1) a → IsPassed T t k a ⊎ (a ≡ e)
    passed_cases a is =
        elim is.passed [
          | inl low ↦ inl (record { thread = is.thread; of = is.of; passed = inl low })
          | inr here ↦ elim (cases_lt (place_of T a) k) [
            | inl early ↦ inl (record { thread = is.thread; of = is.of; passed = inr (here.0, early) })
            | inr late ↦
                let of_a : thread_at T a ≡ Some t = is.of ∙ ap Some here.0 in
                let up : a ≤ e = le-from_place_of T a e t of_a of (omega (arith, here.1, next)) in
                let down : e ≤ a = le-from_place_of T e a t of of_a (omega (arith, late, next)) in
                inr (omega (arith, up, down))
          ]
        ]

    pub passed_here : IsPassed T t (k + 1) e
    passed_here = record { thread = t; of = of; passed = inr (refl, omega (arith, next)) }

    pub passed_not : IsPassed T t k e → ⊥
    passed_not is =
        let one : is.thread ≡ t = one_thread T e is.thread t is.of of in
        elim is.passed [ inl low ↦ omega (arith, low, one) | inr here ↦ omega (arith, here.1, next) ]

    module _ (width l : ℕ) where
      -- a lane that does not take it
      lane_same : (lane : Lane) → ¬ IsTaken T l lane.thread e → IsLaneUpTo T l t k lane → IsLaneUpTo T l t (k + 1) lane
      lane_same lane not_it is = record {
        rising = is.rising;
        members = λ a. (
          λ m. let h = (is.members a).0 m in (h.0, passed_more a h.1),
          λ h. elim (passed_cases a h.1) [
            | inl old ↦ (is.members a).1 (h.0, old)
            | inr one ↦ absurd (not_it (subst (IsTaken T l lane.thread) one h.0))
          ],
        );
      }

      -- the lane that takes it
      lane_more : (lane : Lane) (new : Vec ℕ Global) → lane.thread ≡ t → is_outer T l e ≡ true → new.items ≡ lane.events.items ++ e ∷ []
          → IsLaneUpTo T l t k lane
          → IsLaneUpTo T l t (k + 1) (record { thread = lane.thread; events = new })
      lane_more lane new own takes pushed is =
          let xs : List ℕ = lane.events.items in
          record {
            rising = subst (AllPairs (λ x y. x < y)) (sym pushed) (all_pairs_push (λ x y. x < y) xs e is.rising
                (λ i d low.
                let h = (is.members (get_or xs i d)).0 (Contains-get_or xs i d low) in
                elim (cases_lt (get_or xs i d) e) [
                  | inl early ↦ early
                  | inr late ↦
                      let of_a : thread_at T (get_or xs i d) ≡ Some t = h.0.1 ∙ ap Some own in
                      let place : place_of T e ≤ place_of T (get_or xs i d) = place_of-le_from T e (get_or xs i d) t of of_a late in
                      let same_thread : h.1.thread ≡ t = one_thread T (get_or xs i d) h.1.thread t h.1.of of_a in
                      absurd (elim h.1.passed [ inl low_thread ↦ omega (arith, low_thread, same_thread) | inr here ↦ omega (arith, here.1, place, next) ])
                ]));
            members = λ a. (
              λ m. elim (Contains-push_cases xs e a (subst (λ (ys : List ℕ). Contains ys a) pushed m)) [
                | inl old ↦ let h = (is.members a).0 old in (h.0, passed_more a h.1)
                | inr one ↦ subst (λ (b : ℕ). IsTaken T l lane.thread b × IsPassed T t (k + 1) b) one ((takes, of ∙ ap Some (sym own)), passed_here)
              ],
              λ h. subst (λ (ys : List ℕ). Contains ys a) (sym pushed)
                  (elim (passed_cases a h.1) [
                    | inl old ↦ Contains-append_left xs (e ∷ []) a ((is.members a).1 (h.0, old))
                    | inr one ↦ subst (Contains (xs ++ e ∷ [])) (sym one) (Contains-push xs e)
                  ]),
            );
          }

      -- an event that takes no lock anew, or another lock
      pub AreLanesUpTo-same : (lanes : List Lane) → is_outer T l e ≡ false → AreLanesUpTo T width l t k lanes → AreLanesUpTo T width l t (k + 1) lanes
      AreLanesUpTo-same lanes not_it are = record {
        named = are.named;
        sound = λ i d lt. lane_same (get_or lanes i d) (λ takes. true≢false (sym takes.0 ∙ not_it)) (are.sound i d lt);
        complete = λ a u taken passed. elim (passed_cases a passed) [
          | inl old ↦ are.complete a u taken old
          | inr one ↦ absurd (true≢false (sym taken.0 ∙ ap (is_outer T l) one ∙ not_it))
        ];
        threads = are.threads;
        rising = are.rising;
      }

      -- the last lane is the thread's, and takes the event
      module _
          (lanes : List Lane) (n : ℕ) (lane : Lane) (new : Vec ℕ Global) (last : n + 1 ≡ length lanes) (own : IsOneOf lanes n t)
          (at : lane ≡ get_or lanes n lane) (takes : is_outer T l e ≡ true) (pushed : new.items ≡ lane.events.items ++ e ∷ [])
          (are : AreLanesUpTo T width l t k lanes) where
        abbrev pub grown : Lane
        grown = record { thread = lane.thread; events = new }

        mine : lane.thread ≡ t
        mine = ap (λ (x : Lane). x.thread) at ∙ own lane

        long : length (set lanes n grown) ≡ length lanes
        long = length-set lanes n grown

        threads_same : (i : ℕ) (d : Lane) → i < length lanes → (get_or (set lanes n grown) i d).thread ≡ (get_or lanes i d).thread
        threads_same i d lt =
            elim (cases_eq i n) [
              | inr other ↦ ap (λ (x : Lane). x.thread) (get_or-set_other lanes n i grown d other)
              | inl one ↦
                  ap (λ j. (get_or (set lanes n grown) j d).thread) one
                  ∙ ap (λ (x : Lane). x.thread) (get_or-set_same lanes n grown d (omega (arith, last)))
                  ∙ mine
                  ∙ sym (own d)
                  ∙ sym (ap (λ j. (get_or lanes j d).thread) one)
            ]

        pub AreLanesUpTo-more : AreLanesUpTo T width l t (k + 1) (set lanes n grown)
        AreLanesUpTo-more = record {
          named = λ i d lt. let low : i < length lanes = omega (arith, lt, long) in omega (arith, threads_same i d low, are.named i d low);
          sound = λ i d lt. elim (cases_eq i n) [
            | inl one ↦
                subst (λ j. IsLaneUpTo T l t (k + 1) (get_or (set lanes n grown) j d)) (sym one)
                (subst (IsLaneUpTo T l t (k + 1)) (sym (get_or-set_same lanes n grown d (omega (arith, last))))
                (lane_more lane new mine takes pushed (subst (IsLaneUpTo T l t k) (sym at) (are.sound n lane (omega (arith, last))))))
            | inr other ↦
                let low : i < length lanes = omega (arith, lt, long) in
                let before_it : (get_or lanes i d).thread < (get_or lanes n d).thread = are.rising i n d (omega (arith, low, last, other))
                (omega (arith, last)) in
                subst (IsLaneUpTo T l t (k + 1)) (sym (get_or-set_other lanes n i grown d other))
                (lane_same (get_or lanes i d)
                (λ taken. let same_thread = one_thread T e (get_or lanes i d).thread t taken.1 of in omega (arith, same_thread, before_it, own d))
                (are.sound i d low))
          ];
          complete = λ a u taken passed. elim (passed_cases a passed) [
            | inl old ↦
                let found = are.complete a u taken old in
                (found.0, omega (arith, found.1, long), λ d. threads_same found.0 d found.1 ∙ found.2 d)
            | inr one ↦
                let is_t : t ≡ u = one_thread T e t u of (ap (thread_at T) (sym one) ∙ taken.1) in
                (n, omega (arith, last, long), λ d. threads_same n d (omega (arith, last)) ∙ own d ∙ is_t)
          ];
          threads = λ i d lt. let low : i < length lanes = omega (arith, lt, long) in omega (arith, threads_same i d low, are.threads i d low);
          rising = λ i j d ij lt.
              let low : j < length lanes = omega (arith, lt, long) in
              omega (arith, threads_same i d (omega (arith, ij, low)), threads_same j d low, are.rising i j d ij low);
        }

module _ (T : List Event) (width l t k : ℕ) (lanes : List Lane) (are : AreLanesUpTo T width l t k lanes) where
  -- where the last lane is not the thread's none is
  no_lane : (0 < length lanes → ¬ IsOneOf lanes (length lanes - 1) t) → (i : ℕ) (d : Lane) → i < length lanes → (get_or lanes i d).thread < t
  no_lane other i d lt =
      let n : ℕ = length lanes - 1 in
      let top : n < length lanes = omega (arith, lt) in
      let apart : (get_or lanes n d).thread ≢ t = λ one. other (omega (arith, lt)) (λ c. ap (λ (x : Lane). x.thread) (get_or_default lanes n c d top) ∙ one) in
      let le : (get_or lanes n d).thread ≤ t = are.threads n d top in
      elim (cases_eq i n) [
        | inl one ↦ let same : (get_or lanes i d).thread ≡ (get_or lanes n d).thread = ap (λ j. (get_or lanes j d).thread) one in omega (arith, same, le, apart)
        | inr before_it ↦ let low : (get_or lanes i d).thread < (get_or lanes n d).thread = are.rising i n d (omega (arith, lt, before_it)) top in omega
            (arith, low, le)
      ]

  -- a lane of its own
  pub AreLanesUpTo-begun : t < width → (0 < length lanes → ¬ IsOneOf lanes (length lanes - 1) t) → (lane : Lane) → lane.thread ≡ t → lane.events.items ≡ []
      → AreLanesUpTo T width l t k (lanes ++ lane ∷ [])
  AreLanesUpTo-begun fits other lane own bare =
      let low = no_lane other in
      record {
        named = All-push (λ x. x.thread < width) lanes lane are.named (omega (arith, own, fits));
        sound = All-push (IsLaneUpTo T l t k) lanes lane are.sound (record {
          rising = subst (AllPairs (λ x y. x < y)) (sym bare) (λ i j d ij jn. absurd (omega arith));
          members = λ a. (
            λ m. absurd (no_member a (subst (λ (ys : List ℕ). Contains ys a) bare m)),
            λ h.
                let found = are.complete a lane.thread h.0 h.1 in
                absurd (omega (arith, low found.0 lane found.1, found.2 lane, own)),
          );
        });
        complete = λ a u taken passed.
            let found = are.complete a u taken passed in (
              found.0,
              omega (arith, found.1, length-append lanes (lane ∷ [])),
              λ d. ap (λ (x : Lane). x.thread)
                  (get_or_append_left lanes (lane ∷ []) d found.0 found.1) ∙ found.2 d,
            );
        threads = All-push (λ x. x.thread ≤ t) lanes lane are.threads (omega (arith, own));
        rising = all_pairs_push (λ a b. a.thread < b.thread) lanes lane are.rising (λ i d lt. omega (arith, low i d lt, own));
      }

-- whether an acquire finds its lock free, by the last of its thread before it that did
module _
    (T : List Event) (rules : IsDisciplined T) (l t e : ℕ) (op : op_at T e ≡ Some (Acquire l)) (of : thread_at T e ≡ Some t)
    (xs : List ℕ) (rising : AllPairs (λ x y. x < y) xs) (members : (a : ℕ) → Contains xs a ↔ (IsTaken T l t a × IsPassed T t (place_of T e) a)) where
  -- who holds the lock took it at one of them
  holder_in : (f : ℕ) → IsOuter T f l t → f < e → Contains xs f
  holder_in f outer early =
      (members f).1 (
        (is_outer-from T f l t outer, outer.of),
        record { thread = t; of = outer.of; passed = inr (refl, place_of-later T f e t outer.of of early) },
      )

  free_from : hold_count (take e T) t l ≡ 0 → is_outer T l e ≡ true
  free_from free = is_outer-from T e l t (record { acquires = op; of = of; free = free })

  pub free_first : xs ≡ [] → is_outer T l e ≡ true
  free_first none =
      elim (cases_lt 0 (hold_count (take e T) t l)) [
        | inr free ↦ free_from (omega (arith, free))
        | inl holds ↦
            let since = held_since T rules e t l (omega (arith, thread_within T e t of)) holds in
            absurd (no_member since.0 (subst (λ (ys : List ℕ). Contains ys since.0) none (holder_in since.0 since.1.outer since.1.early)))
      ]

  module _ (last : ℕ) (it : Contains xs last) (top : (a : ℕ) → Contains xs a → a ≤ last) where
    last_early : last < e
    last_early =
        let h = (members last).0 it in
        elim (cases_lt last e) [
          | inl lt ↦ lt
          | inr ge ↦
              let le = place_of-le_from T e last t of h.0.1 ge in
              let one : h.1.thread ≡ t = one_thread T last h.1.thread t h.1.of h.0.1 in
              absurd (elim h.1.passed [ inl low ↦ omega (arith, low, one) | inr here ↦ omega (arith, here.1, le) ])
        ]

    -- the last section ended before
    pub free_last : (k : ℕ) → section_end T last ≡ Some k → k < e → is_outer T l e ≡ true
    free_last k ends lt =
        elim (cases_lt 0 (hold_count (take e T) t l)) [
          | inr free ↦ free_from (omega (arith, free))
          | inl holds ↦
              let since = held_since T rules e t l (omega (arith, thread_within T e t of)) holds in
              let le = top since.0 (holder_in since.0 since.1.outer since.1.early) in
              let h = (members last).0 it in
              let outer = IsOuter-test T last l h.0.0 in
              let same_thread : outer.0 ≡ t = one_thread T last outer.0 t outer.1.of h.0.1 in
              elim (cases_eq since.0 last) [
                | inl one ↦ absurd (let late = section-since T rules e t l since.0 since.1 k (ap (section_end T) one ∙ ends) in omega (arith, late, lt))
                | inr other ↦
                    let held : 0 < hold_count (take last T) t l = since.1.held last (omega (arith, le, other)) (omega (arith, last_early)) in
                    let free : hold_count (take last T) t l ≡ 0 = sym (ap (λ u. hold_count (take last T) u l) same_thread) ∙ outer.1.free in
                    absurd (omega (arith, held, free))
              ]
        ]

    -- or it is open
    pub held_last : ((k : ℕ) → section_end T last ≡ Some k → e ≤ k) → is_outer T l e ≡ false
    held_last late =
        false_from_ne_true (is_outer T l e)
        (λ test.
        let here = IsOuter-test T e l test in
        let one : here.0 ≡ t = one_thread T e here.0 t here.1.of of in
        let h = (members last).0 it in
        let outer = IsOuter-test T last l h.0.0 in
        let held : 0 < hold_count (take e T) t l = section-open T rules last l t e outer.1.acquires h.0.1 late last_early
        (omega (arith, thread_within T e t of)) in
        let free : hold_count (take e T) t l ≡ 0 = sym (ap (λ u. hold_count (take e T) u l) one) ∙ here.1.free in
        omega (arith, held, free))

-- the last of rising numbers is the greatest
pub last_top : (xs : List ℕ) → AllPairs (λ x y. x < y) xs → (n d : ℕ) → n + 1 ≡ length xs → (a : ℕ) → Contains xs a → a ≤ get_or xs n d
last_top xs rising n d long a it =
    let here : get_or xs it.0 d ≡ a = get_or_default xs it.0 d a it.1 ∙ it.2 in
    elim (cases_eq it.0 n) [
      | inl one ↦ omega (arith, here, ap (λ k. get_or xs k d) one)
      | inr other ↦ let below : get_or xs it.0 d < get_or xs n d = rising it.0 n d (omega (arith, it.1, long, other)) (omega (arith, long)) in omega
          (arith, below, here)
    ]

-- the lanes of all locks
module _ (r : Recording) (t k : ℕ) where
  -- an event that takes no lock anew
  pub AreTakenUpTo-same : (by_lock : List (Vec Lane Global)) (e : ℕ) → thread_at r.events e ≡ Some t → place_of r.events e ≡ k
      → ((l : ℕ) → is_outer r.events l e ≡ false)
      → AreTakenUpTo r t k by_lock → AreTakenUpTo r t (k + 1) by_lock
  AreTakenUpTo-same by_lock e of next none are = record {
    len = are.len;
    lanes = λ l v at. AreLanesUpTo-same r.events t k e of next (length r.threads) l v.items (none l) (are.lanes l v at);
  }

  -- an acquire of a lock
  pub AreTakenUpTo-set : (by_lock : List (Vec Lane Global)) (e l : ℕ) (new : Vec Lane Global) → thread_at r.events e ≡ Some t → place_of r.events e ≡ k
      → op_at r.events e ≡ Some (Acquire l)
      → l < length by_lock → AreLanesUpTo r.events (length r.threads) l t (k + 1) new.items → AreTakenUpTo r t k by_lock → AreTakenUpTo r t (k + 1)
      (set by_lock l new)
  AreTakenUpTo-set by_lock e l new of next op low here are = record {
    len = length-set by_lock l new ∙ are.len;
    lanes = λ m v at.
        let inside : m < length (set by_lock l new) = slice_get_within (set by_lock l new) m v at in
        let value : get_or (set by_lock l new) m v ≡ v = get_or_from_slice_get (set by_lock l new) m v v at in
        elim (cases_eq m l) [
          | inl one ↦
              let same_lanes : new ≡ v = sym (get_or-set_same by_lock l new v low) ∙ sym (ap (λ j. get_or (set by_lock l new) j v) one) ∙ value in
              subst (λ (j : ℕ). AreLanesUpTo r.events (length r.threads) j t (k + 1) v.items) (sym one)
              (subst (λ (w : Vec Lane Global). AreLanesUpTo r.events (length r.threads) l t (k + 1) w.items) same_lanes here)
          | inr other ↦
              let long : m < length by_lock = omega (arith, inside, length-set by_lock l new) in
              let old : get_or by_lock m v ≡ v = sym (get_or-set_other by_lock l m new v other) ∙ value in
              let found : slice_get by_lock m ≡ Some v = slice_get-get_or by_lock m v long ∙ ap Some old in
              AreLanesUpTo-same r.events t k e of next (length r.threads) m v.items
              (is_outer-not r.events e m (λ also. other (one_lock_of m l (sym also ∙ op)))) (are.lanes m v found)
        ];
  }
    where
      one_lock_of : (m l : ℕ) → Some (Acquire m) ≡ Some (Acquire l) → m ≡ l
      one_lock_of m l h = cc

place_low : (T : List Event) (e : ℕ) (v : Event) → slice_get T e ≡ Some v → place_of T e < length (events_of T v.thread)
place_low T e v at = slice_get_within (events_of T v.thread) (place_of T e) e (events_of-place T e v at)

-- all events of a thread are passed
pub AreTakenUpTo-next : (r : Recording) (t : ℕ) (by_lock : List (Vec Lane Global)) → AreTakenUpTo r t (length (events_of r.events t)) by_lock
    → AreTakenUpTo r (t + 1) 0 by_lock
AreTakenUpTo-next r t by_lock are = record {
  len = are.len;
  lanes = λ l v at.
      let old = are.lanes l v at in
      record {
        named = old.named;
        sound = λ i d lt. let lane = old.sound i d lt in record {
          rising = lane.rising;
          members = λ a. (λ m. let h = (lane.members a).0 m in (h.0, next_from a h.1), λ h. (lane.members a).1 (h.0, next_to a h.1));
        };
        complete = λ a u taken passed. old.complete a u taken (next_to a passed);
        threads = λ i d lt. omega (arith, old.threads i d lt);
        rising = old.rising;
      };
}
  where
    next_from : (a : ℕ) → IsPassed r.events t (length (events_of r.events t)) a → IsPassed r.events (t + 1) 0 a
    next_from a is = record {
      thread = is.thread;
      of = is.of;
      passed = inl (elim is.passed [ inl low ↦ omega (arith, low) | inr here ↦ omega (arith, here.0) ]);
    }

    next_to : (a : ℕ) → IsPassed r.events (t + 1) 0 a → IsPassed r.events t (length (events_of r.events t)) a
    next_to a is = record {
      thread = is.thread;
      of = is.of;
      passed = elim is.passed [
        | inl low ↦ elim (cases_lt is.thread t) [
          | inl before_it ↦ inl before_it
          | inr late ↦
              let one : is.thread ≡ t = omega (arith, low, late) in
              inr (
                one,
                (let v = thread_event r.events a t (is.of ∙ ap Some one) in omega
                    (arith, place_low r.events a v.0 v.1, ap (λ u. length (events_of r.events u)) v.2)),
              )
        ]
        | inr here ↦ absurd (omega (arith, here.1))
      ];
    }

-- all events are
pub AreTaken-end : (r : Recording) → IsWellFormed r → (by_lock : List (Vec Lane Global)) → AreTakenUpTo r (length r.threads) 0 by_lock → AreTaken r by_lock
AreTaken-end r well by_lock are = record {
  len = are.len;
  lanes = λ l v at.
      let old = are.lanes l v at in
      record {
        sound = λ i d lt. let lane = old.sound i d lt in record {
          rising = lane.rising;
          members = λ a. (λ m. ((lane.members a).0 m).0, λ taken. (lane.members a).1 (taken, all_passed l a (get_or v.items i d).thread taken));
          named = old.named i d lt;
        };
        complete = λ a u taken. old.complete a u taken (all_passed l a u taken);
      };
}
  where
    all_passed : (l a u : ℕ) → IsTaken r.events l u a → IsPassed r.events (length r.threads) 0 a
    all_passed l a u taken = record { thread = u; of = taken.1; passed = inl (thread_named r well a u taken.1) }

pub empty_list : (xs : List ℕ) → length xs ≡ 0 → xs ≡ []
empty_list [] none = refl
empty_list (x ∷ xs) none = absurd (omega (arith, none))

-- what is known of a lane that was read
module _
    (T : List Event) (width l t k : ℕ) (lanes : List Lane) (are : AreLanesUpTo T width l t k lanes) (n : ℕ) (low : n < length lanes) (own : IsOneOf lanes n t)
    (lane : Lane) (at : lane ≡ get_or lanes n lane) (xs : List ℕ) (is : xs ≡ lane.events.items) where
  lane_known : IsLaneUpTo T l t k lane
  lane_known = subst (IsLaneUpTo T l t k) (sym at) (are.sound n lane low)

  lane_own : lane.thread ≡ t
  lane_own = ap (λ (x : Lane). x.thread) at ∙ own lane

  pub rising_read : AllPairs (λ x y. x < y) xs
  rising_read = subst (AllPairs (λ x y. x < y)) (sym is) lane_known.rising

  pub members_read : (e : ℕ) → Contains xs e ↔ (IsTaken T l t e × IsPassed T t k e)
  members_read e = (
    λ m.
        let h = (lane_known.members e).0 (subst (λ (ys : List ℕ). Contains ys e) is m) in
        (subst (λ (u : ℕ). IsTaken T l u e) lane_own h.0, h.1),
    λ h.
        subst (λ (ys : List ℕ). Contains ys e) (sym is)
        ((lane_known.members e).1 (subst (λ (u : ℕ). IsTaken T l u e) (sym lane_own) h.0, h.1)),
  )
