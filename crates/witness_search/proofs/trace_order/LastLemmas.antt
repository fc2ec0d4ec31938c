-- The last acquires of a lock that a row counts, and the ends of the sections before them.
use Rattle.std.proofs.Common.{◌≡◌, ◌≢◌, ℕ, ◌-◌, ◌<◌, ◌≤◌, true, false, leb, Vec, Global, List, [], ◌∷◌, length, take, get_or, Option, Some, None, IfSome, AllPairs, Contains, refl, sym, ap, ◌∙◌, subst, arith, inl, inr, true≢false}
use Rattle.std.specs.List.{slice_get}
use Rattle.std.specs.List.Sorted.{IsPartitionPoint, IsPartitionedBy, IsNonDecreasingBy}
use Rattle.std.proofs.lemmas.Bool.{cases_eq, cases_lt, le-leb, leb-true}
use Rattle.std.proofs.lemmas.List.{get_or_default}
use Rattle.std.proofs.lemmas.List.Elements.{Contains-get_or}
use Rattle.std.proofs.lemmas.List.Sorted.{IsPartitionedBy-leb}
use Rattle.std.proofs.lemmas.Option.{same_Some, none-some, slice_get-get_or}
use Rattle.rapid_text.specs.Recording.{Recording, IsWellFormed, IsNamedOp}
use Rattle.rapid_text.specs.declared.event.Event.{Event}
use Rattle.rapid_text.specs.declared.event.Op.TheVariants.{Acquire}
use Rattle.trace_rules.specs.Rules.{IsDisciplined, hold_count}
use Rattle.event_index.specs.Events.{op_at, thread_at}
use Rattle.event_index.specs.Lookups.{events_of, section_end}
use Rattle.event_index.proofs.CallerLemmas.{one_thread, op_event, place_of-events_of, thread_here, thread_within}
use Rattle.shb_clocks.proofs.PlaceLemmas.{le-from_place_of}
use Rattle.must_order.specs.Layout.{IsCounted}
use Rattle.must_order.proofs.OrderLemmas.{section-closed}
use Rattle.must_order.proofs.ReadLemmas.{event_named}
use Rattle.must_order.proofs.SectionLemmas.{section-open, section_end-is}
use Rattle.must_order.proofs.TimelineLemmas.{IsOuter, IsHeldSince, is_outer-from, IsOuter-test, held_since, section-since}
use Rattle.witness_search.specs.trace_order.Acquires.{IsOneOf, IsTaken, IsLane, AreLanes, AreTaken, AreShared}
use Rattle.witness_search.specs.trace_order.Joining.{IsEndOf, IsLastUpTo, IsLastCounted, IsCountedTaken, IsUpToLatest, AreEnded, IsDue, IsClosedOn}
use Rattle.witness_search.specs.declared.trace_order.acquires.Lane.{Lane}
use Rattle.witness_search.specs.declared.trace_order.lasting.Latest.{Latest}
use Rattle.witness_search.proofs.trace_order.ClosingLemmas.{counted_thread}

-- the last of rising numbers up to a bound, by how many are up to it
module _ (xs : List ℕ) (rising : AllPairs (λ x y. x < y) xs) (end : ℕ) where
  rises : IsNonDecreasingBy (λ x. x) xs
  rises i j d le lt =
      elim (cases_lt i j) [
        | inl early ↦ let below : get_or xs i d < get_or xs j d = rising i j d early lt in omega arith
        | inr late ↦
            let is : i ≡ j = omega arith in
            let one : get_or xs i d ≡ get_or xs j d = ap (λ k. get_or xs k d) is in
            omega arith
      ]

  pub parted_up_to : IsPartitionedBy (λ y. leb y end) xs
  parted_up_to = IsPartitionedBy-leb (λ x. x) xs end rises

  module _ (count : ℕ) (short : count ≤ length xs) (point : IsPartitionPoint (λ y. leb y end ≡ true) (λ y. leb y end ≡ false) xs count) where
    place : (q : ℕ) → Contains xs q → q ≤ end → (k : ℕ) × (k < count) × (k < length xs) × (get_or xs k 0 ≡ q)
    place q it low =
        let here : get_or xs it.0 0 ≡ q = get_or_default xs it.0 0 q it.1 ∙ it.2 in
        elim (cases_lt it.0 count) [
          | inl lt ↦ (it.0, lt, it.1, here)
          | inr ge ↦ absurd (true≢false (sym (le-leb q end low) ∙ ap (λ x. leb x end) (sym here) ∙ point.1 it.0 0 ge it.1))
        ]

    pub none_up_to : count ≡ 0 → (q : ℕ) → Contains xs q → end < q
    none_up_to none q it =
        elim (cases_lt end q) [
          | inl late ↦ late
          | inr low ↦ absurd (let at = place q it low in omega (arith, at.1))
        ]

    pub last_of : (count ≡ 0 → ⊥) → IsLastUpTo xs end (get_or xs (count - 1) 0)
    last_of some = record {
      member = Contains-get_or xs (count - 1) 0 (omega (arith, some, short));
      low = leb-true (get_or xs (count - 1) 0) end (point.0 (count - 1) 0 (omega (arith, some)) (omega (arith, some, short)));
      last = λ q it low.
          let at = place q it low in
          let le : get_or xs at.0 0 ≤ get_or xs (count - 1) 0 = rises at.0 (count - 1) 0 (omega (arith, at.1)) (omega (arith, some, short)) in
          omega (arith, le, at.3);
    }

-- the last event of a thread that a row counts
module _ (T : List Event) (row : ℕ → ℕ) (t n : ℕ) (is : n ≡ row t) where
  pub none_of : n ≡ 0 → (a : ℕ) → thread_at T a ≡ Some t → ¬ IsCounted T row a
  none_of none a of counted = let one = one_thread T a counted.0 t counted.1 of in omega (arith, counted.2, ap row one, is, none)

  pub end_read : (n ≡ 0 → ⊥) → n ≤ length (events_of T t) → (xs : List ℕ) → xs ≡ events_of T t → IsEndOf T row t (get_or xs (n - 1) 0)
  end_read some fits xs are =
      let low : n - 1 < length (events_of T t) = omega (arith, some, fits) in
      let e : ℕ = get_or (events_of T t) (n - 1) 0 in
      let at = place_of-events_of T t (n - 1) e (slice_get-get_or (events_of T t) (n - 1) 0 low) in
      subst (λ (ys : List ℕ). IsEndOf T row t (get_or ys (n - 1) 0)) (sym are)
      (record {
        of = at.1;
        counted = (t, at.1, omega (arith, at.2, is, some));
        last = λ a of counted.
            let one = one_thread T a counted.0 t counted.1 of in
            le-from_place_of T a e t of at.1 (omega (arith, counted.2, ap row one, is, at.2));
      })

-- of a lane the last acquire that the row counts
module _ (r : Recording) (row : ℕ → ℕ) (l : ℕ) (lane : Lane) (is : IsLane r l lane) where
  abbrev T : List Event
  T = r.events

  abbrev xs : List ℕ
  xs = lane.events.items

  module _ (end : ℕ) (ends : IsEndOf T row lane.thread end) where
    pub last_counted : (p : ℕ) → IsLastUpTo xs end p → IsLastCounted T row xs p
    last_counted p last = record {
      member = last.member;
      counted = counted_thread T row p end lane.thread ((is.members p).0 last.member).1 ends.of last.low ends.counted;
      last = λ q it counted. last.last q it (ends.last q ((is.members q).0 it).1 counted);
    }

    pub none_counted : ((q : ℕ) → Contains xs q → end < q) → (q : ℕ) → Contains xs q → ¬ IsCounted T row q
    none_counted late q it counted = omega (arith, late q it, ends.last q ((is.members q).0 it).1 counted)

  pub member_within : (p : ℕ) → Contains xs p → p < length T
  member_within p it = thread_within T p lane.thread ((is.members p).0 it).1

  module _ (rules : IsDisciplined T) where
    -- a section ends before the next begins
    ended_before : (p q k : ℕ) → Contains xs p → Contains xs q → p < q → section_end T p ≡ Some k → k < q
    ended_before p q k has also early ends =
        let first = (is.members p).0 has in
        let second = (is.members q).0 also in
        let one = IsOuter-test T p l first.0 in
        let two = IsOuter-test T q l second.0 in
        let same_thread : one.0 ≡ two.0 = one_thread T p one.0 lane.thread one.1.of first.1 ∙ sym (one_thread T q two.0 lane.thread two.1.of second.1) in
        elim (cases_lt k q) [
          | inl lt ↦ lt
          | inr late ↦
              let opened : 0 < hold_count (take q T) one.0 l =
              section-open T rules p l one.0 q one.1.acquires one.1.of
              (λ j is_end. let same_end : k ≡ j = same_Some k j (sym ends ∙ is_end) in omega (arith, same_end, late)) early
              (let within = member_within q also in omega (arith, within)) in
              let free : hold_count (take q T) one.0 l ≡ 0 = ap (λ u. hold_count (take q T) u l) same_thread ∙ two.1.free in
              absurd (omega (arith, opened, free))
        ]

    -- all sections are ended where the last is
    pub are_ended : (p : ℕ) → IsLastCounted T row xs p → ((k : ℕ) → section_end T p ≡ Some k → IsCounted T row k) → AreEnded T row xs
    are_ended p last ended q k has counted ends =
        let le = last.last q has counted in
        elim (cases_eq q p) [
          | inl one ↦ ended k (ap (section_end T) (sym one) ∙ ends)
          | inr other ↦
              let lt = ended_before q p k has last.member (omega (arith, le, other)) ends in
              let taken = (is.members q).0 has in
              let outer = IsOuter-test T q l taken.0 in
              let end = section_end-is T q l outer.0 k outer.1.acquires outer.1.of ends in
              let of_k : thread_at T k ≡ Some lane.thread = end.2 ∙ sym outer.1.of ∙ taken.1 in
              counted_thread T row k p lane.thread of_k ((is.members p).0 last.member).1 (omega (arith, lt)) last.counted
        ]

  pub none_ended : ((q : ℕ) → Contains xs q → ¬ IsCounted T row q) → AreEnded T row xs
  none_ended none q k has counted ends = absurd (none q has counted)

  -- the end of the last section is due, where a later acquire is counted
  pub is_due : (m : Latest) → IsCountedTaken T row l m → IsUpToLatest T row (Some m) xs → lane.thread ≢ m.thread → (p : ℕ) → IsLastCounted T row xs p
      → (k : ℕ) → section_end T p ≡ Some k → ¬ IsCounted T row k → IsDue T row k
  is_due m latest up_to other p last k ends missing =
      let found = up_to p last.member last.counted in
      let low : p ≤ m.event = (let same_one : m ≡ found.0 = same_Some m found.0 found.1 in omega (arith, found.2, ap (λ (x : Latest). x.event) same_one)) in
      let taken = (is.members p).0 last.member in
      let apart : p ≢ m.event = λ one. other (one_thread T p lane.thread m.thread taken.1 (ap (thread_at T) one ∙ latest.taken.1)) in
      record {
        first = p;
        second = m.event;
        ends = record {
          lock = l;
          owner = lane.thread;
          thread = m.thread;
          earlier = omega (arith, low, apart);
          first = (IsOuter-test T p l taken.0).1.acquires;
          second = (IsOuter-test T m.event l latest.taken.0).1.acquires;
          of_owner = taken.1;
          of_thread = latest.taken.1;
          other = other;
          ends = ends;
        };
        has = last.counted;
        also = latest.counted;
        missing = missing;
      }

-- an event that holds or takes a lock: since when
module _ (T : List Event) (rules : IsDisciplined T) (l u t p r e : ℕ) (other : u ≢ t)
    (first : op_at T p ≡ Some (Acquire l)) (of_p : thread_at T p ≡ Some u) (ends : section_end T p ≡ Some r)
    (second : op_at T e ≡ Some (Acquire l)) (of_e : thread_at T e ≡ Some t) (early : p < e) where
  -- a section that began before another thread's has ended before
  end_before : (f : ℕ) → IsOuter T f l t → p < f → r < f
  end_before f outer lt =
      elim (cases_lt r f) [
        | inl yes_before ↦ yes_before
        | inr late ↦
            absurd (section-closed T rules p f l u t first of_p outer.of other (inr outer.acquires) lt
            (λ k is_end. let same_end : r ≡ k = same_Some r k (sym ends ∙ is_end) in omega (arith, same_end, late)))
      ]

  -- the beginning of the section of e comes after the end of that of p
  pub begun_after : (f : ℕ) × IsOuter T f l t × (f ≤ e) × (r < f)
  begun_after =
      elim (cases_lt 0 (hold_count (take e T) t l)) [
        | inr none ↦
            let outer : IsOuter T e l t = record { acquires = second; of = of_e; free = omega (arith, none) } in
            (e, outer, omega arith, end_before e outer early)
        | inl holds ↦
            let since = held_since T rules e t l (omega (arith, thread_within T e t of_e)) holds in
            let f : ℕ = since.0 in
            let outer = since.1.outer in
            let after_p : p < f =
            elim (cases_lt p f) [
              | inl lt ↦ lt
              | inr ge ↦
                  let apart : f ≢ p = λ one. other (one_thread T p u t of_p (ap (thread_at T) (sym one) ∙ outer.of)) in
                  let held : 0 < hold_count (take p T) t l = since.1.held p (omega (arith, ge, apart)) (omega (arith, early)) in
                  let v = op_event T p (Acquire l) first in
                  let mine : v.0.thread ≡ u = one_thread T p v.0.thread u (thread_here T p v.0 v.1) of_p in
                  let free : hold_count (take p T) t l ≡ 0 = rules.acquires_free p l t v.0 v.1 v.2 (λ same_thread. other (sym (same_thread ∙ mine))) in
                  absurd (omega (arith, held, free))
            ] in
            (f, outer, omega (arith, since.1.early), end_before f outer after_p)
      ]

  -- the beginning of the section of p
  pub begun_at : (o : ℕ) × IsHeldSince T r u l o × (o ≤ p)
  begun_at =
      let end = section_end-is T p l u r first of_p ends in
      let late : (j : ℕ) → j ≤ r → (k : ℕ) → section_end T p ≡ Some k → j ≤ k = λ j le k is_end. let one : k ≡ r = same_Some k r
      (sym is_end ∙ ends) in omega (arith, one, le) in
      let opened : 0 < hold_count (take r T) u l = section-open T rules p l u r first of_p (late r (omega arith)) end.0 (omega (arith, end.1)) in
      let since = held_since T rules r u l (omega (arith, end.1)) opened in (
        since.0,
        since.1,
        elim (cases_lt p since.0) [
          | inr le ↦ le
          | inl lt ↦
              let held : 0 < hold_count (take since.0 T) u l =
              section-open T rules p l u since.0 first of_p (late since.0 (omega (arith, since.1.early))) lt (omega (arith, since.1.early, end.1)) in
              absurd (omega (arith, held, since.1.outer.free))
        ],
      )

-- a list with a place has an element
pub an_element : {X : Type 0} (elements : List X) (i : ℕ) → i < length elements → X
an_element [] i lt = absurd (omega arith)
an_element (x ∷ rest) i lt = x

-- a lane that was read
pub lane_read : (lanes : List Lane) (at i : ℕ) (lane d : Lane) → at < length lanes → i ≡ at → lane ≡ get_or lanes at lane → lane ≡ get_or lanes i d
lane_read lanes at i lane d low one read = read ∙ get_or_default lanes at lane d low ∙ ap (λ k. get_or lanes k d) (sym one)

-- events of two threads are two
two_events : (T : List Event) (o m u w : ℕ) → thread_at T o ≡ Some u → thread_at T m ≡ Some w → u ≢ w → o ≢ m
two_events T o m u w of also apart one = apart (one_thread T o u w of (ap (thread_at T) one ∙ also))

same_some : (o : Option ℕ) (w u : ℕ) → o ≡ Some w → u ≡ w → o ≡ Some u
same_some o w u is one = is ∙ ap Some (sym one)

same_event : (o : Option Latest) (m n : Latest) → o ≡ Some m → o ≡ Some n → m.event ≡ n.event
same_event o m n is also = ap (λ (x : Latest). x.event) (same_Some m n (sym is ∙ also))

-- what is known of the latest acquire when a lane is looked at
module _ (T : List Event) (row : ℕ → ℕ) (xs : List ℕ) where
  pub up_to_last : (m : Latest) (p : ℕ) → IsLastCounted T row xs p → p ≤ m.event → IsUpToLatest T row (Some m) xs
  up_to_last m p last le q it counted = (m, refl, omega (arith, last.last q it counted, le))

  pub up_to_none : (o : Option Latest) → ((q : ℕ) → Contains xs q → ¬ IsCounted T row q) → IsUpToLatest T row o xs
  up_to_none o none q it counted = absurd (none q it counted)

  pub up_to_grows : (o n : Option Latest) → IfSome o (λ x. IfSome n (λ y. x.event ≤ y.event)) → (n ≡ None → o ≡ None) → IsUpToLatest T row o xs
      → IsUpToLatest T row n xs
  up_to_grows None n grows stays up_to q it counted = let old = up_to q it counted in absurd (none-some old.0 old.1)
  up_to_grows (Some m) None grows stays up_to q it counted = absurd (none-some m (sym (stays refl)))
  up_to_grows (Some m) (Some n) grows stays up_to q it counted =
      let old = up_to q it counted in
      (n, refl, omega (arith, old.2, grows, same_event (Some m) m old.0 refl old.1))

-- where the lanes of other threads than the latest acquire's are ended, the lock's sections are
module _
    (r : Recording) (rules : IsDisciplined r.events) (row : ℕ → ℕ) (l : ℕ) (lanes : List Lane) (are : AreLanes r l lanes) (latest : Option Latest)
    (last : (i : ℕ) (d : Lane) → i < length lanes → IsUpToLatest r.events row latest (get_or lanes i d).events.items) where
  -- a counted event that took the lock lies in a lane, and is not later than the latest
  in_lane : (f u : ℕ) → IsOuter r.events f l u → IsCounted r.events row f
      → (d : Lane) × (i : ℕ) × (i < length lanes) × ((get_or lanes i d).thread ≡ u) × Contains
      (get_or lanes i d).events.items f × (m : Latest) × (latest ≡ Some m) × (f ≤ m.event)
  in_lane f u outer counted =
      let taken : IsTaken r.events l u f = (is_outer-from r.events f l u outer, outer.of) in
      let found = are.complete f u taken in
      let d : Lane = an_element lanes found.0 found.1 in
      let mine : (get_or lanes found.0 d).thread ≡ u = found.2 d in
      let it : Contains (get_or lanes found.0 d).events.items f =
      ((are.sound found.0 d found.1).members f).1 (subst (λ (w : ℕ). IsTaken r.events l w f) (sym mine) taken) in
      let up_to = last found.0 d found.1 f it counted in
      (d, found.0, found.1, mine, it, up_to.0, up_to.1, up_to.2)

  -- the end of the section that began at o is counted, and is not before k
  from_end : (x : Option ℕ) (o k u : ℕ) (m : Latest) → section_end r.events o ≡ x → IsHeldSince r.events k u l o → IsCountedTaken r.events row l m
      → o < m.event → u ≢ m.thread
      → thread_at r.events k ≡ Some u → ((j : ℕ) → section_end r.events o ≡ Some j → IsCounted r.events row j) → IsCounted r.events row k
  from_end None o k u m none since taken low apart of_k ended =
      absurd (section-closed r.events rules o m.event l u m.thread since.outer.acquires since.outer.of taken.taken.1 apart
      (inr (IsOuter-test r.events m.event l taken.taken.0).1.acquires) low (λ j is_end. absurd (none-some j (sym none ∙ is_end))))
  from_end (Some j) o k u m is since taken low apart of_k ended =
      counted_thread r.events row k j u of_k (section_end-is r.events o l u j since.outer.acquires since.outer.of is).2
      (section-since r.events rules k u l o since j is) (ended j is)

  pub closed_on :
      IfSome latest (IsCountedTaken r.events row l)
      → ((m : Latest) → latest ≡ Some m → (i : ℕ) (d : Lane) → i < length lanes → (get_or lanes i d).thread ≢ m.thread → AreEnded r.events row
      (get_or lanes i d).events.items)
      → IsClosedOn r.events row l
  closed_on counted ended p k e s same_lock has also =
      let T : List Event = r.events in
      let u : ℕ = s.owner in
      let t : ℕ = s.thread in
      let first : op_at T p ≡ Some (Acquire l) = s.first ∙ ap (λ j. Some (Acquire j)) same_lock in
      let second : op_at T e ≡ Some (Acquire l) = s.second ∙ ap (λ j. Some (Acquire j)) same_lock in
      let from = begun_at T rules l u t p k e s.other first s.of_owner s.ends second s.of_thread s.earlier in
      let next = begun_after T rules l u t p k e s.other first s.of_owner s.ends second s.of_thread s.earlier in
      let o : ℕ = from.0 in
      let f : ℕ = next.0 in
      let o_lane = in_lane o u from.1.outer (counted_thread T row o p u from.1.outer.of s.of_owner from.2 has) in
      let f_lane = in_lane f t next.1 (counted_thread T row f e t next.1.of s.of_thread next.2 also) in
      let m : Latest = o_lane.5 in
      let known : latest ≡ Some m = o_lane.6 in
      let same_latest : m.event ≡ f_lane.5.event = same_event latest m f_lane.5 known f_lane.6 in
      let taken : IsCountedTaken T row l m = subst (λ (x : Option Latest). IfSome x (IsCountedTaken T row l)) known counted in
      let end = section_end-is T p l u k first s.of_owner s.ends in
      elim (cases_eq u m.thread) [
        | inl one ↦
            counted_thread T row k m.event u end.2 (same_some (thread_at T m.event) m.thread u taken.taken.1 one)
            (omega (arith, next.3, f_lane.7, same_latest)) taken.counted
        | inr apart ↦
            let differ = two_events T o m.event u m.thread from.1.outer.of taken.taken.1 apart in
            let low : o < m.event = omega (arith, o_lane.7, differ) in
            let all = ended m known o_lane.1 o_lane.0 o_lane.2 (λ one. apart (sym o_lane.3 ∙ one)) in
            let has_o = counted_thread T row o p u from.1.outer.of s.of_owner from.2 has in
            from_end (section_end T o) o k u m refl from.1 taken low apart end.2 (λ j is_end. all o j o_lane.4 has_o is_end)
      ]

-- where the sections of the shared locks are closed all are: between two threads a lock is shared
module _
    (r : Recording) (rules : IsDisciplined r.events) (well : IsWellFormed r) (by_lock : List (Vec Lane Global)) (shared : List ℕ)
    (taken : AreTaken r by_lock) (are : AreShared by_lock shared) (row : ℕ → ℕ)
    (all : (i : ℕ) → i < length shared → IsClosedOn r.events row (get_or shared i 0)) where
  lock_named : (p l : ℕ) → op_at r.events p ≡ Some (Acquire l) → l < length by_lock
  lock_named p l op =
      let v = op_event r.events p (Acquire l) op in
      let named : IsNamedOp r (Acquire l) = subst (IsNamedOp r) v.2 (event_named r well p v.0 v.1).1 in
      omega (arith, named, taken.len)

  -- lanes of two threads are two
  two_lanes : (lanes : List Lane) (i j u t : ℕ) → i < length lanes → j < length lanes → IsOneOf lanes i u → IsOneOf lanes j t → u ≢ t → 1 < length lanes
  two_lanes lanes i j u t low also one two apart =
      elim (cases_lt 1 (length lanes)) [
        | inl several ↦ several
        | inr few ↦
            let d : Lane = an_element lanes i low in
            let same_place : i ≡ j = omega (arith, low, also, few) in
            absurd (apart (sym (one d) ∙ ap (λ k. (get_or lanes k d).thread) same_place ∙ two d))
      ]

  pub closed_shared : (l : ℕ) → IsClosedOn r.events row l
  closed_shared l p k e s same_lock has also =
      let T : List Event = r.events in
      let first : op_at T p ≡ Some (Acquire l) = s.first ∙ ap (λ j. Some (Acquire j)) same_lock in
      let second : op_at T e ≡ Some (Acquire l) = s.second ∙ ap (λ j. Some (Acquire j)) same_lock in
      let from = begun_at T rules l s.owner s.thread p k e s.other first s.of_owner s.ends second s.of_thread s.earlier in
      let next = begun_after T rules l s.owner s.thread p k e s.other first s.of_owner s.ends second s.of_thread s.earlier in
      let low = lock_named p l first in
      let v : Vec Lane Global = an_element by_lock l low in
      let w : Vec Lane Global = get_or by_lock l v in
      let at : slice_get by_lock l ≡ Some w = slice_get-get_or by_lock l v low in
      let lanes = taken.lanes l w at in
      let one = lanes.complete from.0 s.owner (is_outer-from T from.0 l s.owner from.1.outer, from.1.outer.of) in
      let two = lanes.complete next.0 s.thread (is_outer-from T next.0 l s.thread next.1, next.1.of) in
      let it = are.all l w at (two_lanes w.items one.0 two.0 s.owner s.thread one.1 two.1 one.2 two.2 s.other) in
      let here : get_or shared it.0 0 ≡ l = get_or_default shared it.0 0 l it.1 ∙ it.2 in
      all it.0 it.1 p k e s (same_lock ∙ sym here) has also
