-- A row of counts on its way to what is needed: events are visited one by one, and what they ask for is counted.
use Rattle.std.proofs.Common.{◌≡◌, ◌≢◌, ℕ, ◌+◌, ◌<◌, ◌≤◌, ◌⊎◌, true, List, length, take, Option, Some, None, refl, sym, ap, ◌∙◌, subst, arith, inl, inr}
use Rattle.std.proofs.lemmas.Bool.{cases_eq, cases_lt}
use Rattle.std.proofs.lemmas.Option.{same_Some, none-some}
use Rattle.rapid_text.specs.declared.event.Event.{Event}
use Rattle.rapid_text.specs.declared.event.Op.{Op}
use Rattle.rapid_text.specs.declared.event.Op.TheVariants.{Read, Acquire, Join}
use Rattle.trace_rules.specs.Rules.{IsDisciplined, hold_count}
use Rattle.event_index.specs.Events.{op_at, thread_at}
use Rattle.event_index.specs.Lookups.{events_of, place_of, section_end}
use Rattle.event_index.proofs.CallerLemmas.{last_writer-some, one_thread, fork_of-op, thread_within, thread_here, op_event}
use Rattle.shb_clocks.proofs.CallerLemmas.{end_of_thread-event, end_of_thread-fork}
use Rattle.shb_clocks.proofs.PlaceLemmas.{place_of-le_from, place_of-later, le-from_place_of}
use Rattle.must_order.specs.Layout.{IsCounted}
use Rattle.must_order.specs.MustBefore.{Link, by_base, by_writer, by_join, from_fork_to_join}
use Rattle.must_order.specs.Sections.{is_outer}
use Rattle.must_order.proofs.BegunLemmas.{Link-source}
use Rattle.must_order.proofs.ExactLemmas.{source_of-op}
use Rattle.must_order.proofs.OrderLemmas.{section-closed}
use Rattle.must_order.proofs.SectionLemmas.{section-open, section_end-is}
use Rattle.must_order.proofs.TimelineLemmas.{IsOuter, is_outer-from, IsOuter-test, held_since, section-since}
use Rattle.witness_search.specs.trace_order.InOrder.{EndsBetween, IsNeeded, started, linked, closed}
use Rattle.witness_search.specs.trace_order.Layout.{IsEither, IsNeededRow, Takes, IsStep, begun, later, inner, earlier, IsSought, IsVisit}
use Rattle.witness_search.proofs.trace_order.ClosedLemmas.{closed_thread, base_fork}
use Rattle.witness_search.proofs.trace_order.NeededLemmas.{IsClosedIn-needed, needed_in}

-- the section of p ends with an event that the row counts
abbrev pub IsEnded : List Event → (ℕ → ℕ) → ℕ → Type 0
IsEnded T row p = (r : ℕ) × (section_end T p ≡ Some r) × IsCounted T row r

-- p is the last acquire, or before it, and ended
abbrev pub IsSettled : List Event → (ℕ → ℕ) → Option ℕ → ℕ → Type 0
IsSettled T row last p = (m : ℕ) × (last ≡ Some m) × ((p ≡ m) ⊎ ((p < m) × IsEnded T row p))

-- the row counts the start, and what is needed alone; with each visited event what it asks for but for locks; of the
-- visited acquires of a lock that found it free all but the last are ended
pub record IsClosing (T : List Event) (start : ℕ → Type 0) (row visited : ℕ → ℕ) (latest : ℕ → Option ℕ) : Type 0 where
  pub sound : (a : ℕ) → IsCounted T row a → IsNeeded T start a
  pub starts : (c : ℕ) → start c → IsCounted T row c
  pub within : (t : ℕ) → row t ≤ length (events_of T t)
  pub le : (t : ℕ) → visited t ≤ row t
  pub links : (d e : ℕ) → IsCounted T visited e → IsSought T e d → IsCounted T row d
  pub acquires : (l m : ℕ) → latest l ≡ Some m → (op_at T m ≡ Some (Acquire l)) × IsCounted T visited m
  pub settled : (l p : ℕ) → is_outer T l p ≡ true → IsCounted T visited p → IsSettled T row (latest l) p

pub counted-grows : (T : List Event) (row new : ℕ → ℕ) → ((t : ℕ) → row t ≤ new t) → (a : ℕ) → IsCounted T row a → IsCounted T new a
counted-grows T row new le a (t, of, lt) = (t, of, omega (arith, lt, le t))

counted_here : (T : List Event) (row : ℕ → ℕ) (a t : ℕ) → thread_at T a ≡ Some t → IsCounted T row a → place_of T a < row t
counted_here T row a t of (u, also, lt) = subst (λ (w : ℕ). place_of T a < row w) (one_thread T a u t also of) lt

pub counted_thread : (T : List Event) (row : ℕ → ℕ) (a e t : ℕ) → thread_at T a ≡ Some t → thread_at T e ≡ Some t → a ≤ e → IsCounted T row e → IsCounted T row a
counted_thread T row a e t of also le counted =
    (t, of, omega (arith, counted_here T row e t also counted, place_of-le_from T a e t of also le))

settled-grows : (T : List Event) (row new : ℕ → ℕ) → ((t : ℕ) → row t ≤ new t) → (last : Option ℕ) (p : ℕ) → IsSettled T row last p → IsSettled T new last p
settled-grows T row new le last p (m, is, either) = (
  m,
  is,
  elim either [
    | inl here ↦ inl here
    | inr ended ↦ inr (ended.0, (ended.1.0, ended.1.1, counted-grows T row new le ended.1.0 ended.1.2))
  ],
)

-- a row that takes in what is needed
pub IsClosing-takes :
    (T : List Event) → IsDisciplined T → (start : ℕ → Type 0) (row new visited : ℕ → ℕ) (latest : ℕ → Option ℕ) (these : ℕ → Type 0)
    → IsClosing T start row visited latest → Takes T these row new → ((d : ℕ) → these d → IsNeeded T start d) → IsClosing T start new visited latest
IsClosing-takes T rules start row new visited latest these is takes needs = record {
  sound = λ a counted. elim (takes.sound a counted) [
    | inl old ↦ is.sound a old
    | inr up ↦ closed_thread T rules (IsNeeded T start) (IsClosedIn-needed T start) a up.0 up.2 up.3 up.4 up.5 (needs up.0 up.1)
  ];
  starts = λ c from. counted-grows T row new takes.grows c (is.starts c from);
  within = takes.within is.within;
  le = λ t. omega (arith, is.le t, takes.grows t);
  links = λ d e seen asks. counted-grows T row new takes.grows d (is.links d e seen asks);
  acquires = is.acquires;
  settled = λ l p outer seen. settled-grows T row new takes.grows (latest l) p (is.settled l p outer seen);
}

-- the lock of an acquire
locked : Option Op → ℕ
locked (Some (Acquire l)) = l
locked o = 0

one_lock : (o : Option Op) (l k : ℕ) → o ≡ Some (Acquire l) → o ≡ Some (Acquire k) → l ≡ k
unfolding locked
one_lock o l k is also = ap locked (sym is ∙ also)

-- event e of thread t is the next to be visited
module _
    (T : List Event) (rules : IsDisciplined T) (start : ℕ → Type 0) (row visited : ℕ → ℕ) (latest : ℕ → Option ℕ) (is : IsClosing T start row visited latest)
    (e t : ℕ) (of : thread_at T e ≡ Some t) (next : place_of T e ≡ visited t) (behind : visited t < row t) where
  e_counted : IsCounted T row e
  e_counted = (t, of, omega (arith, next, behind))

  not_visited : IsCounted T visited e → ⊥
  not_visited seen = omega (arith, counted_here T visited e t of seen, next)

  -- what it asks for but for locks is needed
  pub sought_needed : (d : ℕ) → IsSought T e d → IsNeeded T start d
  sought_needed d (inl base) = linked d e (is.sound e e_counted) (by_base base)
  sought_needed d (inr source) = linked d e (is.sound e e_counted) (Link-source T e d source)

  module _ (l : ℕ) (takes : op_at T e ≡ Some (Acquire l)) where
    -- the last acquire that was visited is another event
    last_other : (m : ℕ) → latest l ≡ Some m → e ≢ m
    last_other m last one = not_visited (subst (IsCounted T visited) (sym one) (is.acquires l m last).1)

    -- and none of the thread's later ones
    last_thread : (m u : ℕ) → latest l ≡ Some m → thread_at T m ≡ Some u → e < m → t ≢ u
    last_thread m u last of_m early one =
        let also : thread_at T m ≡ Some t = of_m ∙ ap Some (sym one) in
        omega (arith, counted_here T visited m t also (is.acquires l m last).1, next, place_of-later T e m t of also early)

    pub owed_needed : (owed : Option ℕ) (after : ℕ) → IsStep T e (latest l) owed after → (d : ℕ) → owed ≡ Some d → IsNeeded T start d
    owed_needed owed after (begun last none now) d owes = absurd (none-some d (sym none ∙ owes))
    owed_needed owed after (inner m last le late none now) d owes = absurd (none-some d (sym none ∙ owes))
    owed_needed owed after (later m r last le ends early due now) d owes =
        let known = is.acquires l m last in
        let u : ℕ = known.1.0 in
        let of_m : thread_at T m ≡ Some u = known.1.1 in
        let end = section_end-is T m l u r known.0 of_m ends in
        let need : IsNeeded T start e = is.sound e e_counted in
        subst (IsNeeded T start) (same_Some r d (sym due ∙ owes))
        (elim (cases_eq u t) [
          | inl one ↦ closed_thread T rules (IsNeeded T start) (IsClosedIn-needed T start) r e t (end.2 ∙ ap Some one) of (omega (arith, early)) need
          | inr other ↦
              closed m r e (is.sound m (counted-grows T visited row is.le m known.1)) need
              (record {
                lock = l;
                owner = u;
                thread = t;
                earlier = omega (arith, end.0, early);
                first = known.0;
                second = takes;
                of_owner = of_m;
                of_thread = of;
                other = other;
                ends = ends;
              })
        ])
    owed_needed owed after (earlier m last early due now) d owes =
        let known = is.acquires l m last in
        let u : ℕ = known.1.0 in
        closed e d m (is.sound e e_counted) (is.sound m (counted-grows T visited row is.le m known.1))
        (record {
          lock = l;
          owner = t;
          thread = u;
          earlier = early;
          first = takes;
          second = known.0;
          of_owner = of;
          of_thread = known.1.1;
          other = last_thread m u last known.1.1 early;
          ends = sym due ∙ owes;
        })

  -- one event more was visited
  module _ (seen : ℕ → ℕ) (more : seen t ≡ visited t + 1) (rest : (u : ℕ) → u ≢ t → seen u ≡ visited u) where
    seen_cases : (a : ℕ) → IsCounted T seen a → IsCounted T visited a ⊎ (a ≡ e)
    seen_cases a (u, also, lt) =
        elim (cases_eq u t) [
          | inr other ↦ inl (u, also, omega (arith, lt, rest u other))
          | inl one ↦
              let of_a : thread_at T a ≡ Some t = also ∙ ap Some one in
              let low : place_of T a < visited t + 1 = omega (arith, lt, ap seen one, more) in
              elim (cases_lt (place_of T a) (visited t)) [
                | inl early ↦ inl (t, of_a, early)
                | inr late ↦
                    let up : a ≤ e = le-from_place_of T a e t of_a of (omega (arith, low, next)) in
                    let down : e ≤ a = le-from_place_of T e a t of of_a (omega (arith, late, next)) in
                    inr (omega (arith, up, down))
              ]
        ]

    seen-grows : (u : ℕ) → visited u ≤ seen u
    seen-grows u =
        elim (cases_eq u t) [
          | inl one ↦ omega (arith, ap seen one, ap visited one, more)
          | inr other ↦ omega (arith, rest u other)
        ]

    seen-le : (u : ℕ) → seen u ≤ row u
    seen-le u =
        elim (cases_eq u t) [
          | inl one ↦ omega (arith, ap seen one, ap row one, more, behind)
          | inr other ↦ omega (arith, rest u other, is.le u)
        ]

    module _ (asked : (d : ℕ) → IsSought T e d → IsCounted T row d) where
      links_seen : (d a : ℕ) → IsCounted T seen a → IsSought T a d → IsCounted T row d
      links_seen d a counted asks =
          elim (seen_cases a counted) [
            | inl old ↦ is.links d a old asks
            | inr one ↦ asked d (subst (λ (k : ℕ). IsSought T k d) one asks)
          ]

      -- an event that acquires nothing
      pub IsClosing-other : ((l : ℕ) → op_at T e ≢ Some (Acquire l)) → IsClosing T start row seen latest
      IsClosing-other no_acquire = record {
        sound = is.sound;
        starts = is.starts;
        within = is.within;
        le = seen-le;
        links = links_seen;
        acquires = λ l m last. let known = is.acquires l m last in (known.0, counted-grows T visited seen seen-grows m known.1);
        settled = λ l p outer counted. elim (seen_cases p counted) [
          | inl old ↦ is.settled l p outer old
          | inr one ↦ absurd (no_acquire l (ap (op_at T) (sym one) ∙ (IsOuter-test T p l outer).1.acquires))
        ];
      }

      -- an acquire of a lock
      module _
          (l : ℕ) (takes : op_at T e ≡ Some (Acquire l)) (owed : Option ℕ) (after : ℕ) (step : IsStep T e (latest l) owed after)
          (paid : (d : ℕ) → owed ≡ Some d → IsCounted T row d) (now : ℕ → Option ℕ) (here : now l ≡ Some after) (others : (k : ℕ) → k ≢ l → now k ≡ latest k) where
        e_seen : IsCounted T seen e
        e_seen = (t, of, omega (arith, next, more))

        after_cases : IsStep T e (latest l) owed after → (after ≡ e) ⊎ (latest l ≡ Some after)
        after_cases (begun last none is_now) = inl is_now
        after_cases (later m r last le ends early due is_now) = inl is_now
        after_cases (inner m last le late none is_now) = inr (last ∙ ap Some (sym is_now))
        after_cases (earlier m last early due is_now) = inr (last ∙ ap Some (sym is_now))

        last_known : (op_at T after ≡ Some (Acquire l)) × IsCounted T seen after
        last_known =
            elim (after_cases step) [
              | inl one ↦ (ap (op_at T) one ∙ takes, subst (IsCounted T seen) (sym one) e_seen)
              | inr old ↦ let known = is.acquires l after old in (known.0, counted-grows T visited seen seen-grows after known.1)
            ]

        -- of the acquires that were visited before
        settled_old : IsStep T e (latest l) owed after → (p : ℕ) → IsSettled T row (latest l) p → IsSettled T row (Some after) p
        settled_old (begun last none is_now) p (m, known, either) = absurd (none-some m (sym last ∙ known))
        settled_old (inner m last le late none is_now) p old =
            subst (λ (o : Option ℕ). IsSettled T row o p) (last ∙ ap Some (sym is_now)) old
        settled_old (earlier m last early due is_now) p old =
            subst (λ (o : Option ℕ). IsSettled T row o p) (last ∙ ap Some (sym is_now)) old
        settled_old (later m r last le ends early due is_now) p (k, known, either) =
            let one : k ≡ m = same_Some k m (sym known ∙ last) in
            let low : m < e = omega (arith, le, (λ (same_one : m ≡ e). last_other l takes m last (sym same_one)), early) in (
              after,
              refl,
              inr (elim either [
                | inl at ↦ (omega (arith, at, one, low, is_now), (r, ap (section_end T) (at ∙ one) ∙ ends, paid r due))
                | inr ended ↦ (omega (arith, ended.0, one, low, is_now), ended.1)
              ]),
            )

        -- of this one
        settled_new : IsStep T e (latest l) owed after → IsOuter T e l t → IsSettled T row (Some after) e
        settled_new (begun last none is_now) outer = (after, refl, inl (sym is_now))
        settled_new (later m r last le ends early due is_now) outer = (after, refl, inl (sym is_now))
        settled_new (inner m last le late none is_now) outer =
            let known = is.acquires l m last in
            let u : ℕ = known.1.0 in
            let apart = last_other l takes m last in
            let low : m < e = elim (cases_lt m e) [ inl lt ↦ lt | inr ge ↦ absurd (apart (omega (arith, ge, le))) ] in
            elim (cases_eq u t) [
              | inl one ↦
                  let opened : 0 < hold_count (take e T) u l = section-open T rules m l u e known.0 known.1.1 late low (omega (arith, thread_within T e t of)) in
                  let free : hold_count (take e T) u l ≡ 0 = ap (λ w. hold_count (take e T) w l) one ∙ outer.free in
                  absurd (omega (arith, opened, free))
              | inr other ↦ absurd (section-closed T rules m e l u t known.0 known.1.1 of other (inr takes) low late)
            ]
        settled_new (earlier m last early due is_now) outer = end_of (section_end T e) refl
          where
            end_of : (o : Option ℕ) → section_end T e ≡ o → IsSettled T row (Some after) e
            end_of (Some r) ends = (after, refl, inr (omega (arith, early, is_now), (r, ends, paid r (due ∙ ends))))
            end_of None ends =
                let known = is.acquires l m last in
                let u : ℕ = known.1.0 in
                absurd
                (section-closed T rules e m l t u takes of known.1.1 (last_thread l takes m u last known.1.1 early) (inr known.0) early
                (λ r some. absurd (none-some r (sym ends ∙ some))))

        pub IsClosing-acquire : IsClosing T start row seen now
        IsClosing-acquire = record {
          sound = is.sound;
          starts = is.starts;
          within = is.within;
          le = seen-le;
          links = links_seen;
          acquires = λ k m last. elim (cases_eq k l) [
            | inl one ↦
                let same_one : after ≡ m = same_Some after m (sym here ∙ ap now (sym one) ∙ last) in (
                  subst (λ (j : ℕ). op_at T m ≡ Some (Acquire j)) (sym one) (subst (λ (j : ℕ). op_at T j ≡ Some (Acquire l)) same_one last_known.0),
                  subst (IsCounted T seen) same_one last_known.1,
                )
            | inr other ↦ let known = is.acquires k m (sym (others k other) ∙ last) in (known.0, counted-grows T visited seen seen-grows m known.1)
          ];
          settled = λ k p outer counted. elim (cases_eq k l) [
            | inl one ↦
                subst (λ (j : ℕ). IsSettled T row (now j) p) (sym one)
                (subst (λ (o : Option ℕ). IsSettled T row o p) (sym here)
                (elim (seen_cases p counted) [
                  | inl old ↦ settled_old step p (subst (λ (j : ℕ). IsSettled T row (latest j) p) one (is.settled k p outer old))
                  | inr same_one ↦
                      let outer_e : is_outer T l e ≡ true = subst (λ (j : ℕ). is_outer T j e ≡ true) one (subst (λ (j : ℕ). is_outer T k j ≡ true) same_one outer) in
                      let found = IsOuter-test T e l outer_e in
                      subst (IsSettled T row (Some after)) (sym same_one)
                      (settled_new step (subst (IsOuter T e l) (one_thread T e found.0 t found.1.of of) found.1))
                ]))
            | inr other ↦
                subst (λ (o : Option ℕ). IsSettled T row o p) (sym (others k other))
                (elim (seen_cases p counted) [
                  | inl old ↦ is.settled k p outer old
                  | inr same_one ↦
                      absurd (other (one_lock (op_at T e) k l (ap (op_at T) (sym same_one) ∙ (IsOuter-test T p k outer).1.acquires) takes))
                ])
          ];
        }

-- a visit
pub IsClosing-visit :
    (T : List Event) → IsDisciplined T → (start : ℕ → Type 0) → (row new visited seen : ℕ → ℕ) (latest now : ℕ → Option ℕ) → IsClosing T start row visited latest
    → (e t : ℕ) → thread_at T e ≡ Some t → place_of T e ≡ visited t → visited t < row t
    → seen t ≡ visited t + 1 → ((u : ℕ) → u ≢ t → seen u ≡ visited u) → IsVisit T e row new latest now → IsClosing T start new seen now
IsClosing-visit T rules start row new visited seen latest now is e t of next behind more rest visit =
    let middle : ℕ → ℕ = visit.middle in
    let half : IsClosing T start middle visited latest =
    IsClosing-takes T rules start row middle visited latest (IsSought T e) is visit.sought (sought_needed T rules start row visited latest is e t of next behind) in
    let still : visited t < middle t = omega (arith, behind, visit.sought.grows t) in
    elim visit.rest [
      | inl locks ↦
          let l : ℕ = locks.0 in
          let v = locks.2 in
          let whole : IsClosing T start new visited latest =
          IsClosing-takes T rules start middle new visited latest (λ d. v.owed ≡ Some d) half v.taken
          (owed_needed T rules start middle visited latest half e t of next still l locks.1 v.owed v.after v.step) in
          IsClosing-acquire T rules start new visited latest whole e t of next (omega (arith, still, v.taken.grows t)) seen more rest
          (λ d asks. counted-grows T middle new v.taken.grows d (visit.sought.has d asks)) l locks.1 v.owed v.after v.step v.taken.has now v.here v.others
      | inr free ↦
          let equal : (u : ℕ) → middle u ≤ new u = λ u. omega (arith, free.1 u) in
          let none : Takes T (λ d. ⊥) middle new = record {
            grows = equal;
            has = λ d no. absurd no;
            sound = λ a counted. inl (counted-grows T new middle (λ u. omega (arith, free.1 u)) a counted);
            within = λ low u. omega (arith, free.1 u, low u);
          } in
          let whole : IsClosing T start new visited latest = IsClosing-takes T rules start middle new visited latest (λ d. ⊥) half none (λ d no. absurd no) in
          let other = IsClosing-other T rules start new visited latest whole e t of next (omega (arith, still, equal t)) seen more rest
          (λ d asks. counted-grows T middle new equal d (visit.sought.has d asks)) free.0 in
          record {
            sound = other.sound;
            starts = other.starts;
            within = other.within;
            le = other.le;
            links = other.links;
            acquires = λ k m last. other.acquires k m (sym (free.2 k) ∙ last);
            settled = λ k p outer counted. subst (λ (o : Option ℕ). IsSettled T new o p) (sym (free.2 k)) (other.settled k p outer counted);
          }
    ]

-- before the first visit
pub IsClosing-start :
    (T : List Event) → IsDisciplined T → (first second : Option ℕ) (none middle row visited : ℕ → ℕ) (latest : ℕ → Option ℕ)
    → ((t : ℕ) → none t ≡ 0) → ((t : ℕ) → visited t ≡ 0) → ((l : ℕ) → latest l ≡ None)
    → Takes T (λ d. first ≡ Some d) none middle → Takes T (λ d. second ≡ Some d) middle row → IsClosing T (IsEither first second) row visited latest
IsClosing-start T rules first second none middle row visited latest zeros unseen no_last one two = record {
  sound = λ a counted. elim (two.sound a counted) [
    | inl old ↦ elim (one.sound a old) [
      | inl never ↦ absurd (omega (arith, never.2, zeros never.0))
      | inr up ↦ from_start a up.0 up.2 up.3 up.4 up.5 (inl up.1)
    ]
    | inr up ↦ from_start a up.0 up.2 up.3 up.4 up.5 (inr up.1)
  ];
  starts = λ c from. elim from [
    | inl is ↦ counted-grows T middle row two.grows c (one.has c is)
    | inr is ↦ two.has c is
  ];
  within = two.within (one.within (λ t. omega (arith, zeros t)));
  le = λ t. omega (arith, unseen t);
  links = λ d e seen asks. absurd (omega (arith, seen.2, unseen seen.0));
  acquires = λ l m last. absurd (none-some m (sym (no_last l) ∙ last));
  settled = λ l p outer seen. absurd (omega (arith, seen.2, unseen seen.0));
}
  where
    from_start : (a d t : ℕ) → thread_at T a ≡ Some t → thread_at T d ≡ Some t → a ≤ d → IsEither first second d → IsNeeded T (IsEither first second) a
    from_start a d t of also le is =
        closed_thread T rules (IsNeeded T (IsEither first second)) (IsClosedIn-needed T (IsEither first second)) a d t of also le (started d is)

same_last : (o : Option ℕ) (m k : ℕ) → o ≡ Some m → o ≡ Some k → m ≡ k
same_last o m k is also = same_Some m k (sym is ∙ also)

-- after the last visit the row counts what is needed
module _
    (T : List Event) (rules : IsDisciplined T) (start : ℕ → Type 0) (row visited : ℕ → ℕ) (latest : ℕ → Option ℕ) (is : IsClosing T start row visited latest)
    (all : (t : ℕ) → row t ≤ visited t) where
  asked_for : (d e : ℕ) → IsSought T e d → IsCounted T row e → IsCounted T row d
  asked_for d e asks counted = is.links d e (counted-grows T row visited all e counted) asks

  settled_at : (l p u : ℕ) → IsOuter T p l u → IsCounted T row p → IsSettled T row (latest l) p
  settled_at l p u outer counted = is.settled l p (is_outer-from T p l u outer) (counted-grows T row visited all p counted)

  links_row : (d e : ℕ) → Link T d e → IsCounted T row e → IsCounted T row d
  links_row d e (by_base base) counted = asked_for d e (inl base) counted
  links_row d e (by_writer writer) counted =
      let read = last_writer-some T e d writer in
      asked_for d e (inr (source_of-op T e (Read read.0) read.1 ∙ writer)) counted
  links_row d e (by_join u of op) counted =
      let s = end_of_thread-event T u d of in
      counted_thread T row d s.0 u of s.2 s.3 (asked_for s.0 e (inr (source_of-op T e (Join u) op ∙ s.1)) counted)
  links_row d e (from_fork_to_join u fork op) counted =
      let forks = fork_of-op T u d fork in
      let s = end_of_thread-fork T rules u d forks in
      let has : IsCounted T row s.0 = asked_for s.0 e (inr (source_of-op T e (Join u) op ∙ s.1)) counted in
      elim s.2 [
        | inl of ↦ base_fork T rules (IsCounted T row) (λ f k base seen. asked_for f k (inl base) seen) d s.0 u forks of has
        | inr one ↦ subst (IsCounted T row) (sym one) has
      ]

  sections_row : (p r e : ℕ) → EndsBetween T p r e → IsCounted T row p → IsCounted T row e → IsCounted T row r
  sections_row p r e s has also =
      let l : ℕ = s.lock in
      let u : ℕ = s.owner in
      let t : ℕ = s.thread in
      let end = section_end-is T p l u r s.first s.of_owner s.ends in
      let late : (j : ℕ) → j ≤ r → (k : ℕ) → section_end T p ≡ Some k → j ≤ k = λ j le k ends. let one : k ≡ r = same_Some k r (sym ends ∙ s.ends) in omega (arith, one, le) in
      let opened : 0 < hold_count (take r T) u l = section-open T rules p l u r s.first s.of_owner (late r (omega arith)) end.0 (omega (arith, end.1)) in
      let since = held_since T rules r u l (omega (arith, end.1)) opened in
      let o : ℕ = since.0 in
      let outer = since.1.outer in
      let low : o ≤ p =
      elim (cases_lt p o) [
        | inr le ↦ le
        | inl lt ↦
            let held : 0 < hold_count (take o T) u l =
            section-open T rules p l u o s.first s.of_owner (late o (omega (arith, since.1.early))) lt (omega (arith, since.1.early, end.1)) in
            absurd (omega (arith, held, outer.free))
      ] in
      let o_settled : IsSettled T row (latest l) o = settled_at l o u outer (counted_thread T row o p u outer.of s.of_owner low has) in
      elim o_settled.2 [
        | inr ended ↦
            let k : ℕ = ended.1.0 in
            let after : r ≤ k = section-since T rules r u l o since.1 k ended.1.1 in
            counted_thread T row r k u end.2 (section_end-is T o l u k outer.acquires outer.of ended.1.1).2 after ended.1.2
        | inl last ↦ absurd (elim (cases_lt 0 (hold_count (take e T) t l)) [
          | inr none ↦
              let first : IsOuter T e l t = record { acquires = s.second; of = s.of_thread; free = omega (arith, none) } in
              let settled = settled_at l e t first also in
              let one : settled.0 ≡ o_settled.0 = same_last (latest l) settled.0 o_settled.0 settled.1 o_settled.1 in
              elim settled.2 [
                | inl at ↦ omega (arith, at, one, last, low, s.earlier)
                | inr before ↦ omega (arith, before.0, one, last, low, s.earlier)
              ]
          | inl holds ↦
              let earlier_on = held_since T rules e t l (omega (arith, thread_within T e t s.of_thread)) holds in
              let f : ℕ = earlier_on.0 in
              let f_outer = earlier_on.1.outer in
              let settled = settled_at l f t f_outer (counted_thread T row f e t f_outer.of s.of_thread (omega (arith, earlier_on.1.early)) also) in
              let one : settled.0 ≡ o_settled.0 = same_last (latest l) settled.0 o_settled.0 settled.1 o_settled.1 in
              elim settled.2 [
                | inl at ↦
                    let same_event : f ≡ o = omega (arith, at, one, last) in
                    s.other (same_Some u t (sym outer.of ∙ ap (thread_at T) (sym same_event) ∙ f_outer.of))
                | inr before ↦
                    let v = op_event T o (Acquire l) outer.acquires in
                    let mine : v.0.thread ≡ u = same_Some v.0.thread u (sym (thread_here T o v.0 v.1) ∙ outer.of) in
                    let free : hold_count (take o T) t l ≡ 0 = rules.acquires_free o l t v.0 v.1 v.2 (λ same_thread. s.other (sym (same_thread ∙ mine))) in
                    let held : 0 < hold_count (take o T) t l = earlier_on.1.held o (omega (arith, before.0, one, last)) (omega (arith, low, s.earlier)) in
                    omega (arith, free, held)
              ]
        ])
      ]

  pub IsNeededRow-closed : IsNeededRow T start row
  IsNeededRow-closed e = (
    λ counted. is.sound e counted,
    λ need. needed_in T start (IsCounted T row) (record { links = links_row; sections = sections_row }) is.starts e need,
  )
