-- A row is begun with those of the base and the source, and stays begun when the row of an event that is must-before
-- it is joined.
use Rattle.std.proofs.Common.{◌≡◌, ◌≢◌, ℕ, ◌+◌, ◌-◌, ◌<◌, ◌≤◌, ◌⊎◌, max, List, length, get_or, Option, Some, None, refl, sym, ap, ◌∙◌, subst, arith, inl, inr}
use Rattle.std.specs.List.{slice_get}
use Rattle.std.proofs.lemmas.Bool.{cases_lt, cases_eq}
use Rattle.std.proofs.lemmas.Option.{same_Some, none-some, slice_get-get_or, slice_get_within}
use Rattle.rapid_text.specs.declared.event.Event.{Event}
use Rattle.rapid_text.specs.declared.event.Op.{Op}
use Rattle.rapid_text.specs.declared.event.Op.TheVariants.{Read, Join}
use Rattle.trace_rules.specs.Rules.{IsDisciplined}
use Rattle.event_index.specs.Events.{op_at, thread_at}
use Rattle.event_index.specs.Lookups.{events_of, fork_of, or_else, place_of, base_of}
use Rattle.event_index.proofs.CallerLemmas.{base_of-earlier, thread_event, thread_here, thread_within, one_thread, events_of-place, place_of-events_of}
use Rattle.shb_clocks.proofs.CallerLemmas.{base-after}
use Rattle.shb_clocks.proofs.PlaceLemmas.{place_of-le_from, le-from_place_of}
use Rattle.must_order.specs.Layout.{IsCount, source_by, source_of, IsCounted, IsFresh, IsBegun}
use Rattle.must_order.specs.MustBefore.{Link, by_base, by_writer, by_join, from_fork_to_join, IsMustBefore, same, link}
use Rattle.must_order.proofs.OrderLemmas.{IsMustBefore-le, IsMustBefore-trans, Link-earlier, along_thread}

-- n counts the events of thread t up to this event; none where there is no such event
abbrev pub IsCountBy : List Event → Option ℕ → ℕ → ℕ → Type 0
IsCountBy T None t n = n ≡ 0
IsCountBy T (Some s) t n = IsCount T s t n

-- where a source stands, a link leads from it
end_link : (T : List Event) (e u s : ℕ) → op_at T e ≡ Some (Join u) → (o : Option ℕ) → slice_get (events_of T u) (length (events_of T u) - 1) ≡ o → or_else o (fork_of T u) ≡ Some s → Link T s e
end_link T e u s op None at is = from_fork_to_join u is op
end_link T e u s op (Some k) at is =
    let one : k ≡ s = same_Some k s is in
    by_join u (subst (λ (j : ℕ). thread_at T j ≡ Some u) one (place_of-events_of T u (length (events_of T u) - 1) k at).1) op

source_link : (T : List Event) (e s : ℕ) (o : Option Op) → op_at T e ≡ o → source_by T e o ≡ Some s → Link T s e
source_link T e s (Some (Read x)) op is = by_writer is
source_link T e s (Some (Join u)) op is = end_link T e u s op (slice_get (events_of T u) (length (events_of T u) - 1)) refl is
source_link T e s o op is = absurd (none-some s is)

pub Link-source : (T : List Event) (e s : ℕ) → source_of T e ≡ Some s → Link T s e
Link-source T e s is = source_link T e s (op_at T e) refl is

-- the larger of two
below_max : (k n m : ℕ) → k < max n m → (k < n) ⊎ (k < m)
below_max k n m lt = elim (cases_lt k n) [ inl low ↦ inl low | inr high ↦ inr (omega arith) ]

pub thread_cases : (T : List Event) (a : ℕ) → a < length T → (t : ℕ) × (thread_at T a ≡ Some t)
thread_cases T a lt =
    let d : Event = record { thread = 0; op = Read 0 } in
    let v : Event = get_or T a d in
    (v.thread, thread_here T a v (slice_get-get_or T a d lt))

place-within : (T : List Event) (a t : ℕ) → thread_at T a ≡ Some t → place_of T a < length (events_of T t)
place-within T a t of =
    let v = thread_event T a t of in
    slice_get_within (events_of T t) (place_of T a) a (subst (λ (u : ℕ). slice_get (events_of T u) (place_of T a) ≡ Some a) v.2 (events_of-place T a v.0 v.1))

module _ (T : List Event) (rules : IsDisciplined T) (e own width : ℕ) (of : thread_at T e ≡ Some own) (named : (a t : ℕ) → thread_at T a ≡ Some t → t < width) where
  module _
      (row n m : ℕ → ℕ)
      (base : (t : ℕ) → t < width → IsCountBy T (base_of T e) t (n t))
      (source : (t : ℕ) → t < width → IsCountBy T (source_of T e) t (m t))
      (mine : row own ≡ place_of T e + 1)
      (others : (t : ℕ) → t < width → t ≢ own → row t ≡ max (n t) (m t))
      (none : (t : ℕ) → width ≤ t → row t ≡ 0) where
    -- what is counted of its own thread
    own_counted : (a : ℕ) → thread_at T a ≡ Some own → a ≤ e → IsCounted T row a
    own_counted a from le = (own, from, omega (arith, mine, place_of-le_from T a e own from of le))

    -- where a count comes from
    by_option : (o : Option ℕ) (t k a : ℕ) → IsCountBy T o t k → thread_at T a ≡ Some t → place_of T a < k → (s : ℕ) × (o ≡ Some s) × IsMustBefore T a s
    by_option None t k a is from lt = absurd (omega arith)
    by_option (Some s) t k a is from lt = (s, refl, is.reached a from lt)

    to_option : (o : Option ℕ) (t k a s : ℕ) → IsCountBy T o t k → o ≡ Some s → thread_at T a ≡ Some t → IsMustBefore T a s → place_of T a < k
    to_option None t k a s is here from must = absurd (none-some s here)
    to_option (Some q) t k a s is here from must = is.counted a from (subst (IsMustBefore T a) (sym (same_Some q s here)) must)

    -- what is must-before the base, or the source
    from_base : (a b : ℕ) → base_of T e ≡ Some b → IsMustBefore T a b → IsCounted T row a
    from_base a b is must =
        let early : b < e = base_of-earlier T rules e b is in
        let le : a ≤ b = IsMustBefore-le T rules a b must in
        let t = thread_cases T a (omega (arith, early, le, thread_within T e own of)) in
        elim (cases_eq t.0 own) [
          | inl same_one ↦ own_counted a (t.1 ∙ ap Some same_one) (omega (arith, early, le))
          | inr other ↦
              let low : t.0 < width = named a t.0 t.1 in
              (t.0, t.1, omega (arith, others t.0 low other, to_option (base_of T e) t.0 (n t.0) a b (base t.0 low) is t.1 must))
        ]

    from_source : (a s : ℕ) → source_of T e ≡ Some s → IsMustBefore T a s → IsCounted T row a
    from_source a s is must =
        let early : s < e = Link-earlier T rules s e (Link-source T e s is) in
        let le : a ≤ s = IsMustBefore-le T rules a s must in
        let t = thread_cases T a (omega (arith, early, le, thread_within T e own of)) in
        elim (cases_eq t.0 own) [
          | inl same_one ↦ own_counted a (t.1 ∙ ap Some same_one) (omega (arith, early, le))
          | inr other ↦
              let low : t.0 < width = named a t.0 t.1 in
              (t.0, t.1, omega (arith, others t.0 low other, to_option (source_of T e) t.0 (m t.0) a s (source t.0 low) is t.1 must))
        ]

    -- what a row counts is e, or must-before the base or the source
    pub origin : IsFresh T e row
    origin a (t, from, lt) =
        let low : t < width = named a t from in
        elim (cases_eq t own) [
          | inl same_one ↦
              let here : thread_at T a ≡ Some own = from ∙ ap Some same_one in
              let value : row t ≡ row own = ap row same_one in
              let le : a ≤ e = le-from_place_of T a e own here of (omega (arith, mine, value)) in
              elim (cases_eq a e) [
                | inl is ↦ inl is
                | inr other ↦
                    let v = thread_event T e own of in
                    let b = base-after T e v.0 v.1 a (omega (arith, other)) (here ∙ ap Some (sym v.2)) in
                    inr (inl (b.0, b.1, along_thread T rules a b.0 v.0.thread (here ∙ ap Some (sym v.2)) b.2 b.3))
              ]
          | inr other ↦
              let value = others t low other in
              elim (below_max (place_of T a) (n t) (m t) (omega (arith, value))) [
                | inl by_b ↦ inr (inl (by_option (base_of T e) t (n t) a (base t low) from by_b))
                | inr by_s ↦ inr (inr (by_option (source_of T e) t (m t) a (source t low) from by_s))
              ]
        ]

    count-le : (o : Option ℕ) (t k : ℕ) → IsCountBy T o t k → k ≤ length (events_of T t)
    count-le None t k is = omega arith
    count-le (Some s) t k is = is.within

    row-le : (t : ℕ) → row t ≤ length (events_of T t)
    row-le t =
        elim (cases_lt t width) [
          | inr past ↦ let zero_there = none t past in omega arith
          | inl low ↦ elim (cases_eq t own) [
            | inl same_one ↦
                let value : row t ≡ row own = ap row same_one in
                let size : length (events_of T t) ≡ length (events_of T own) = ap (λ u. length (events_of T u)) same_one in
                omega (arith, mine, value, size, place-within T e own of)
            | inr other ↦
                omega (arith, others t low other, count-le (base_of T e) t (n t) (base t low), count-le (source_of T e) t (m t) (source t low))
          ]
        ]

    pub IsBegun-made : IsBegun T e row
    IsBegun-made = record {
      sound = λ a counted.
          elim (origin a counted) [
            | inl is ↦ same a e is
            | inr rest ↦ elim rest [
              | inl (b, is, must) ↦ link a b e must (by_base is)
              | inr (s, is, must) ↦ link a s e must (Link-source T e s is)
            ]
          ];
      down = λ a x other counted must.
          elim (origin x counted) [
            | inl is ↦ absurd (other is)
            | inr rest ↦ elim rest [
              | inl (b, is, there) ↦ from_base a b is (IsMustBefore-trans T a x b must there)
              | inr (s, is, there) ↦ from_source a s is (IsMustBefore-trans T a x s must there)
            ]
          ];
      base = λ b is. from_base b b is (same b b refl);
      source = λ s is. from_source s s is (same s s refl);
      own = λ t also. ap row (one_thread T e t own also of) ∙ mine;
      within = row-le;
    }

  -- with the row of an event that is must-before e
  module _
      (row raised m : ℕ → ℕ) (r : ℕ) (early : r < e) (must : IsMustBefore T r e) (begun : IsBegun T e row)
      (counts : (t : ℕ) → t < width → IsCount T r t (m t))
      (larger : (t : ℕ) → t < width → raised t ≡ max (row t) (m t))
      (none : (t : ℕ) → width ≤ t → raised t ≡ 0) where
    kept : (a : ℕ) → IsCounted T row a → IsCounted T raised a
    kept a (t, from, lt) = (t, from, omega (arith, larger t (named a t from)))

    joined : (a : ℕ) → IsMustBefore T a r → IsCounted T raised a
    joined a before =
        let t = thread_cases T a (omega (arith, early, IsMustBefore-le T rules a r before, thread_within T e own of)) in
        let low : t.0 < width = named a t.0 t.1 in
        (t.0, t.1, omega (arith, larger t.0 low, (counts t.0 low).counted a t.1 before))

    pub parts : (a : ℕ) → IsCounted T raised a → IsCounted T row a ⊎ IsMustBefore T a r
    parts a (t, from, lt) =
        let low : t < width = named a t from in
        elim (below_max (place_of T a) (row t) (m t) (omega (arith, larger t low))) [
          | inl old ↦ inl (t, from, old)
          | inr new ↦ inr ((counts t low).reached a from new)
        ]

    own_stays : m own ≤ place_of T e
    own_stays =
        elim (cases_lt (place_of T e) (m own)) [
          | inl past ↦ absurd (let le = IsMustBefore-le T rules e r ((counts own (named e own of)).reached e of past) in omega arith)
          | inr le ↦ le
        ]

    pub IsBegun-raised : IsBegun T e raised
    IsBegun-raised = record {
      sound = λ a counted.
          elim (parts a counted) [
            | inl old ↦ begun.sound a old
            | inr new ↦ IsMustBefore-trans T a r e new must
          ];
      down = λ a x other counted before.
          elim (parts x counted) [
            | inl old ↦ kept a (begun.down a x other old before)
            | inr new ↦ joined a (IsMustBefore-trans T a x r before new)
          ];
      base = λ b is. kept b (begun.base b is);
      source = λ s is. kept s (begun.source s is);
      own = λ t also.
          let is : t ≡ own = one_thread T e t own also of in
          let value : row own ≡ place_of T e + 1 = begun.own own of in
          ap raised is ∙ larger own (named e own of) ∙ omega (arith, own_stays, value);
      within = λ t.
          elim (cases_lt t width) [
            | inl low ↦ omega (arith, larger t low, begun.within t, (counts t low).within)
            | inr past ↦ let zero_there = none t past in omega arith
          ];
    }
