-- What the last section of a lock tells of a thread whose events a row counts.
use Rattle.std.proofs.Common.{◌≡◌, ◌≢◌, ℕ, ◌+◌, ◌-◌, ◌<◌, ◌≤◌, true, List, length, take, get_or, slice_get, Option, Some, None, Contains, refl, sym, ap, ◌∙◌, subst, arith, inl, inr}
use Rattle.std.specs.Option.{IfSome}
use Rattle.std.proofs.lemmas.Bool.{cases_lt, cases_eq}
use Rattle.std.proofs.lemmas.List.{get_or_default}
use Rattle.std.proofs.lemmas.Option.{same_Some, none-some, slice_get-get_or}
use Rattle.rapid_text.specs.declared.event.Event.{Event}
use Rattle.rapid_text.specs.declared.event.Op.TheVariants.{Acquire}
use Rattle.trace_rules.specs.Rules.{IsDisciplined, hold_count}
use Rattle.event_index.specs.Events.{op_at, thread_at}
use Rattle.event_index.specs.Lookups.{events_of, place_of, section_end}
use Rattle.event_index.proofs.CallerLemmas.{find_last_is, one_thread, thread_within, place_of-events_of}
use Rattle.shb_clocks.proofs.PlaceLemmas.{place_of-le_from, le-from_place_of}
use Rattle.must_order.specs.Layout.{IsCounted, IsBegun, IsClosed}
use Rattle.must_order.specs.MustBefore.{IsInSection, EndsFirst}
use Rattle.must_order.specs.Sections.{is_outer, last_outer, IsOpenAt, IsOwed, IsSettledOn, IsSettledBy, IsSettledWithin}
use Rattle.must_order.proofs.OrderLemmas.{IsMustBefore-le, EndsFirst-earlier, section-closed}
use Rattle.must_order.proofs.SectionLemmas.{section-open, section_end-is}
use Rattle.must_order.proofs.TimelineLemmas.{IsOuter-test, is_outer-from, held_since, section-since, hold_count-free}

-- the last of the first n events of a thread
pub last_place : (T : List Event) (t n : ℕ) (es : List ℕ) → es ≡ events_of T t → 0 < n → n ≤ length (events_of T t)
    → (thread_at T (get_or es (n - 1) 0) ≡ Some t) × (place_of T (get_or es (n - 1) 0) + 1 ≡ n)
last_place T t n es are some fits =
    let size : length es ≡ length (events_of T t) = ap length are in
    let at : slice_get (events_of T t) (n - 1) ≡ Some (get_or es (n - 1) 0) =
    sym (ap (λ (xs : List ℕ). slice_get xs (n - 1)) are) ∙ slice_get-get_or es (n - 1) 0 (omega arith) in
    let found = place_of-events_of T t (n - 1) (get_or es (n - 1) 0) at in
    (found.1, omega (arith, found.2))

module _ (T : List Event) (rules : IsDisciplined T) (e own : ℕ) (of : thread_at T e ≡ Some own) (row : ℕ → ℕ) (begun : IsBegun T e row) where
  -- what a row counts of another thread stands before the event
  pub counted_earlier : (u a : ℕ) → u ≢ own → thread_at T a ≡ Some u → place_of T a < row u → a < e
  counted_earlier u a other from lt =
      let le : a ≤ e = IsMustBefore-le T rules a e (begun.sound a (u, from, lt)) in
      elim (cases_eq a e) [
        | inl is ↦ absurd (other (one_thread T e u own (ap (thread_at T) (sym is) ∙ from) of))
        | inr apart ↦ omega (arith, apart)
      ]

  -- where a row counts nothing of the thread
  pub settled_none : (l u : ℕ) → row u ≡ 0 → IsSettledBy T e row l u
  settled_none l u none p r s lock owner (t, from, lt) =
      let is : t ≡ u = one_thread T p t u from (s.of_owner ∙ ap Some owner) in
      let value : row t ≡ row u = ap row is in
      absurd (omega (arith, value, none))

  module _ (l u last : ℕ) (other : u ≢ own) (inside : IsInSection T e own l) (of_last : thread_at T last ≡ Some u) (place : place_of T last + 1 ≡ row u) where
    -- the events of the thread that are counted are those up to the last
    counted_le : (a : ℕ) → thread_at T a ≡ Some u → place_of T a < row u → a ≤ last
    counted_le a from lt = le-from_place_of T a last u from of_last (omega (arith, place))

    le_counted : (a : ℕ) → thread_at T a ≡ Some u → a ≤ last → place_of T a < row u
    le_counted a from le = omega (arith, place, place_of-le_from T a last u from of_last le)

    last_earlier : last < e
    last_earlier = counted_earlier u last other of_last (le_counted last of_last (omega arith))

    ended_cases : (p : ℕ) → op_at T p ≡ Some (Acquire l) → thread_at T p ≡ Some u → p ≤ last
        → ((r : ℕ) → section_end T p ≡ Some r → r ≤ last) → (o : Option ℕ) → section_end T p ≡ o → (r : ℕ) × (section_end T p ≡ Some r) × (r < last + 1)
    ended_cases p op from le ends None is =
        absurd
        (section-closed T rules p e l u own op from of other inside (omega (arith, last_earlier))
        (λ r here. absurd (none-some r (sym is ∙ here))))
    ended_cases p op from le ends (Some r) is = (r, is, omega (arith, ends r is))

    -- where its last section of the lock has ended, it is settled
    pub settled_by : ((p : ℕ) → last_outer T l (last + 1) ≡ Some p → thread_at T p ≡ Some u → (r : ℕ) → section_end T p ≡ Some r → r ≤ last) → IsSettledBy T e row l u
    settled_by ends p r s lock owner (t, from, lt) =
        let is : t ≡ u = one_thread T p t u from (s.of_owner ∙ ap Some owner) in
        let mine : thread_at T p ≡ Some u = from ∙ ap Some is in
        let low : place_of T p < row u = subst (λ (w : ℕ). place_of T p < row w) is lt in
        let op : op_at T p ≡ Some (Acquire l) = s.acquires ∙ ap (λ m. Some (Acquire m)) lock in
        let release = section_end-is T p l u r op mine s.ends in
        elim (cases_lt (place_of T r) (row u)) [
          | inl counted ↦ (u, release.2, counted)
          | inr beyond ↦
              let within : last + 1 ≤ length T = omega (arith, thread_within T last u of_last) in
              let late : last < r =
              elim (cases_lt last r) [
                | inl past ↦ past
                | inr le ↦ absurd (let it = le_counted r release.2 le in omega (arith, it, beyond))
              ] in
              let free : hold_count (take (last + 1) T) u l ≡ 0 =
              hold_count-free T rules (last + 1) u l within
              (λ q found here.
              let outer = find_last_is (is_outer T l) (last + 1) q found in
              let o = IsOuter-test T q l outer.1 in
              ended_cases q o.1.acquires here (omega (arith, outer.0)) (ends q found here) (section_end T q) refl) in
              let opened : 0 < hold_count (take (last + 1) T) u l =
              section-open T rules p l u (last + 1) op mine
              (λ k found. let one : k ≡ r = same_Some k r (sym found ∙ s.ends) in omega (arith, late))
              (omega (arith, counted_le p mine low)) within in
              absurd (omega (arith, free, opened))
        ]

    -- where it has not, its end is owed
    pub owed_by_last : (p r : ℕ) → last_outer T l (last + 1) ≡ Some p → thread_at T p ≡ Some u → section_end T p ≡ Some r → last < r → IsOwed T e row (p, r) × (r < e)
    owed_by_last p r found here ends late =
        let outer = find_last_is (is_outer T l) (last + 1) p found in
        let o = IsOuter-test T p l outer.1 in
        let release = section_end-is T p l u r o.1.acquires here ends in
        let counted : IsCounted T row p = (u, here, le_counted p here (omega (arith, outer.0))) in
        let s : EndsFirst T p r e = record {
          lock = l;
          owner = u;
          thread = own;
          acquires = o.1.acquires;
          of_owner = here;
          ends = ends;
          of_thread = of;
          other = other;
          inside = inside;
        } in (
          (
            s,
            counted,
            λ (t, from, lt).
                let is : t ≡ u = one_thread T r t u from release.2 in
                let le : r ≤ last = counted_le r release.2 (subst (λ (w : ℕ). place_of T r < row w) is lt) in
                omega (arith, le, late),
          ),
          (EndsFirst-earlier T rules p r e s (omega (arith, outer.0, last_earlier))).1,
        )

  -- its own thread owes nothing
  pub settled_own : (l u : ℕ) → own ≡ u → IsSettledBy T e row l u
  settled_own l u is p r s lock owner counted =
      absurd (s.other (owner ∙ sym is ∙ one_thread T e own s.thread of s.of_thread))

  -- all threads settled on a lock
  pub settled_on : (l width : ℕ) → ((a t : ℕ) → thread_at T a ≡ Some t → t < width) → ((u : ℕ) → u < width → IsSettledBy T e row l u) → IsSettledOn T e row l
  settled_on l width named each p r s lock counted = each s.owner (named p s.owner s.of_owner) p r s lock refl counted

  -- all locks settled that the event asks for
  pub closed_from :
      (held : List ℕ) → ((p l : ℕ) → p < e → is_outer T l p ≡ true → IsOpenAt T e p → Contains held p)
      → ((k : ℕ) → k < length held → IsSettledWithin T e row (get_or held k 0))
      → ((l : ℕ) → op_at T e ≡ Some (Acquire l) → IsSettledOn T e row l) → IsClosed T e row
  closed_from held all each last p r s counted =
      elim s.inside [
        | inr takes ↦ last s.lock takes p r s refl counted
        | inl holds ↦
            let since = held_since T rules e s.thread s.lock (omega (arith, thread_within T e own of)) holds in
            let it = all since.0 s.lock since.1.early (is_outer-from T since.0 s.lock s.thread since.1.outer) (section-since T rules e s.thread s.lock since.0 since.1) in
            let here : get_or held it.0 0 ≡ since.0 = get_or_default held it.0 0 since.0 it.1 ∙ it.2 in
            let settled : IsSettledWithin T e row since.0 = subst (IsSettledWithin T e row) here (each it.0 it.1) in
            settled s.lock s.thread since.1.outer.acquires since.1.outer.of s.of_thread (section-since T rules e s.thread s.lock since.0 since.1) p r s refl counted
      ]

-- what follows for the value of an option
pub if_some : {X : Type 0} (o : Option X) (P Q : X → Type 0) → ((r : X) → P r → Q r) → IfSome o P → IfSome o Q
if_some None P Q h is = is
if_some (Some r) P Q h is = h r is

pub acquired_lock : (T : List Event) (e l m : ℕ) → op_at T e ≡ Some (Acquire l) → op_at T e ≡ Some (Acquire m) → l ≡ m
acquired_lock T e l m op also = let one : Some (Acquire l) ≡ Some (Acquire m) = sym op ∙ also in cc

-- an event of the thread that took a lock lies in its section until that ends
pub inside_of : (T : List Event) → IsDisciplined T → (p e l t : ℕ) → op_at T p ≡ Some (Acquire l) → thread_at T p ≡ Some t → IsOpenAt T e p → p < e → e ≤ length T → IsInSection T e t l
inside_of T rules p e l t op of is lt within = inl (section-open T rules p l t e op of is lt within)
