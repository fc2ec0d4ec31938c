-- Rows that are joined: what they count is needed, and at the end it is all that is needed.
use Rattle.std.proofs.Common.{◌≡◌, ◌⊎◌, ℕ, ◌-◌, ◌*◌, ◌<◌, ◌≤◌, max, List, length, get_or, Option, Some, None, IfSome, refl, sym, ◌∙◌, subst, arith, inl, inr}
use Rattle.std.proofs.lemmas.Bool.{cases_lt}
use Rattle.std.proofs.lemmas.List.{get_or_past}
use Rattle.std.proofs.lemmas.Option.{same_Some, none-some}
use Rattle.rapid_text.specs.Recording.{Recording, IsWellFormed}
use Rattle.rapid_text.specs.declared.event.Event.{Event}
use Rattle.trace_rules.specs.Rules.{IsDisciplined}
use Rattle.event_index.specs.Events.{thread_at}
use Rattle.event_index.specs.Lookups.{events_of, place_of}
use Rattle.event_index.proofs.CallerLemmas.{events_of-length}
use Rattle.shb_clocks.proofs.ReadLemmas.{thread_named}
use Rattle.must_order.specs.Layout.{IsCounted}
use Rattle.must_order.specs.MustBefore.{IsMustBefore, same, link}
use Rattle.must_order.specs.Telling.{TellsMust}
use Rattle.must_order.proofs.CallerLemmas.{IsMustBefore-trans, IsMustBefore-le}
use Rattle.must_order.proofs.BegunLemmas.{thread_cases}
use Rattle.must_order.proofs.RowLemmas.{total, sum-grows}
use Rattle.witness_search.specs.trace_order.InOrder.{IsNeeded, started, closed}
use Rattle.witness_search.specs.trace_order.Joining.{Joins, IsJoined, IsDue, IsClosedOn}
use Rattle.witness_search.specs.trace_order.Layout.{IsEither, IsNeededRow}
use Rattle.witness_search.specs.declared.trace_order.joining.Due.{Due}
use Rattle.witness_search.proofs.trace_order.ClosedLemmas.{closed_must}
use Rattle.witness_search.proofs.trace_order.ClosingLemmas.{counted-grows}
use Rattle.witness_search.proofs.trace_order.LoopLemmas.{sum-bound}
use Rattle.witness_search.proofs.trace_order.NeededLemmas.{IsClosedIn-needed, needed_in}

-- an event's row, joined into another
module _
    (r : Recording) (well : IsWellFormed r) (rules : IsDisciplined r.events) (e : ℕ) (count : ℕ → ℕ → ℕ)
    (tells : TellsMust r.events (length r.threads) count) (in_trace : e < length r.events)
    (row new : List ℕ) (wide : length row ≡ length r.threads) (same_len : length new ≡ length row)
    (raised : (t : ℕ) → t < length r.threads → get_or new t 0 ≡ max (get_or row t 0) (count e t)) where
  abbrev T : List Event
  T = r.events

  abbrev before_it : ℕ → ℕ
  before_it t = get_or row t 0

  abbrev after_it : ℕ → ℕ
  after_it t = get_or new t 0

  raise_grows : (t : ℕ) → get_or row t 0 ≤ get_or new t 0
  raise_grows t =
      elim (cases_lt t (length r.threads)) [
        | inl low ↦ omega (arith, raised t low)
        | inr past ↦ omega (arith, get_or_past row t 0 (omega (arith, past, wide)))
      ]

  raise_has : (a : ℕ) → (t : ℕ) → thread_at T a ≡ Some t → IsMustBefore T a e → IsCounted T after_it a
  raise_has a t of must =
      let low = thread_named r well a t of in
      (t, of, omega (arith, raised t low, (tells.tells a e t in_trace low of).1 must))

  raise_sound : (a : ℕ) → IsCounted T after_it a → IsCounted T before_it a ⊎ IsMustBefore T a e
  raise_sound a (t, of, lt) =
      let low = thread_named r well a t of in
      elim (cases_lt (place_of T a) (get_or row t 0)) [
        | inl old ↦ inl (t, of, old)
        | inr late ↦ inr ((tells.tells a e t in_trace low of).0 (omega (arith, lt, late, raised t low)))
      ]

  raise_within : ((t : ℕ) → get_or row t 0 ≤ length (events_of T t)) → (t : ℕ) → get_or new t 0 ≤ length (events_of T t)
  raise_within bound t =
      elim (cases_lt t (length r.threads)) [
        | inl low ↦ omega (arith, raised t low, bound t, tells.within e t in_trace low)
        | inr past ↦ omega (arith, get_or_past new t 0 (omega (arith, past, wide, same_len)))
      ]

  must_thread : (a : ℕ) → IsMustBefore T a e → (t : ℕ) × (thread_at T a ≡ Some t)
  must_thread a must = thread_cases T a (omega (arith, IsMustBefore-le T rules a e must, in_trace))

  raise_must : (a : ℕ) → IsMustBefore T a e → IsCounted T after_it a
  raise_must a must = let of = must_thread a must in raise_has a of.0 of.1 must

  pub Joins-raised : (o : Option ℕ) → o ≡ Some e → Joins T (λ d. o ≡ Some d) before_it after_it
  Joins-raised o known = record {
    grows = raise_grows;
    has = λ d is.
        let one : e ≡ d = same_Some e d (sym known ∙ is) in
        subst (IsCounted T after_it) one (raise_must e (same e e refl));
    sound = λ a counted. elim (raise_sound a counted) [ inl old ↦ inl old | inr must ↦ inr (e, known, must) ];
    down = λ old a b must counted. elim (raise_sound b counted) [
      | inl was ↦ counted-grows T before_it after_it raise_grows a (old a b must was)
      | inr also ↦ raise_must a (IsMustBefore-trans T a b e must also)
    ];
    within = raise_within;
  }

-- no event is joined
pub Joins-none : (T : List Event) (row : ℕ → ℕ) → Joins T (λ d. None ≡ Some d) row row
Joins-none T row = record {
  grows = λ t. omega arith;
  has = λ d is. absurd (none-some d is);
  sound = λ a counted. inl counted;
  down = λ old. old;
  within = λ bound. bound;
}

-- what is joined is needed
pub IsJoined-joins :
    (T : List Event) → IsDisciplined T → (start : ℕ → Type 0) (row new : ℕ → ℕ) (these : ℕ → Type 0)
    → IsJoined T start row → Joins T these row new → ((d : ℕ) → these d → IsNeeded T start d) → IsJoined T start new
IsJoined-joins T rules start row new these is joins needs = record {
  starts = λ c from. counted-grows T row new joins.grows c (is.starts c from);
  sound = λ a counted. elim (joins.sound a counted) [
    | inl old ↦ is.sound a old
    | inr up ↦ closed_must T rules (IsNeeded T start) (IsClosedIn-needed T start) a up.0 up.2 (needs up.0 up.1)
  ];
  down = joins.down is.down;
  within = joins.within is.within;
}

-- two events are joined first
pub IsJoined-start :
    (T : List Event) → IsDisciplined T → (first second : Option ℕ) (none middle row : ℕ → ℕ) → ((t : ℕ) → none t ≡ 0)
    → Joins T (λ d. first ≡ Some d) none middle → Joins T (λ d. second ≡ Some d) middle row → IsJoined T (IsEither first second) row
IsJoined-start T rules first second none middle row zeros one two = record {
  starts = λ c from. elim from [
    | inl is ↦ counted-grows T middle row two.grows c (one.has c is)
    | inr is ↦ two.has c is
  ];
  sound = λ a counted. elim (two.sound a counted) [
    | inl old ↦ elim (one.sound a old) [
      | inl never ↦ absurd (omega (arith, never.2, zeros never.0))
      | inr up ↦ from_start a up.0 up.2 (inl up.1)
    ]
    | inr up ↦ from_start a up.0 up.2 (inr up.1)
  ];
  down = two.down (one.down (λ a e must counted. absurd (omega (arith, counted.2, zeros counted.0))));
  within = two.within (one.within (λ t. omega (arith, zeros t)));
}
  where
    from_start : (a d : ℕ) → IsMustBefore T a d → IsEither first second d → IsNeeded T (IsEither first second) a
    from_start a d must is =
        closed_must T rules (IsNeeded T (IsEither first second)) (IsClosedIn-needed T (IsEither first second)) a d must (started d is)

-- what is due is needed
pub due_needed : (T : List Event) (start : ℕ → Type 0) (row : ℕ → ℕ) → IsJoined T start row → (r : ℕ) → IsDue T row r → IsNeeded T start r
due_needed T start row is r due = closed due.first r due.second (is.sound due.first due.has) (is.sound due.second due.also) due.ends

-- where nothing is due the row counts what is needed
pub IsNeededRow-joined :
    (T : List Event) (start : ℕ → Type 0) (row : ℕ → ℕ) → IsJoined T start row → ((l : ℕ) → IsClosedOn T row l) → IsNeededRow T start row
IsNeededRow-joined T start row is all e = (
  λ counted. is.sound e counted,
  λ need. needed_in T start (IsCounted T row)
      (record {
        links = λ d a one counted. is.down d a (link d d a (same d d refl) one) counted;
        sections = λ p q a s has also. all s.lock p q a s refl has also;
      })
      is.starts e need,
)

-- a row that is joined with what is due
module _
    (T : List Event) (rules : IsDisciplined T) (start : ℕ → Type 0) (row new : List ℕ) (width : ℕ) (wide : length row ≡ width) (also : length new ≡ width)
    (named : (a t : ℕ) → thread_at T a ≡ Some t → t < width)
    (is : IsJoined T start (λ t. get_or row t 0)) (r : ℕ) (due : IsDue T (λ t. get_or row t 0) r)
    (joins : Joins T (λ d. Some r ≡ Some d) (λ t. get_or row t 0) (λ t. get_or new t 0)) where
  pub IsJoined-due : IsJoined T start (λ t. get_or new t 0)
  IsJoined-due =
      IsJoined-joins T rules start (λ t. get_or row t 0) (λ t. get_or new t 0) (λ d. Some r ≡ Some d) is joins
      (λ d known. subst (IsNeeded T start) (same_Some r d known) (due_needed T start (λ t. get_or row t 0) is r due))

  -- grows
  pub smaller_due : width * length T - total new < width * length T - total row
  smaller_due =
      let counted = joins.has r refl in
      let t : ℕ = counted.0 in
      let low : t < width = named r t counted.1 in
      let more : get_or row t 0 < get_or new t 0 =
      elim (cases_lt (place_of T r) (get_or row t 0)) [
        | inl old ↦ absurd (due.missing (t, counted.1, old))
        | inr late ↦ omega (arith, counted.2, late)
      ] in
      let grown : total row < total new = sum-grows row new t (also ∙ sym wide) (λ u lt. joins.grows u) (omega (arith, low, wide)) more in
      let bound : total new ≤ length new * length T = sum-bound new (length T) (λ u. omega (arith, IsJoined-due.within u, events_of-length T u)) in
      let limit : total new ≤ width * length T = subst (λ (w : ℕ). total new ≤ w * length T) also bound in
      omega (arith, grown, limit)

-- what is due, and that nothing is, where the row is read as a slice
pub due_read : (T : List Event) (row xs : List ℕ) (o : Option Due) → xs ≡ row → IfSome o (λ d. IsDue T (λ t. get_or xs t 0) d.end)
    → IfSome o (λ d. IsDue T (λ t. get_or row t 0) d.end)
due_read T row xs o is due = subst (λ (ys : List ℕ). IfSome o (λ d. IsDue T (λ t. get_or ys t 0) d.end)) is due

pub closed_read :
    (T : List Event) (row xs : List ℕ) (o : Option Due) → xs ≡ row → (o ≡ None → (l : ℕ) → IsClosedOn T (λ t. get_or xs t 0) l)
    → o ≡ None → (l : ℕ) → IsClosedOn T (λ t. get_or row t 0) l
closed_read T row xs o is none_due = subst (λ (ys : List ℕ). o ≡ None → (l : ℕ) → IsClosedOn T (λ t. get_or ys t 0) l) is none_due
