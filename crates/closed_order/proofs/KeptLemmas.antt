-- Each correct reordering after which the requests are next keeps their closed order.
use Rattle.std.proofs.Common.{◌≡◌, ◌≢◌, ℕ, ◌+◌, ◌-◌, ◌<◌, ◌≤◌, ◌⊎◌, Bool, true, false, List, [], ◌∷◌, length, take, reverse, find, get_or, Contains, Option, Some, None, slice_get, refl, sym, ap, ◌∙◌, subst, arith, eq-eqb, inl, inr}
use Rattle.std.proofs.lemmas.Bool.{cases_Bool, cases_lt, cases_eq, true≢false}
use Rattle.std.proofs.lemmas.List.{get_or-take, get_or_default, length-take-le}
use Rattle.std.proofs.lemmas.List.Elements.{All-contains, All-cons, All-nil}
use Rattle.std.proofs.lemmas.List.Sorted.{Contains-permutation, IsPermutation-reverse}
use Rattle.std.proofs.lemmas.Option.{same_Some, none-some, slice_get-get_or, slice_get_within}
use Rattle.rapid_text.specs.Operations.{is_write}
use Rattle.rapid_text.specs.declared.event.Event.{Event}
use Rattle.rapid_text.specs.declared.event.Op.{Op}
use Rattle.rapid_text.specs.declared.event.Op.TheVariants.{Read, Write, Acquire}
use Rattle.trace_rules.specs.Rules.{IsDisciplined, acquire_count, release_count, hold_count}
use Rattle.event_index.specs.Events.{op_at, thread_at, is_write_at}
use Rattle.event_index.specs.Lookups.{last_write, last_writer, section_end}
use Rattle.event_index.proofs.CallerLemmas.{op_event, passes_here, thread_event, thread_here, find-fails}
use Rattle.schedule.specs.Reordering.{IsCorrectReordering, events_at}
use Rattle.schedule.specs.Shows.{IsReady, Shows}
use Rattle.schedule.proofs.CallerLemmas.{Allows, IsCorrectReordering-take, Shows-sym}
use Rattle.must_order.specs.Held.{IsHeldFrom}
use Rattle.must_order.specs.Laws.{StandsBefore}
use Rattle.must_order.specs.MustBefore.{EndsFirst, IsMustBefore}
use Rattle.must_order.proofs.CallerLemmas.{IsMustBefore-in, EndsFirst-in, along_thread, base_of-ready, stands_at, member_before, before_member, must_law, open_in, reached}
use Rattle.must_order.proofs.ListLemmas.{Contains-from_take, find-reverse_member}
use Rattle.lock_waits.specs.Waits.{AreReady, ShowsDeadlock}
use Rattle.closed_order.specs.Closed.{AcquireTheSame, AreContradicted, NeverEnds, Precedes, base, must, through, overwritten, unseen, initial, enters, ends, lasts, WritesTheSame}
use Rattle.closed_order.specs.Laws.{ContradictedIsNeverReady, ContradictedIsNeverShown, ContradictedIsNoDeadlock, IsKept, PrecedesIsKept}
use Rattle.closed_order.proofs.StandsLemmas.{allowed, early, first_member, last_found, never_itself, one_first, second_member, stands_early, stands_through}

-- a member is one of the list that is read from its end
Contains-reverse : (xs : List ℕ) (x : ℕ) → Contains xs x → Contains (reverse xs) x
Contains-reverse xs x has = Contains-permutation xs (reverse xs) x (IsPermutation-reverse xs) has

-- a write passes the test of its variable
write_passes : (T : List Event) (v x : ℕ) → op_at T v ≡ Some (Write x) → is_write_at T x v ≡ true
write_passes T v x op =
    let found = op_event T v (Write x) op in
    passes_here (λ w. is_write x w.op) T v found.0 found.1 ∙ ap (is_write x) found.2 ∙ eq-eqb x x refl

module _ (T : List Event) (rules : IsDisciplined T) (P : List ℕ) (is : IsCorrectReordering T P) where
  -- a read and a write are two events
  two_events : (v r : ℕ) → WritesTheSame T v r → r ≢ v
  two_events v r w same =
      let one : Read w.variable ≡ Write w.variable = same_Some (Read w.variable) (Write w.variable) (sym w.reads ∙ ap (op_at T) same ∙ w.writes) in
      cc

  module _ (v w r : ℕ) (reads : WritesTheSame T v r) (writer : last_writer T r ≡ Some w) where
    abbrev x : ℕ
    x = reads.variable

    -- another write before the read comes before the write that it reads
    overwritten_in : v ≢ w → StandsBefore P v r → StandsBefore P v w
    overwritten_in other s =
        let at = reached T P r is (second_member P v r s) in
        let a = allowed T P is r at in
        let last = last_found (is_write_at T x) (take at.at P) w (a.writer x reads.reads ∙ writer) in
        let (i, lt, here) = early T P is r at v s in
        let passes : is_write_at T x v ≡ true = write_passes T v x reads.writes in
        let long : length (take at.at P) ≡ at.at = length-take-le at.at P (omega (arith, at.within)) in
        let v_at : slice_get P i ≡ Some v =
        slice_get-get_or P i v (omega (arith, lt, long, at.within)) ∙ ap Some (sym (get_or-take at.at P i v (omega (arith, lt, long))) ∙ here) in
        let w_at : slice_get P last.at ≡ Some w =
        slice_get-get_or P last.at w (omega (arith, last.within, long, at.within)) ∙ ap Some (sym (get_or-take at.at P last.at w (omega (arith, last.within, long))) ∙ last.here) in
        elim (cases_lt i last.at) [
          | inl low ↦ record { i = i; j = last.at; before = low; first = v_at; second = w_at }
          | inr high ↦ elim (cases_eq i last.at) [
            | inl one ↦ absurd (other (same_Some v w (sym v_at ∙ ap (slice_get P) one ∙ w_at)))
            | inr apart ↦
                let later : is_write_at T x (get_or (take at.at P) i w) ≡ false = last.no_later i (omega (arith, high, apart)) lt in
                let is_v : get_or (take at.at P) i w ≡ v = get_or_default (take at.at P) i w v lt ∙ here in
                absurd (true≢false (sym passes ∙ ap (is_write_at T x) (sym is_v) ∙ later))
          ]
        ]

    -- one after the write that it reads comes after the read
    unseen_in : StandsBefore P w v → Contains P r → StandsBefore P r v
    unseen_in s has =
        elim (one_first T P is r v (two_events v r reads) has (second_member P w v s)) [
          | inl first ↦ first
          | inr late ↦
              let other : v ≢ w = λ same. never_itself T P is v (subst (λ (e : ℕ). StandsBefore P e v) (sym same) s) in
              absurd (never_itself T P is v (stands_through T P is v w v (overwritten_in other late) s))
        ]

  -- what nobody wrote is read before each write
  initial_in : (v r : ℕ) → WritesTheSame T v r → last_writer T r ≡ None → Contains P v → Contains P r → StandsBefore P r v
  initial_in v r reads none has_v has_r =
      elim (one_first T P is r v (two_events v r reads) has_r has_v) [
        | inl first ↦ first
        | inr late ↦
            let at = reached T P r is has_r in
            let a = allowed T P is r at in
            let x : ℕ = reads.variable in
            let nothing : find (is_write_at T x) (reverse (take at.at P)) ≡ None = a.writer x reads.reads ∙ none in
            let fails : is_write_at T x v ≡ false = find-fails (is_write_at T x) (reverse (take at.at P)) v nothing (Contains-reverse (take at.at P) v (early T P is r at v late)) in
            absurd (true≢false (sym (write_passes T v x reads.writes) ∙ fails))
      ]

  -- what acquires a lock before an event of another thread's section comes before that section
  enters_in : (p q e l : ℕ) → op_at T p ≡ Some (Acquire l) → thread_at T p ≢ thread_at T q → IsHeldFrom T e l q → StandsBefore P p e → StandsBefore P p q
  enters_in p q e l takes apart held s =
      let t : ℕ = held.thread in
      let has_p : Contains P p = first_member P p e s in
      let has_q : Contains P q = IsMustBefore-in T rules q e (along_thread T rules q e t held.of_acquire held.of (omega (arith, held.earlier))) P is (second_member P p e s) in
      elim (one_first T P is p q (λ same. apart (ap (thread_at T) same)) has_p has_q) [
        | inl first ↦ first
        | inr late ↦
            let at = reached T P p is has_p in
            let a = allowed T P is p at in
            let Q : List ℕ = take at.at P in
            let order = at.before.thread_order t in
            let found = stands_at T Q t order in
            let low : q < found.0 = member_before T Q t q order held.of_acquire (early T P is p at q late) found.0 found.1 in
            let high : found.0 ≤ e =
            elim (cases_lt e found.0) [
              | inr le ↦ le
              | inl lt ↦
                  let in_q : Contains Q e = before_member T Q t e order held.of found.0 found.1 lt in
                  absurd (never_itself T P is e (stands_through T P is e p e (stands_early T P is p at e in_q) s))
            ] in
            let holds : 0 < hold_count (take found.0 T) t l = held.held found.0 low high in
            let even : acquire_count (events_at T Q) t l ≡ release_count (events_at T Q) t l =
            a.lock l t takes (λ same. apart (same ∙ sym held.of_acquire)) in
            absurd (omega (arith, holds, found.1.holds l, even))
      ]

  -- a section that began before an event of another one ends before it
  ends_in : (p r e : ℕ) → EndsFirst T p r e → StandsBefore P p e → StandsBefore P r e
  ends_in p r e first s =
      let at = reached T P e is (second_member P p e s) in
      stands_early T P is e at r (EndsFirst-in T (take at.at P) at.before e (allowed T P is e at) rules p r first (early T P is e at p s))

  -- a section whose end is not in the list is the last
  lasts_in : (p q : ℕ) → AcquireTheSame T p q → ((r : ℕ) → section_end T p ≡ Some r → ¬ Contains P r) → Contains P p → Contains P q → StandsBefore P q p
  lasts_in p q same no_end has_p has_q =
      elim (one_first T P is p q (λ one. same.threads (ap (thread_at T) one)) has_p has_q) [
        | inr late ↦ late
        | inl first ↦
            let at = reached T P q is has_q in
            let a = allowed T P is q at in
            let Q : List ℕ = take at.at P in
            let v = op_event T p (Acquire same.lock) same.first in
            let of : thread_at T p ≡ Some v.0.thread = thread_here T p v.0 v.1 in
            let holds : 0 < hold_count (events_at T Q) v.0.thread same.lock =
            open_in T rules Q at.before p same.lock v.0.thread same.first of (early T P is q at p first)
            (λ r found there. no_end r found (Contains-from_take P at.at r there)) in
            let even : acquire_count (events_at T Q) v.0.thread same.lock ≡ release_count (events_at T Q) v.0.thread same.lock =
            a.lock same.lock v.0.thread same.second (λ one. same.threads (of ∙ sym one)) in
            absurd (omega (arith, holds, even))
      ]

module _ (T : List Event) (rules : IsDisciplined T) (P es : List ℕ) (is : IsCorrectReordering T P) (all_ready : AreReady T P es) where
  ready : (a : ℕ) → Contains es a → IsReady T P a
  ready a has = All-contains (IsReady T P) es a all_ready has

  never_ends : (p r : ℕ) → NeverEnds T es p → section_end T p ≡ Some r → ¬ Contains P r
  never_ends p r never found there =
      let (a, has, must_be) = never r found in
      (ready a has).fresh (IsMustBefore-in T rules a r must_be P is there)

  through_in : (d m : ℕ) (y : Option ℕ) → IsKept P d (Some m) → IsKept P m y → IsKept P d y
  through_in d m None s has = first_member P d m (s has)
  through_in d m (Some e) s t = λ has. stands_through T P is d m e (s (first_member P m e (t has))) (t has)

  must_in : (d e : ℕ) → (d ≡ e) ⊎ StandsBefore P d e → d ≢ e → StandsBefore P d e
  must_in d e (inl same) other = absurd (other same)
  must_in d e (inr s) other = s

  pub kept : (d : ℕ) (y : Option ℕ) → Precedes T es d y → IsKept P d y
  kept _ _ (base a c has first) = base_of-ready T P is a (ready a has) c first
  kept _ _ (must d e must_be other) = λ has. must_in d e (must_law T P d e rules is has must_be) other
  kept _ _ (through d m y s t) = through_in d m y (kept d (Some m) s) (kept m y t)
  kept _ _ (overwritten v w r reads writer other s due) =
      λ has. overwritten_in T rules P is v w r reads writer other (kept v (Some r) s (kept r None due))
  kept _ _ (unseen v w r reads writer s due) =
      λ has. unseen_in T rules P is v w r reads writer (kept w (Some v) s has) (kept r None due)
  kept _ _ (initial v r reads none due) = λ has. initial_in T rules P is v r reads none has (kept r None due)
  kept _ _ (enters p q e l takes apart held s due) =
      λ has. enters_in T rules P is p q e l takes apart held (kept p (Some e) s (kept e None due))
  kept _ _ (ends p r e first s) = λ has. ends_in T rules P is p r e first (kept p (Some e) s has)
  kept _ _ (lasts p q same never due) =
      λ has. lasts_in T rules P is p q same (λ r found. never_ends p r never found) has (kept q None due)

  never_ready : ¬ AreContradicted T es
  never_ready contradicted =
      elim contradicted [
        | inl (e, s, due) ↦ never_itself T P is e (kept e (Some e) s (kept e None due))
        | inr (a, has, due) ↦ (ready a has).fresh (kept a None due)
      ]

pub kept_law : PrecedesIsKept
kept_law T P es d y rules is ready s = kept T rules P es is ready d y s

pub ready_law : ContradictedIsNeverReady
ready_law T P es rules is contradicted ready = never_ready T rules P es is ready contradicted

pub deadlock_law : ContradictedIsNoDeadlock
deadlock_law T P es rules is contradicted shows = never_ready T rules P es is shows.ready contradicted

both_ready : (T : List Event) (P : List ℕ) (a b : ℕ) → Shows T P a b → AreReady T P (a ∷ b ∷ [])
both_ready T P a b shows =
    All-cons (IsReady T P) a (b ∷ []) shows.first (All-cons (IsReady T P) b [] shows.second (All-nil (IsReady T P)))

pub shown_law : ContradictedIsNeverShown
shown_law T P a b rules is contradicted = (
  λ shows. never_ready T rules P (a ∷ b ∷ []) is (both_ready T P a b shows) contradicted,
  λ shows. never_ready T rules P (a ∷ b ∷ []) is (both_ready T P a b (Shows-sym T P b a shows)) contradicted,
)
