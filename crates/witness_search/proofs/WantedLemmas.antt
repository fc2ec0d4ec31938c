-- The wanted events: what is looked for at each of them leads to all of them. `T` is the events of an
-- trace that keeps the rules.
use Rattle.std.proofs.Common.{◌≡◌, ℕ, zero, suc, ◌+◌, ◌-◌, ◌<◌, ◌≤◌, Bool, List, [], length, get_or, Contains, Option, Some, None, option_map, slice_get, sym, refl, ap, ◌∙◌, arith, inl, inr}
use Rattle.std.proofs.lemmas.Bool.{cases_eq}
use Rattle.std.proofs.lemmas.List.Elements.{All-get_or, Contains-get_or}
use Rattle.std.proofs.lemmas.List.{get_or_default}
use Rattle.std.proofs.lemmas.Option.{same_Some, none-some, slice_get_within, get_or_from_slice_get}
use Rattle.rapid_text.specs.declared.event.Event.{Event}
use Rattle.rapid_text.specs.declared.event.Op.{Op}
use Rattle.rapid_text.specs.declared.event.Op.TheVariants.{Read, Acquire, Fork, Join}
use Rattle.trace_rules.specs.Rules.{IsDisciplined}
use Rattle.event_index.specs.Events.{op_at, thread_at}
use Rattle.event_index.specs.Lookups.{events_of, fork_of, or_else, base_of, section_by, section_of}
use Rattle.event_index.proofs.CallerLemmas.{base_of-earlier, base_of-within, last_writer-some, section_end-later, fork_of-some, fork_of-op, events_of-thread}
use Rattle.shb_clocks.proofs.CallerLemmas.{base-after, base-after_fork, end_of_thread-event, end_of_thread-fork, thread_event, thread_within}
use Rattle.schedule.proofs.CallerLemmas.{is_in-true, is_in-member}
use Rattle.witness_search.specs.Searches.{end_of, partner_by, IsSought, Adds, AreFound, IsClosedUpTo, IsBegun, TellWanted}
use Rattle.witness_search.specs.Wanted.{Asks, for_base, for_writer, for_thread, for_fork, for_release, IsWanted, base_of_first, base_of_second, asked_for}
use Rattle.witness_search.proofs.FoundLemmas.{Contains-prefix, get_or-prefix}
use Rattle.witness_search.proofs.RisingLemmas.{no_member}

-- The end of a joined thread is asked for.
end_asks : (T : List Event) (e u d : ℕ) → op_at T e ≡ Some (Join u) → (o : Option ℕ) → slice_get (events_of T u) (length (events_of T u) - 1) ≡ o
    → or_else o (fork_of T u) ≡ Some d → Asks T e d
end_asks T e u d joins None at is = for_fork u joins is
end_asks T e u d joins (Some x) at is =
    let last = length (events_of T u) - 1 in
    let here : get_or (events_of T u) last 0 ≡ x = get_or_from_slice_get (events_of T u) last x 0 at in
    let within = slice_get_within (events_of T u) last x at in
    for_thread u joins (rw (← here ∙ same_Some x d is) (All-get_or (λ m. thread_at T m ≡ Some u) (events_of T u) last 0 within (events_of-thread T u)))

by_op : (T : List Event) (e d : ℕ) (o : Option Op) → op_at T e ≡ o → partner_by T e o ≡ Some d → Asks T e d
by_op T e d (Some (Read x)) at is = for_writer is
by_op T e d (Some (Acquire l)) at is = for_release is
by_op T e d (Some (Join u)) at is = end_asks T e u d at (slice_get (events_of T u) (length (events_of T u) - 1)) refl is
by_op T e d o at is = absurd (none-some d is)

-- what is looked for is asked for
pub Asks-sought : (T : List Event) (e d : ℕ) → IsSought T e d → Asks T e d
Asks-sought T e d (inl base) = for_base base
Asks-sought T e d (inr partner) = by_op T e d (op_at T e) refl partner

-- only an acquire has a section
section_by-acquires : (T : List Event) (i e t d : ℕ) (op : Op) → section_by T i e t op ≡ Some d → (l : ℕ) × (op ≡ Acquire l)
section_by-acquires T i e t d (Acquire l) is = (l, refl)
section_by-acquires T i e t d op is = absurd (none-some d is)

section_acquires : (T : List Event) (e d : ℕ) (o : Option Event) → section_of T (length T) e o ≡ Some d → (l : ℕ) × (option_map (λ (v : Event). v.op) o ≡ Some (Acquire l))
section_acquires T e d None is = absurd (none-some d is)
section_acquires T e d (Some v) is = let found = section_by-acquires T (length T) e v.thread d v.op is in (found.0, ap Some found.1)

-- a wanted event is one of the trace
Asks-within : (T : List Event) → IsDisciplined T → (e d : ℕ) → e < length T → Asks T e d → d < length T
Asks-within T rules e d within (for_base base) = base_of-within T rules e d base
Asks-within T rules e d within (for_writer writer) = omega (arith, within, (last_writer-some T e d writer).2.earlier)
Asks-within T rules e d within (for_thread u joins of) = thread_within T d u of
Asks-within T rules e d within (for_fork u joins forks) = (fork_of-some T u d forks).0
Asks-within T rules e d within (for_release release) = (section_end-later T e d release).1

pub IsWanted-within : (T : List Event) → IsDisciplined T → (a b e : ℕ) → IsWanted T a b e → e < length T
IsWanted-within T rules a b e (base_of_first _ base) = base_of-within T rules a e base
IsWanted-within T rules a b e (base_of_second _ base) = base_of-within T rules b e base
IsWanted-within T rules a b e (asked_for d _ wanted asks) = Asks-within T rules d e (IsWanted-within T rules a b d wanted) asks

module _ (T : List Event) (rules : IsDisciplined T) (P : List ℕ) (closed : (e d : ℕ) → Contains P e → IsSought T e d → Contains P d) where
  -- with an event of a thread all earlier ones of the thread are there
  earlier_within : (n s m u : ℕ) → s < n → Contains P s → thread_at T s ≡ Some u → thread_at T m ≡ Some u → m ≤ s → Contains P m
  earlier_within zero s m u below has of also le = absurd (omega (arith, below))
  earlier_within (suc n) s m u below has of also le =
      elim (cases_eq m s) [
        | inl same ↦ rw same has
        | inr other ↦
            let v = thread_event T s u of in
            let (c, base, same, low) = base-after T s v.0 v.1 m (omega (arith, le, other)) (also ∙ ap Some (sym v.2)) in
            earlier_within n c m u (omega (arith, below, base_of-earlier T rules s c base)) (closed s c has (inl base)) (same ∙ ap Some v.2) also low
      ]

  -- and the fork of the thread
  fork_within : (n s f u : ℕ) → s < n → Contains P s → thread_at T s ≡ Some u → op_at T f ≡ Some (Fork u) → Contains P f
  fork_within zero s f u below has of forks = absurd (omega (arith, below))
  fork_within (suc n) s f u below has of forks =
      let v = thread_event T s u of in
      let (c, base, either) = base-after_fork T s v.0 v.1 rules f (forks ∙ ap (λ t. Some (Fork t)) (sym v.2)) in
      let there = closed s c has (inl base) in
      elim either [
        | inl of_thread ↦ fork_within n c f u (omega (arith, below, base_of-earlier T rules s c base)) there (of_thread ∙ ap Some v.2) forks
        | inr is ↦ rw is there
      ]

  joined_within : (e u s : ℕ) → Contains P e → op_at T e ≡ Some (Join u) → end_of T u ≡ Some s → Contains P s
  joined_within e u s has joins end = closed e s has (inr (ap (partner_by T e) joins ∙ end))

  -- a list that is closed under what is looked for is closed under what is asked for
  Contains-asked : (e d : ℕ) → Contains P e → Asks T e d → Contains P d
  Contains-asked e d has (for_base base) = closed e d has (inl base)
  Contains-asked e d has (for_writer writer) = closed e d has (inr (ap (partner_by T e) (last_writer-some T e d writer).1 ∙ writer))
  Contains-asked e d has (for_release release) = closed e d has (inr (ap (partner_by T e) (section_acquires T e d (slice_get T e) release).1 ∙ release))
  Contains-asked e d has (for_thread u joins of) =
      let (s, end, its, late) = end_of_thread-event T u d of in
      earlier_within (s + 1) s d u (omega arith) (joined_within e u s has joins end) its of late
  Contains-asked e d has (for_fork u joins forks) =
      let op = fork_of-op T u d forks in
      let (s, end, either) = end_of_thread-fork T rules u d op in
      let there = joined_within e u s has joins end in
      elim either [ inl of ↦ fork_within (s + 1) s d u (omega arith) there of op | inr is ↦ rw is there ]

  -- so with the two bases it has all that is wanted
  Contains-wanted : (a b : ℕ) → IsBegun T a b P → (e : ℕ) → IsWanted T a b e → Contains P e
  Contains-wanted a b begun e (base_of_first _ base) = begun.first e base
  Contains-wanted a b begun e (base_of_second _ base) = begun.second e base
  Contains-wanted a b begun e (asked_for d _ wanted asks) = Contains-asked d e (Contains-wanted a b begun d wanted) asks

-- at each event what is looked for there is added
module _ (T : List Event) (a b at : ℕ) (P Q : List ℕ) (lt : at < length P) (begun : IsBegun T a b P) (closed : IsClosedUpTo T at P) (adds : Adds (IsSought T (get_or P at 0)) P Q) where
  pub IsBegun-sought : IsBegun T a b Q
  IsBegun-sought = record {
    first = λ e base. Contains-prefix P Q adds.begins e (begun.first e base);
    second = λ e base. Contains-prefix P Q adds.begins e (begun.second e base);
    wanted = λ e has. elim (adds.only e has) [
      | inl old ↦ begun.wanted e old
      | inr sought ↦ asked_for (get_or P at 0) e (begun.wanted (get_or P at 0) (Contains-get_or P at 0 lt)) (Asks-sought T (get_or P at 0) e sought)
    ];
  }

  pub IsClosedUpTo-sought : IsClosedUpTo T (at + 1) Q
  IsClosedUpTo-sought i d below sought =
      elim (cases_eq i at) [
        | inl same ↦
            let here : get_or Q i 0 ≡ get_or P at 0 = ap (λ k. get_or Q k 0) same ∙ get_or-prefix P Q adds.begins at 0 lt in
            adds.has d (rw (← here) sought)
        | inr other ↦
            let early : i < at = omega (arith, below, other) in
            let here = get_or-prefix P Q adds.begins i 0 (omega (arith, early, lt)) in
            Contains-prefix P Q adds.begins d (closed i d early (rw (← here) sought))
      ]

-- what was looked for at all events is closed, so the marks are those of the wanted events
pub TellWanted-end : (T : List Event) → IsDisciplined T → (a b at : ℕ) (P : List ℕ) (marks : List Bool)
    → length P ≤ at → length marks ≡ length T → AreFound P marks → IsBegun T a b P → IsClosedUpTo T at P → TellWanted T a b marks
TellWanted-end T rules a b at P marks all len found begun closed = record {
  len = len;
  marked = λ e. (
    λ marked. begun.wanted e (is_in-true P e (sym (found.marked e) ∙ marked)),
    λ wanted. found.marked e ∙ is_in-member P e (Contains-wanted T rules P whole a b begun e wanted),
  );
}
  where
    whole : (e d : ℕ) → Contains P e → IsSought T e d → Contains P d
    whole e d (k, lt, is) sought =
        let here : get_or P k 0 ≡ e = get_or_default P k 0 e lt ∙ is in
        closed k d (omega (arith, lt, all)) (rw here sought)

-- the two bases are taken in first
pub IsBegun-bases : (T : List Event) (a b : ℕ) (P Q : List ℕ) → Adds (λ e. base_of T a ≡ Some e) [] P → Adds (λ e. base_of T b ≡ Some e) P Q → IsBegun T a b Q
IsBegun-bases T a b P Q first second = record {
  first = λ e base. Contains-prefix P Q second.begins e (first.has e base);
  second = second.has;
  wanted = λ e has. elim (second.only e has) [
    | inl earlier ↦ elim (first.only e earlier) [ inl none ↦ absurd (no_member e none) | inr base ↦ base_of_first e base ]
    | inr base ↦ base_of_second e base
  ];
}
