-- What the rules say of a list of events, for the crates above: a list keeps them exactly where no
-- event breaks one; where there is a first breach; and who holds a lock.
use Rattle.std.proofs.Common.{◌≡◌, ◌≢◌, ℕ, zero, suc, ◌+◌, ◌-◌, ◌<◌, ◌≤◌, ◌==◌, Bool, true, false, ◌||◌, cond, List, [], ◌∷◌, ◌++◌, length, take, get_or, slice_get, Option, Some, None, refl, sym, ap, ◌∙◌, subst, arith, add-one, eq-eqb, ne_eqb, inl, inr}
use Rattle.std.specs.List.{list_any}
use Rattle.std.specs.Prelude.{option_map}
use Rattle.std.proofs.lemmas.Bool.{cases_Bool, cases_lt, or_left, or_right, or_from, true≢false, false_from_ne_true, eqb-false}
use Rattle.std.proofs.lemmas.Option.{none-some, same_Some, slice_get_within, slice_get-get_or, get_or_from_slice_get}
use Rattle.std.proofs.lemmas.List.{take_all, get_or-take, length-take}
use Rattle.std.proofs.lemmas.List.Folds.{list_any_at, list_any_none}
use Rattle.rapid_text.proofs.CallerLemmas.{nothing_found, first_found}
use Rattle.rapid_text.specs.Operations.{is_acquire, is_release, is_fork, is_join}
use Rattle.rapid_text.specs.declared.event.Event.{Event}
use Rattle.rapid_text.specs.declared.event.Op.{Op}
use Rattle.rapid_text.specs.declared.event.Op.TheVariants.{Read, Write, Acquire, Release, Fork, Join}
use Rattle.trace_rules.specs.Rules.{IsDisciplined, IsFirstBreach, refusal_at, acquire_count, release_count, hold_count, breach_of_op, breach_at, first_breach}
use Rattle.trace_rules.specs.Tables.{IsHoldOf}
use Rattle.trace_rules.specs.declared.hold.Hold.{Hold}
use Rattle.trace_rules.specs.declared.refusal.RuleCause.{RuleCause}
use Rattle.trace_rules.specs.declared.refusal.RuleCause.TheVariants.{ReleaseNotHeld, AcquireHeld, ForkTwice, ForkLate, OwnThread, AfterJoin}
use Rattle.trace_rules.specs.declared.refusal.RuleRefusal.{RuleRefusal}
-- an operation that passes a test is of that kind
pub use Rattle.rapid_text.proofs.CallerLemmas.{read-from_test, write-from_test, acquire-from_test, release-from_test, fork-from_test, join-from_test}
use Rattle.trace_rules.proofs.Counts.{is_held_by_another, is_held_by_another-false, hold_count-other}
use Rattle.trace_rules.proofs.HoldLemmas.{owner-from_depth, depth-above, IsHoldOf-acquire, IsHoldOf-release, IsHoldOf-last, IsHoldOf-other, IsOpenFor-from_none, owner-from_none}
use Rattle.trace_rules.proofs.TableLemmas.{take-event, cond-from_none, breach_at-event}

-- the refusal for an event with this breach
abbrev refused_for : ℕ → Option RuleCause → Option RuleRefusal
refused_for i breach = option_map (λ why. record { event = i; why = why }) breach

-- no event breaks a rule
abbrev pub HasNoBreach : List Event → Type 0
HasNoBreach T = (j : ℕ) → j < length T → breach_at T j ≡ None

module _ (T : List Event) where
  -- an event that is the first to break a rule is the first breach
  pub is_first-first_breach : (r : RuleRefusal) → IsFirstBreach T r → first_breach T ≡ Some r
  unfolding first_breach
  is_first-first_breach r is =
      first_found (refusal_at T) 0 (length T) r (record {
        place = r.event;
        low = omega arith;
        high = omega (arith, is.within);
        here = ap (refused_for r.event) is.breach;
        before = λ j low less. ap (refused_for j) (is.before j less);
      })

  pub first_breach-from_none : HasNoBreach T → first_breach T ≡ None
  unfolding first_breach
  first_breach-from_none none =
      ap (λ rs. slice_get rs 0) (nothing_found (refusal_at T) 0 (length T) (λ j low less. ap (refused_for j) (none j (omega arith))))

module _ (p : Event → Bool) where
  -- an event that passes stands among the first j where it stands below j
  list_any_before : (T : List Event) (i j : ℕ) (d : Event) → i < j → slice_get T i ≡ Some d → p d ≡ true → list_any p (take j T) ≡ true
  list_any_before T i j d less at passes =
      let low : i < length (take j T) = omega (arith, less, slice_get_within T i d at, length-take j T) in
      list_any_at p (take j T) i d low (rw (get_or-take j T i d less, get_or_from_slice_get T i d d at) passes)

  -- where no event below j passes
  none_before : (T : List Event) (j : ℕ) → ((i : ℕ) (d : Event) → i < j → slice_get T i ≡ Some d → p d ≡ false) → list_any p (take j T) ≡ false
  none_before T j none =
      list_any_none p (take j T) (λ k d low.
      let less : (k < j) × (k < length T) = (omega (arith, low, length-take j T), omega (arith, low, length-take j T)) in
      rw (get_or-take j T k d less.0) (none k (get_or T k d) less.0 (slice_get-get_or T k d less.1)))

-- what a fork that breaks no rule says
fork_parts : (es : List Event) (t u : ℕ) → breach_of_op es t (Fork u) ≡ None
    → (u ≢ t) × (list_any (λ e. is_fork u e.op) es ≡ false) × (list_any (λ e. e.thread == u || is_join u e.op) es ≡ false)
fork_parts es t u is =
    let own = cond-from_none (u == t) (cond (list_any (λ e. is_fork u e.op) es) (Some ForkTwice) (cond (list_any (λ e. e.thread == u || is_join u e.op) es) (Some ForkLate) None)) OwnThread is in
    let twice = cond-from_none (list_any (λ e. is_fork u e.op) es) (cond (list_any (λ e. e.thread == u || is_join u e.op) es) (Some ForkLate) None) ForkTwice own.1 in
    let late = cond-from_none (list_any (λ e. e.thread == u || is_join u e.op) es) None ForkLate twice.1 in
    (eqb-false u t own.0, twice.0, late.0)

module _ (T : List Event) (none : HasNoBreach T) (j : ℕ) (e : Event) (here : slice_get T j ≡ Some e) where
  event_parts : (list_any (λ d. is_join e.thread d.op) (take j T) ≡ false) × (breach_of_op (take j T) e.thread e.op ≡ None)
  event_parts =
      cond-from_none (list_any (λ d. is_join e.thread d.op) (take j T)) (breach_of_op (take j T) e.thread e.op) AfterJoin (sym (breach_at-event T j e here) ∙ none j (slice_get_within T j e here))

  op_breach : (op : Op) → e.op ≡ op → breach_of_op (take j T) e.thread op ≡ None
  op_breach op is = ap (breach_of_op (take j T) e.thread) (sym is) ∙ event_parts.1

-- where no event breaks a rule, the list keeps the rules
pub IsDisciplined-from_none : (T : List Event) → HasNoBreach T → IsDisciplined T
IsDisciplined-from_none T none =
    let kept = λ (j : ℕ) (e : Event) (here : slice_get T j ≡ Some e) (op : Op) (does : e.op ≡ op). op_breach T none j e here op does in
    let parts = λ (j u : ℕ) (e : Event) (here : slice_get T j ≡ Some e) (fork : e.op ≡ Fork u). fork_parts (take j T) e.thread u (kept j e here (Fork u) fork) in
    record {
      no_event_after_join = λ i j d e less there here is.
          let joined = list_any_before (λ d. is_join e.thread d.op) T i j d less there (ap (is_join e.thread) is ∙ eq-eqb e.thread e.thread refl) in
          true≢false (sym joined ∙ (event_parts T none j e here).0);
      no_own_fork = λ j e here is. none-some OwnThread (sym (rw (eq-eqb e.thread e.thread refl) at (kept j e here (Fork e.thread) is)));
      no_own_join = λ j e here is. none-some OwnThread (sym (rw (eq-eqb e.thread e.thread refl) at (kept j e here (Join e.thread) is)));
      no_second_fork = λ i j u d e less there here fork is.
          let forked = list_any_before (λ e. is_fork u e.op) T i j d less there (ap (is_fork u) is ∙ eq-eqb u u refl) in
          true≢false (sym forked ∙ (parts j u e here fork).1);
      no_event_before_fork = λ i j u d e less there here fork is.
          let ran = or_left (d.thread == u) (is_join u d.op) (eq-eqb d.thread u is) in
          true≢false (sym (list_any_before (λ e. e.thread == u || is_join u e.op) T i j d less there ran) ∙ (parts j u e here fork).2);
      no_join_before_fork = λ i j u d e less there here fork is.
          let joined = or_right (d.thread == u) (is_join u d.op) (ap (is_join u) is ∙ eq-eqb u u refl) in
          true≢false (sym (list_any_before (λ e. e.thread == u || is_join u e.op) T i j d less there joined) ∙ (parts j u e here fork).2);
      acquires_free = λ j l u e here is other.
          let free = cond-from_none (is_held_by_another (take j T) e.thread l) None AcquireHeld (kept j e here (Acquire l) is) in
          hold_count-other (take j T) e.thread l u free.0 other;
      releases_held = λ j l e here is.
          let held = cond-from_none (hold_count (take j T) e.thread l == 0) None ReleaseNotHeld (kept j e here (Release l) is) in
          let above : hold_count (take j T) e.thread l ≢ 0 = eqb-false (hold_count (take j T) e.thread l) 0 held.0 in
          omega arith;
    }

module _ (T : List Event) (is : IsDisciplined T) (j : ℕ) (e : Event) (here : slice_get T j ≡ Some e) where
  running : list_any (λ d. is_join e.thread d.op) (take j T) ≡ false
  running = none_before (λ d. is_join e.thread d.op) T j (λ i d less there. false_from_ne_true (is_join e.thread d.op) (λ passes. is.no_event_after_join i j d e less there here (join-from_test e.thread d.op passes)))

  op_keeps : (op : Op) → e.op ≡ op → breach_of_op (take j T) e.thread op ≡ None
  op_keeps (Read x) does = refl
  op_keeps (Write x) does = refl
  op_keeps (Acquire l) does = ap (λ b. cond b (Some AcquireHeld) None) (is_held_by_another-false (take j T) e.thread l (λ u other. is.acquires_free j l u e here does other))
  op_keeps (Release l) does =
      let held : 0 < hold_count (take j T) e.thread l = is.releases_held j l e here does in
      ap (λ b. cond b (Some ReleaseNotHeld) None) (ne_eqb (hold_count (take j T) e.thread l) 0 (λ gone. omega arith))
  op_keeps (Fork u) does =
      let own = ne_eqb u e.thread (λ own. is.no_own_fork j e here (does ∙ ap Fork own)) in
      let twice =
      none_before (λ d. is_fork u d.op) T j (λ i d less there. false_from_ne_true (is_fork u d.op) (λ passes. is.no_second_fork i j u d e less there here does (fork-from_test u d.op passes))) in
      let late =
      none_before (λ d. d.thread == u || is_join u d.op) T j (λ i d less there. or_from (d.thread == u) (is_join u d.op)
      (ne_eqb d.thread u (is.no_event_before_fork i j u d e less there here does))
      (false_from_ne_true (is_join u d.op) (λ passes. is.no_join_before_fork i j u d e less there here does (join-from_test u d.op passes)))) in
      rw (own, twice, late) refl
  op_keeps (Join u) does = ap (λ b. cond b (Some OwnThread) None) (ne_eqb u e.thread (λ own. is.no_own_join j e here (does ∙ ap Join own)))

  event_keeps : breach_at T j ≡ None
  event_keeps = breach_at-event T j e here ∙ ap (λ b. cond b (Some AfterJoin) (breach_of_op (take j T) e.thread e.op)) running ∙ op_keeps e.op refl

-- in a list that keeps the rules, no event breaks one
pub none-from_IsDisciplined : (T : List Event) → IsDisciplined T → HasNoBreach T
none-from_IsDisciplined T is j within = event_keeps T is j _ (slice_get-get_or T j (record { thread = 0; op = Read 0 }) within)

-- a list with a breach does not keep the rules
pub undisciplined-from_breach : (T : List Event) (j : ℕ) (why : RuleCause) → j < length T → breach_at T j ≡ Some why → ¬ IsDisciplined T
undisciplined-from_breach T j why within breach is = none-some why (sym (none-from_IsDisciplined T is j within) ∙ breach)

-- The holds of a lock after events that break no rule: some table's hold says them.
module _ (T : List Event) (none : HasNoBreach T) (l : ℕ) where
  unheld : (h : Hold) × IsHoldOf [] l h
  unheld = (record { owner = None; depth = 0 }, record { counts = λ t. refl; depth = refl })

  -- past an event e
  hold_after : (j : ℕ) (e : Event) (h : Hold) → slice_get T j ≡ Some e → IsHoldOf (take j T) l h → (after : Hold) × IsHoldOf (take j T ++ e ∷ []) l after
  hold_after j e h here is =
      elim (cases_Bool (is_acquire l e.op)) [
        | inl takes ↦
            let op : e.op ≡ Acquire l = acquire-from_test l e.op takes in
            (record { owner = Some e.thread; depth = h.depth + 1 }, IsHoldOf-acquire (take j T) l e h is op (IsOpenFor-from_none (take j T) l h is e.thread h.owner refl (op_breach T none j e here (Acquire l) op)))
        | inr keeps ↦ elim (cases_Bool (is_release l e.op)) [
          | inl lets ↦
              let op : e.op ≡ Release l = release-from_test l e.op lets in
              let owned = owner-from_none (take j T) l h is e.thread (op_breach T none j e here (Release l) op) in
              elim (cases_lt 1 h.depth) [
                | inl deep ↦ (record { owner = Some e.thread; depth = h.depth - 1 }, IsHoldOf-release (take j T) l e h is op owned deep)
                | inr last ↦
                    let one : h.depth ≡ 1 = omega (arith, last, depth-above h.owner h.depth e.thread is.depth owned) in
                    (unheld.0, IsHoldOf-last (take j T) l e h is op owned unheld.0 one unheld.1)
              ]
          | inr stays ↦ (h, IsHoldOf-other (take j T) l e h is keeps stays)
        ]
      ]

  -- past the end nothing is added
  hold_up_to : (j : ℕ) → (h : Hold) × IsHoldOf (take j T) l h
  hold_up_to zero = unheld
  hold_up_to (suc j) =
      let (h, is) = hold_up_to j in
      rw (← add-one j) (elim (cases_lt j (length T)) [
        | inl low ↦
            let here = slice_get-get_or T j (record { thread = 0; op = Read 0 }) low in
            let (after, next) = hold_after j _ h here is in
            (after, rw (take-event T j _ here) next)
        | inr long ↦ (h, subst (λ es. IsHoldOf es l h) (take_all j T long ∙ sym (take_all (j + 1) T (omega (arith, long)))) is)
      ])

module _ (T : List Event) (is : IsDisciplined T) (j t l : ℕ) where
  -- in a trace that keeps the rules, no thread lets a lock go more often than it took it
  pub release_count-le : release_count (take j T) t l ≤ acquire_count (take j T) t l
  release_count-le =
      let held = hold_up_to T (none-from_IsDisciplined T is) l j in
      omega (arith, held.1.counts t)

  -- at most one thread holds a lock
  pub one_holder : (u : ℕ) → 0 < hold_count (take j T) t l → 0 < hold_count (take j T) u l → t ≡ u
  one_holder u holds also =
      let held = hold_up_to T (none-from_IsDisciplined T is) l j in
      let mine = owner-from_depth held.0.owner held.0.depth t (omega (arith, held.1.counts t)) in
      let its = owner-from_depth held.0.owner held.0.depth u (omega (arith, held.1.counts u)) in
      same_Some t u (sym mine ∙ its)
