-- Which events may come next where a search stands.
use Rattle.std.proofs.Common.{◌≡◌, ◌≢◌, ◌↔◌, ℕ, ◌<◌, ◌≤◌, ◌==◌, ◌&&◌, not, Bool, true, false, List, length, get_or, count_by, Option, Some, None, slice_get, nat_eq, IsTrue, refl, sym, ap, ◌∙◌, subst, arith, inl, inr}
use Rattle.std.specs.Option.{is_none, option_eq}
use Rattle.std.proofs.lemmas.Bool.{cases_Bool, false≢true, true≢false, eqb-true, eq-eqb, ne_eqb, false_from_ne_true}
use Rattle.std.proofs.lemmas.Option.{same_Some, none-some, slice_get_within, slice_get-get_or}
use Rattle.rapid_text.specs.declared.event.Event.{Event}
use Rattle.rapid_text.specs.declared.event.Op.{Op}
use Rattle.rapid_text.specs.declared.event.Op.TheVariants.{Read, Acquire, Join}
use Rattle.trace_rules.specs.Rules.{IsDisciplined}
use Rattle.event_index.specs.Events.{op_at, thread_at, is_of_thread}
use Rattle.event_index.specs.Lookups.{events_of, fork_of, last_write, last_writer, place_of}
use Rattle.event_index.proofs.CallerLemmas.{events_of-place, one_thread, place_of-events_of, thread_event, thread_here}
use Rattle.must_order.specs.Layout.{IsCounted}
use Rattle.schedule.specs.Refusals.{is_in, is_fork_in, is_forked, next_of, refusal_of, same_option}
use Rattle.schedule.specs.Reordering.{IsCorrectReordering, StandsAfterThread}
use Rattle.schedule.specs.Shows.{is_ready, ready_by}
use Rattle.schedule.proofs.CallerLemmas.{Allows-enabled, IsEnabled-allowed, IsEnabled-none, is_in-member, is_in-true, refusal_of-enabled}
use Rattle.schedule.proofs.TestLemmas.{is_fork_in-member, is_fork_in-true, same_option-same, same_option-true}
use Rattle.witness_search.specs.Greedy.{may_take}
use Rattle.witness_search.specs.Searches.{is_marked, is_step}
use Rattle.witness_search.proofs.KeptLemmas.{event_there}
use Rattle.witness_search.specs.trace_order.Counting.{IsFree, IsHeldByOther, counts, marks_of}
use Rattle.witness_search.proofs.trace_order.HoldLemmas.{Contains-counted, IsCounted-member, FindsLockFree-not_held, not_held-free}
use Rattle.witness_search.proofs.trace_order.StandLemmas.{counted-counts, counts-counted, is_marked-counts}

module _ (T : List Event) (row : ℕ → ℕ) (P : List ℕ) (correct : IsCorrectReordering T P) (same_counts : (t : ℕ) → row t ≡ count_by (is_of_thread T t) P) where
  -- a test of the row is a test of the list
  pub in_counted : (f : ℕ) (b : Bool) → f < length T → (IsTrue b ↔ IsCounted T row f) → b ≡ is_in P f
  in_counted f b low tells =
      let v = event_there T f low in
      elim (cases_Bool b) [
        | inl so ↦ so ∙ sym (is_in-member P f (Contains-counted T row P correct same_counts f (tells.0 so)))
        | inr not_so ↦
            not_so
            ∙ sym (false_from_ne_true (is_in P f)
            (λ h. false≢true (sym not_so ∙ tells.1 (IsCounted-member T row P correct same_counts f v.0.thread (thread_here T f v.0 v.1) (is_in-true P f h)))))
      ]

  pub forked_some : (t f : ℕ) (b : Bool) → Some f ≡ fork_of T t → f < length T → (IsTrue b ↔ IsCounted T row f) → b ≡ is_forked T P t
  forked_some t f b forks low tells = in_counted f b low tells ∙ ap (is_fork_in P) forks

  -- the event at the place where its thread stands
  next_at : (e : ℕ) (v : Event) → slice_get T e ≡ Some v → place_of T e ≡ row v.thread → next_of T P v.thread ≡ Some e
  next_at e v found place = ap (slice_get (events_of T v.thread)) (sym (place ∙ same_counts v.thread)) ∙ events_of-place T e v found

  pub ready_here : (e : ℕ) (v : Event) (b : Bool) → slice_get T e ≡ Some v → place_of T e ≡ row v.thread → b ≡ is_forked T P v.thread → b ≡ is_ready T P e
  ready_here e v b found place forked =
      forked
      ∙ sym (ap (ready_by T P e) found
      ∙ ap (λ s. s && is_forked T P v.thread) (same_option-same (next_of T P v.thread) (Some e) (next_at e v found place)))

  pub not_ready : (e : ℕ) (v : Event) → slice_get T e ≡ Some v → (place_of T e ≡ row v.thread → ⊥) → false ≡ is_ready T P e
  not_ready e v found other =
      let fails : same_option (next_of T P v.thread) (Some e) ≡ false =
      false_from_ne_true (same_option (next_of T P v.thread) (Some e))
      (λ h.
      let next : next_of T P v.thread ≡ Some e = same_option-true (next_of T P v.thread) (Some e) h in
      let at = place_of-events_of T v.thread (count_by (is_of_thread T v.thread) P) e next in
      other (omega (arith, at.2, same_counts v.thread))) in
      sym (ap (ready_by T P e) found ∙ ap (λ s. s && is_forked T P v.thread) fails)

  -- a thread that has ended
  module _ (t : ℕ) (te : List ℕ) (are : te ≡ events_of T t) where
    pub ended_here : (b : Bool) → row t ≡ length te → b ≡ is_forked T P t → IsTrue b ↔ StandsAfterThread T P t
    ended_here b all forked = (
      λ so. record {
        events = λ d of.
            let v = thread_event T d t of in
            let low : place_of T d < length (events_of T v.0.thread) = slice_get_within (events_of T v.0.thread) (place_of T d) d (events_of-place T d v.0 v.1) in
            Contains-counted T row P correct same_counts d (t, of, omega (arith, low, all, ap length are, ap (λ u. length (events_of T u)) v.2));
        fork = is_fork_in-true P (fork_of T t) (sym forked ∙ so);
      },
      λ stands. forked ∙ is_fork_in-member P (fork_of T t) stands.fork,
    )

    pub not_ended : row t ≤ length (events_of T t) → (row t ≡ length te → ⊥) → IsTrue false ↔ StandsAfterThread T P t
    not_ended within other = (
      λ so. absurd (false≢true so),
      λ stands.
          let low : row t < length (events_of T t) = omega (arith, within, other, ap length are) in
          let d : ℕ = get_or (events_of T t) (row t) 0 in
          let at = place_of-events_of T t (row t) d (slice_get-get_or (events_of T t) (row t) 0 low) in
          let counted = IsCounted-member T row P correct same_counts d t at.1 (stands.events d at.1) in
          let one : counted.0 ≡ t = one_thread T d counted.0 t counted.1 at.1 in
          absurd (omega (arith, counted.2, at.2, ap row one)),
    )

  -- what an event does may be done
  module _ (e : ℕ) (op : Op) (does : op_at T e ≡ Some op) where
    -- by what it does alone
    other_op : (o : Op) → op_at T e ≡ Some o → op ≡ o
    other_op o also = same_Some op o (sym does ∙ also)

    pub free_read : (x : ℕ) → op ≡ Read x → (b : Bool) → (IsTrue b ↔ (last_write T x P ≡ last_writer T e)) → IsTrue b ↔ IsFree T P e
    free_read x is b tells = (
      λ so. record {
        writer = λ y reads. ap (λ z. last_write T z P) (one_read y x (sym (other_op (Read y) reads) ∙ is)) ∙ tells.0 so;
        lock = λ l u acquires. absurd (no_acquire l x (sym (other_op (Acquire l) acquires) ∙ is));
        ended = λ u joins. absurd (no_join u x (sym (other_op (Join u) joins) ∙ is));
      },
      λ free. tells.1 (free.writer x (does ∙ ap Some is)),
    )
      where
        one_read : (y x : ℕ) → Read y ≡ Read x → y ≡ x
        one_read y x h = cc

        no_acquire : (l x : ℕ) → Acquire l ≡ Read x → ⊥
        no_acquire l x h = cc

        no_join : (u x : ℕ) → Join u ≡ Read x → ⊥
        no_join u x h = cc

    pub free_acquire : IsDisciplined T → (l t : ℕ) → op ≡ Acquire l → thread_at T e ≡ Some t → (b : Bool) → (IsTrue b ↔ IsHeldByOther T row l t) → IsTrue (not b) ↔ IsFree T P e
    free_acquire rules l t is of b tells = (
      λ so. record {
        writer = λ y reads. absurd (no_read l y (sym (other_op (Read y) reads) ∙ is));
        lock =
            FindsLockFree-not_held T row P correct same_counts rules e l t (does ∙ ap Some is) of
            (λ held. true≢false (sym so ∙ ap not (tells.1 held)));
        ended = λ u joins. absurd (no_join u l (sym (other_op (Join u) joins) ∙ is));
      },
      λ free. elim (cases_Bool b) [
        | inl holds ↦ absurd (not_held-free T row P correct same_counts rules e l t (does ∙ ap Some is) of free.lock (tells.0 holds))
        | inr holds_not ↦ ap not holds_not
      ],
    )
      where
        no_read : (l y : ℕ) → Read y ≡ Acquire l → ⊥
        no_read l y h = cc

        no_join : (u l : ℕ) → Join u ≡ Acquire l → ⊥
        no_join u l h = cc

    pub free_join : (u : ℕ) → op ≡ Join u → (b : Bool) → (IsTrue b ↔ StandsAfterThread T P u) → IsTrue b ↔ IsFree T P e
    free_join u is b tells = (
      λ so. record {
        writer = λ y reads. absurd (no_read y u (sym (other_op (Read y) reads) ∙ is));
        lock = λ l w acquires. absurd (no_acquire l u (sym (other_op (Acquire l) acquires) ∙ is));
        ended = λ w joins. subst (StandsAfterThread T P) (sym (one_join w u (sym (other_op (Join w) joins) ∙ is))) (tells.0 so);
      },
      λ free. tells.1 (free.ended u (does ∙ ap Some is)),
    )
      where
        one_join : (w u : ℕ) → Join w ≡ Join u → w ≡ u
        one_join w u h = cc

        no_read : (y u : ℕ) → Read y ≡ Join u → ⊥
        no_read y u h = cc

        no_acquire : (l u : ℕ) → Acquire l ≡ Join u → ⊥
        no_acquire l u h = cc

    pub free_other : ((y : ℕ) → op ≢ Read y) → ((l : ℕ) → op ≢ Acquire l) → ((u : ℕ) → op ≢ Join u) → IsTrue true ↔ IsFree T P e
    free_other no_read no_acquire no_join = (
      λ so. record {
        writer = λ y reads. absurd (no_read y (other_op (Read y) reads));
        lock = λ l u acquires. absurd (no_acquire l (other_op (Acquire l) acquires));
        ended = λ u joins. absurd (no_join u (other_op (Join u) joins));
      },
      λ free. refl,
    )

  -- the next event of a thread may come next
  module _ (rules : IsDisciplined T) (e t : ℕ) (of : thread_at T e ≡ Some t) (next : slice_get (events_of T t) (row t) ≡ Some e) where
    next_is : next_of T P t ≡ Some e
    next_is = ap (slice_get (events_of T t)) (sym (same_counts t)) ∙ next

    pub refused_unforked : false ≡ is_forked T P t → IsTrue false ↔ (refusal_of T P e ≡ None)
    refused_unforked unforked = (
      λ so. absurd (false≢true so),
      λ none.
          let a = Allows-enabled T P e (IsEnabled-none T P e rules correct none) in
          absurd (false≢true (unforked ∙ is_fork_in-member P (fork_of T t) (λ f forks. a.forked t f of forks))),
    )

    pub refused_free : (b : Bool) → true ≡ is_forked T P t → (IsTrue b ↔ IsFree T P e) → IsTrue b ↔ (refusal_of T P e ≡ None)
    refused_free b forked tells = (
      λ so.
          let free = tells.0 so in
          let v = thread_event T e t of in
          refusal_of-enabled T P e
          (IsEnabled-allowed T P e correct
          (record {
            v = v.0;
            found = v.1;
            next = ap (next_of T P) v.2 ∙ next_is;
            forked = λ u f also forks.
                is_fork_in-true P (fork_of T t) (sym forked) f (ap (fork_of T) (one_thread T e t u of also) ∙ forks);
            writer = free.writer;
            lock = free.lock;
            ended = free.ended;
          })),
      λ none.
          let a = Allows-enabled T P e (IsEnabled-none T P e rules correct none) in
          tells.1 (record { writer = a.writer; lock = a.lock; ended = a.ended }),
    )

-- what the search takes
module _ (T : List Event) (a b : ℕ) (wanted : ℕ → ℕ) (P : List ℕ) (e : ℕ) where
  abbrev took : Bool
  took = is_step T a b (marks_of T wanted) P e

  pub step_unwanted : ¬ IsCounted T wanted e → false ≡ took
  step_unwanted other =
      sym (ap (λ m. m && may_take T a b P e) (is_marked-counts T wanted e ∙ false_from_ne_true (counts T wanted e) (λ h. other (counts-counted T wanted e h))))

  module _ (is : IsCounted T wanted e) where
    marked : is_marked (marks_of T wanted) e ≡ true
    marked = is_marked-counts T wanted e ∙ counted-counts T wanted e is

    took_is : took ≡ may_take T a b P e
    took_is = ap (λ m. m && may_take T a b P e) marked

    pub step_first : e ≡ a → false ≡ took
    step_first one = sym (took_is ∙ ap (λ x. not x && (not (e == b) && is_none (refusal_of T P e))) (eq-eqb e a one))

    module _ (apart : e ≢ a) where
      took_on : took ≡ (not (e == b) && is_none (refusal_of T P e))
      took_on = took_is ∙ ap (λ x. not x && (not (e == b) && is_none (refusal_of T P e))) (ne_eqb e a apart)

      pub step_second : e ≡ b → false ≡ took
      step_second one = sym (took_on ∙ ap (λ x. not x && is_none (refusal_of T P e)) (eq-eqb e b one))

      pub step_other : e ≢ b → (r : Bool) → (IsTrue r ↔ (refusal_of T P e ≡ None)) → r ≡ took
      step_other other r tells =
          let end : took ≡ is_none (refusal_of T P e) = took_on ∙ ap (λ x. not x && is_none (refusal_of T P e)) (ne_eqb e b other) in
          elim (cases_Bool r) [
            | inl so ↦ so ∙ sym (end ∙ ap is_none (tells.0 so))
            | inr not_so ↦ not_so ∙ sym (end ∙ some_none (refusal_of T P e) (λ none. false≢true (sym not_so ∙ tells.1 none)))
          ]
        where
          some_none : {X : Type 0} (o : Option X) → (o ≡ None → ⊥) → is_none o ≡ false
          some_none None h = absurd (h refl)
          some_none (Some x) h = refl

-- whether two options are one
pub same_options : (a b : Option ℕ) (x : Bool) → x ≡ option_eq nat_eq a b → IsTrue x ↔ (a ≡ b)
same_options None None x is = (λ so. refl, λ one. is)
same_options None (Some b) x is = (λ so. absurd (false≢true (sym is ∙ so)), λ one. absurd (none-some b one))
same_options (Some a) None x is = (λ so. absurd (false≢true (sym is ∙ so)), λ one. absurd (none-some a (sym one)))
same_options (Some a) (Some b) x is = (
  λ so. ap Some (eqb-true a b (sym is ∙ so)),
  λ one. is ∙ eq-eqb a b (same_Some a b one),
)
