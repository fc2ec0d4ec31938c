-- What the requests require is in each correct reordering after which they are next.
use Rattle.std.proofs.Common.{◌≡◌, ℕ, ◌<◌, List, Contains, Some, sym, ◌∙◌, subst, arith, inl, inr}
use Rattle.std.proofs.lemmas.Bool.{cases_Bool, false≢true}
use Rattle.std.proofs.lemmas.List.Elements.{All-contains}
use Rattle.std.proofs.lemmas.Option.{same_Some, none-some}
use Rattle.rapid_text.specs.declared.event.Event.{Event}
use Rattle.trace_rules.specs.Rules.{IsDisciplined, hold_count}
use Rattle.event_index.specs.Lookups.{section_end}
use Rattle.schedule.specs.Refusals.{is_in}
use Rattle.schedule.specs.Reordering.{IsCorrectReordering, events_at}
use Rattle.schedule.specs.Shows.{IsReady}
use Rattle.schedule.proofs.CallerLemmas.{is_in-true, is_in-member}
use Rattle.must_order.proofs.CallerLemmas.{IsMustBefore-in, base_of-ready, hold_count-ready, one_holder_in, open_in}
use Rattle.lock_waits.specs.Laws.{RequiredIsThere, RefutedIsNeverShown}
use Rattle.lock_waits.specs.Required.{IsForeign, IsRequired, base, before, ended, IsUnended}
use Rattle.lock_waits.specs.Waits.{AreReady}

module _ (T : List Event) (rules : IsDisciplined T) (P es : List ℕ) (is : IsCorrectReordering T P) (all_ready : AreReady T P es) where
  ready : (e : ℕ) → Contains es e → IsReady T P e
  ready e has = All-contains (IsReady T P) es e all_ready has

  -- two threads would hold the lock
  must_end : (e p : ℕ) → Contains es e → IsForeign T e p → Contains P p → ¬ ((r : ℕ) → section_end T p ≡ Some r → ¬ Contains P r)
  must_end e p has f there no_end =
      let opened : 0 < hold_count (events_at T P) f.owner f.lock = open_in T rules P is p f.lock f.owner f.acquires f.of_owner there no_end in
      let held = hold_count-ready T P is e (ready e has) f.thread f.lock f.of_thread in
      f.other (one_holder_in T P is f.owner f.thread f.lock opened (omega (arith, held, f.holds)))

  pub required_in : (d : ℕ) → IsRequired T es d → Contains P d
  required_in _ (base e c has first) = base_of-ready T P is e (ready e has) c first
  required_in _ (before d e required must) = IsMustBefore-in T rules d e must P is (required_in e required)
  required_in _ (ended e p r has required f ends) =
      elim (cases_Bool (is_in P r)) [
        | inl there ↦ is_in-true P r there
        | inr missing ↦
            absurd
            (must_end e p has f (required_in p required)
            (λ k also it.
            let one : k ≡ r = same_Some k r (sym also ∙ ends) in
            false≢true (sym missing ∙ is_in-member P r (subst (Contains P) one it))))
      ]

  pub never_unended : ¬ IsUnended T es
  never_unended u =
      must_end u.request u.start u.has u.foreign (required_in u.start u.required)
      (λ r ends there. none-some r (sym u.never_ends ∙ ends))

  pub never_own : (e : ℕ) → Contains es e → ¬ IsRequired T es e
  never_own e has required = (ready e has).fresh (required_in e required)

pub required_law : RequiredIsThere
required_law T P es d rules is ready required = required_in T rules P es is ready d required

pub refuted_law : RefutedIsNeverShown
refuted_law T P es rules is refuted shows =
    elim refuted [
      | inl (e, has, required) ↦ never_own T rules P es is shows.ready e has required
      | inr unended ↦ never_unended T rules P es is shows.ready unended
    ]
