-- Events that wait for nobody.
use Rattle.std.proofs.Common.{◌≡◌, ℕ, Option, Some, None, subst, sym, ap, ◌∙◌}
use Rattle.std.proofs.lemmas.Option.{none-some, same_Some}
use Rattle.rapid_text.specs.declared.event.Event.{Event}
use Rattle.rapid_text.specs.declared.event.Op.TheVariants.{Acquire}
use Rattle.std.specs.Prelude.{List}
use Rattle.event_index.specs.Events.{op_at}
use Rattle.must_order.specs.MustBefore.{IsHeldBefore}
use Rattle.explain_report.specs.Causes.{lock_by_op, lock_taken}
use Rattle.lock_waits.specs.Waits.{WaitsFor}

module _ (T : List Event) (e d : ℕ) where
  lock_of_wait : (waits : WaitsFor T e d) → lock_taken T e ≡ Some waits.lock
  lock_of_wait waits = ap lock_by_op waits.acquires

  -- an event that acquires no lock waits for nobody
  pub no_wait : lock_taken T e ≡ None → ¬ WaitsFor T e d
  no_wait none waits = absurd (none-some _ (sym none ∙ lock_of_wait waits))

  -- an acquire of a lock that the other thread does not hold does not wait for it
  pub free_wait : (l : ℕ) → op_at T e ≡ Some (Acquire l) → ¬ IsHeldBefore T d l → ¬ WaitsFor T e d
  free_wait l acquires free waits =
      let same = same_Some _ _ (sym (lock_of_wait waits) ∙ ap lock_by_op acquires) in
      free (subst (λ (k : ℕ). IsHeldBefore T d k) same waits.held)
