use Rattle.std.proofs.Common.{◌≡◌, ◌++◌, ℕ, List, All, ap, sym, ◌∙◌, subst, length}
use Rattle.rapid_text.specs.declared.event.Event.{Event}
use Rattle.rapid_text.specs.declared.event.Op.TheVariants.{Acquire}
use Rattle.trace_rules.specs.Rules.{hold_count}
use Rattle.window.specs.Streams.{IsOf}
use Rattle.window.specs.Tables.{all_takes}
use Rattle.window.proofs.LeavingLemmas.{acquires-takes, holds-takes, of-takes}
use Rattle.window.proofs.leaving.takes_after.Goals as goal

pub returns-clause-named : goal.returns-clause-named
returns-clause-named c =
    let r = c.args.trace.now in
    let held = c.in_ok-add_holds.ensures in
    subst (All (IsOf r)) (sym (held.2 ∙ ap (λ (es : List Event). es ++ all_takes held.0 (length r.locks)) c.new-events.ensures.items))
    (of-takes r c.raw.ensures.well_formed held.0 held.1)

pub returns-clause-takes : goal.returns-clause-takes
returns-clause-takes c =
    let r = c.args.trace.now in
    let held = c.in_ok-add_holds.ensures in
    subst (All (λ (e : Event). (l : ℕ) × (e.op ≡ Acquire l))) (sym (held.2 ∙ ap (λ (es : List Event). es ++ all_takes held.0 (length r.locks)) c.new-events.ensures.items))
    (acquires-takes r c.raw.ensures.well_formed held.0 held.1)

pub returns-clause-holds : goal.returns-clause-holds
returns-clause-holds c t l =
    let r = c.args.trace.now in
    let held = c.in_ok-add_holds.ensures in
    holds-takes r c.raw.ensures.well_formed held.0 held.1 t l
    ∙ ap (λ (es : List Event). hold_count es t l) (sym (held.2 ∙ ap (λ (es : List Event). es ++ all_takes held.0 (length r.locks)) c.new-events.ensures.items))
