use Rattle.std.proofs.Common.{◌≡◌, refl, sym, ap, ◌∙◌}
use Rattle.std.proofs.lemmas.Bool.{eq-eqb, true≢false}
use Rattle.std.proofs.lemmas.Option.{same_Some}
use Rattle.rapid_text.specs.Operations.{is_acquire}
use Rattle.rapid_text.specs.declared.event.Op.TheVariants.{Acquire}
use Rattle.event_index.proofs.CallerLemmas.{op_here}
use Rattle.race_groups.proofs.takers.lock_taken.Goals as goal

pub returns-clause-none : goal.returns-clause-none
returns-clause-none c = λ none l is.
    let v = c.event.result in
    let op : v.op ≡ Acquire l = same_Some v.op (Acquire l) (sym (op_here c.args.indexed.now.events c.args.event v c.event.ensures.found) ∙ is) in
    true≢false (sym (eq-eqb l l refl) ∙ ap (is_acquire l) (sym op) ∙ c.acquired.ensures.none none l)
