use Rattle.std.proofs.Common.{◌≡◌, List, ℕ, [], ◌++◌, Some, None, slice_get, append_assoc, append-nil, refl, sym, ap, subst, ◌∙◌}
use Rattle.std.specs.Option.{option_copied}
use Rattle.std.proofs.lemmas.Result.{on_ok_weaker}
use Rattle.must_order.specs.declared.chains.Step.{Step}
use Rattle.explain_report.specs.Causes.{AreCausesTold, AreToldBy, Waits, none_waits, waits, waits_for}
use Rattle.explain_report.specs.Chains.{chain_text}
use Rattle.explain_report.proofs.chains.append_chains.Goals as goal

pub returns-in_default : goal.returns-in_default
returns-in_default c =
    let r = c.args.analysis.now in
    let cs = c.args.chains.now in
    let none : slice_get cs 0 ≡ None = sym c.first.ensures.value ∙ ap option_copied c.in_default.is in
    ([], sym (append-nil _), subst (λ o. AreToldBy r cs o []) (sym none) refl)

pub returns-in-Ok : goal.returns-in-Ok
returns-in-Ok c =
    let r = c.args.analysis.now in
    let cs = c.args.chains.now in
    let chain = c.in-Some.chain.now in
    let first = chain_text r 0 chain in
    let found : slice_get cs 0 ≡ Some chain = sym c.first.ensures.value ∙ ap option_copied c.in-Some.is in
    let waiting : waits c.in-Ok.waiting ≡ waits_for cs 1 chain.steps.items (none_waits cs) =
    c.in-Ok.ensures.waits ∙ ap (λ (ss : List Step). waits_for cs 1 ss (none_waits cs)) c.as_slice.ensures.value in
    on_ok_weaker c.append_causes.result
    (λ below. (
      first ++ below.0,
      below.1 ∙ ap (λ (t : List ℕ). t ++ below.0) c.in_ok-append_chain.ensures ∙ append_assoc _ first below.0,
      subst (λ o. AreToldBy r cs o (first ++ below.0)) (sym found)
          (below.0, subst (λ (w : Waits). AreCausesTold r cs w.0 w.1 below.0) waiting below.2, refl),
    ))
    c.append_causes.ensures
