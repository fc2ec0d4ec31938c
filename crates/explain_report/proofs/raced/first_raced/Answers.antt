use Rattle.std.proofs.Common.{find, sym, ap, ◌∙◌, arith}
use Rattle.must_order.specs.declared.chains.Chain.{Chain}
use Rattle.explain_report.specs.Chains.{is_raced}
use Rattle.explain_report.proofs.RacedLemmas.{raced-here, raced-past}
use Rattle.explain_report.proofs.raced.first_raced.Goals as goal

pub returns-in-Some : goal.returns-in-Some
returns-in-Some c =
    let T = c.args.analysis.now.events in
    raced-here T c.args.chains.now c.loop-chain.chain-index c.chain-item.result (omega arith) c.loop-chain.invariant c.in-Some.step
    (ap (λ (x : Chain). find (is_raced T) x.steps.items) (sym c.chain-item.is) ∙ ap (find (is_raced T)) (sym c.as_slice.ensures.value) ∙ sym c.raced_of.ensures ∙ c.in-Some.is)

pub loop-chain-preserved : goal.loop-chain-preserved
loop-chain-preserved c =
    let T = c.args.analysis.now.events in
    raced-past T c.args.chains.now c.loop-chain.chain-index c.chain-item.result (omega arith) c.loop-chain.invariant
    (ap (λ (x : Chain). find (is_raced T) x.steps.items) (sym c.chain-item.is) ∙ ap (find (is_raced T)) (sym c.as_slice.ensures.value) ∙ sym c.raced_of.ensures ∙ c.in_default.is)
