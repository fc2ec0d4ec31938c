use Rattle.std.proofs.Common.{sym, ◌∙◌, arith, rules, length-take}
use Rattle.client_scripts.proofs.JointLemmas.{passed-start, passed-more, passed-within, trace-here, script-here, trace-whole, script-none}
use Rattle.client_scripts.proofs.joint.parts_of.Goals as goal

pub loop-line-init : goal.loop-line-init
loop-line-init c = passed-start c.args.text.now _ c.of-lines.ensures

pub slice_bounds-result-end : goal.slice_bounds-result-end
slice_bounds-result-end c =
    let within = passed-within c.args.text.now c.loop-line.lines _ c.in-Some.line.now c.loop-line.at c.loop-line.invariant c.in-Some.ensures.some in
    omega (arith, within, length-take c.loop-line.at c.args.text.now)

pub returns-then-is_a_divider-clause-trace : goal.returns-then-is_a_divider-clause-trace
returns-then-is_a_divider-clause-trace c =
    trace-here c.args.text.now c.loop-line.lines _ c.in-Some.line.now c.loop-line.at c.loop-line.invariant c.in-Some.ensures.some (sym c.is_a_divider.ensures ∙ c.if-is_a_divider.true)

pub returns-then-is_a_divider-clause-script : goal.returns-then-is_a_divider-clause-script
returns-then-is_a_divider-clause-script c =
    c.text.ensures
    ∙ script-here c.args.text.now c.loop-line.lines _ c.in-Some.line.now c.loop-line.at c.loop-line.invariant c.in-Some.ensures.some (sym c.is_a_divider.ensures ∙ c.if-is_a_divider.true)

pub overflow_add-at-in-Some : goal.overflow_add-at-in-Some
overflow_add-at-in-Some c =
    let within = passed-within c.args.text.now c.loop-line.lines _ c.in-Some.line.now c.loop-line.at c.loop-line.invariant c.in-Some.ensures.some in
    search rules

pub loop-line-preserved : goal.loop-line-preserved
loop-line-preserved c =
    passed-more c.args.text.now c.loop-line.lines _ c.in-Some.line.now c.loop-line.at c.loop-line.invariant c.in-Some.ensures.some (sym c.is_a_divider.ensures ∙ c.if-is_a_divider.false)

pub returns-clause-trace : goal.returns-clause-trace
returns-clause-trace c = trace-whole c.args.text.now c.loop-line.lines c.loop-line.at c.loop-line.invariant c.in_default.ensures.none

pub returns-clause-script : goal.returns-clause-script
returns-clause-script c = script-none c.args.text.now c.loop-line.lines c.loop-line.at c.loop-line.invariant c.in_default.ensures.none
