use Rattle.std.proofs.Common.{◌≡◌, ℕ, ap, sym, ◌∙◌, ◌-◌, length, drop, arith}
use Rattle.std.proofs.lemmas.List.{drop_all}
use Rattle.explain_report.specs.Causes.{Waits, waits, waits_for}
use Rattle.explain_report.proofs.CauseLemmas.{length-wait_by, waits_for-back, waits_for-none}
use Rattle.explain_report.proofs.causes.add_causes.Goals as goal

pub loop-passed-init : goal.loop-passed-init
loop-passed-init c =
    let cs = c.args.chains.now in
    let ss = c.args.steps.now in
    (waits_for-none cs c.args.depth _ ∙ ap (λ xs. waits_for cs c.args.depth xs (waits c.args.waiting.now)) (sym (drop_all (length ss - 0) ss (omega arith))), c.requires)

pub loop-passed-preserved : goal.loop-passed-preserved
loop-passed-preserved c =
    let cs = c.args.chains.now in
    let so = c.loop-passed.invariant in (
      waits_for-back cs c.args.depth c.args.steps.now c.loop-passed.passed _ _ _ _ _ (omega (arith, c.loop-passed-test.true)) so.0 c.in_ok-add_cause.ensures (omega arith),
      ap (λ (w : Waits). length w.0) c.in_ok-add_cause.ensures ∙ length-wait_by cs c.args.depth (waits c.loop-passed.waiting) _ ∙ so.1,
    )

pub returns : goal.returns
returns c =
    let ss = c.args.steps.now in
    let none : length ss - c.loop-passed.passed ≡ 0 = omega (arith, c.loop-passed-test.false) in
    c.loop-passed.invariant.0 ∙ ap (λ (n : ℕ). waits_for c.args.chains.now c.args.depth (drop n ss) (waits c.args.waiting.now)) none
