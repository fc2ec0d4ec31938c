use Rattle.std.proofs.Common.{sym, ◌∙◌}
use Rattle.trace_rules.proofs.HoldLemmas.{breach_of_op-release, breach_of_op-release_other, owner-from_test, depth_for-from_test}
use Rattle.trace_rules.proofs.hold.breach_of_release.Goals as goal

pub returns-then-eq-clause-breach : goal.returns-then-eq-clause-breach
returns-then-eq-clause-breach c = λ es l is.
    sym (breach_of_op-release es l c.args.hold is c.args.thread (owner-from_test c.args.hold.owner c.args.thread (sym c.eq.ensures ∙ c.if-eq.true)))

pub returns-else-eq-clause-breach : goal.returns-else-eq-clause-breach
returns-else-eq-clause-breach c = λ es l is.
    sym (breach_of_op-release_other es l c.args.hold is c.args.thread (depth_for-from_test c.args.hold.owner c.args.hold.depth c.args.thread (sym c.eq.ensures ∙ c.if-eq.false)))
