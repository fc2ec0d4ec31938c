use Rattle.std.proofs.Common.{ap, sym, ◌∙◌}
use Rattle.explain_report.proofs.places.ArrowLemmas.{rest_is}
use Rattle.explain_report.proofs.places.CutLemmas.{after-none, after-some, before-none, before-some}
use Rattle.explain_report.proofs.places.calls.cut_at_last.Goals as goal

pub returns-in-Some-clause-before : goal.returns-in-Some-clause-before
returns-in-Some-clause-before c = before-some c.args.byte c.args.text.now c.in-Some.at c.in-Some.ensures

pub returns-in-Some-clause-after : goal.returns-in-Some-clause-after
returns-in-Some-clause-after c = rest_is c.args.text.now _ ∙ after-some c.args.byte c.args.text.now c.in-Some.at c.in-Some.ensures

pub returns-in-None-clause-before : goal.returns-in-None-clause-before
returns-in-None-clause-before c = before-none c.args.byte c.args.text.now c.in-None.ensures

pub returns-in-None-clause-after : goal.returns-in-None-clause-after
returns-in-None-clause-after c = after-none c.args.byte c.args.text.now c.in-None.ensures
