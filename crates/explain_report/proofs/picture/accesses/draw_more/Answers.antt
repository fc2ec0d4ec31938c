use Rattle.std.proofs.Common.{arith}
use Rattle.std.proofs.lemmas.Bool.{le-ltb}
use Rattle.explain_report.proofs.picture.BoxLemmas.{if_false}
use Rattle.explain_report.proofs.picture.accesses.draw_more.Goals as goal

pub returns-else-count-gt8 : goal.returns-else-count-gt8
returns-else-count-gt8 c = if_false _ _ _ (le-ltb 8 c.args.count (omega (arith, c.if-count-gt8.false)))
