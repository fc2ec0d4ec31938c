use Rattle.wholeness.proofs.LineLemmas.{last_line-none, last_line-some}
use Rattle.wholeness.proofs.marks.last_line.Goals as goal

pub returns-in-Some : goal.returns-in-Some
returns-in-Some c = last_line-some c.args.text.now c.in-Some.at c.in-Some.ensures

pub returns-in-None : goal.returns-in-None
returns-in-None c = last_line-none c.args.text.now c.in-None.ensures
