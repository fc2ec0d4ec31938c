use Rattle.dependence.proofs.ManyLemmas.{pushed_one}
use Rattle.dependence.proofs.touches.Touches.push.Goals as goal

pub returns-clause-ok : goal.returns-clause-ok
returns-clause-ok c =
    pushed_one c.push_all.result c.args.entry c.from_ref.result.now c.args.command.now c.args.self.now c.push_all.new.self c.from_ref.ensures.value c.push_all.ensures.ok
