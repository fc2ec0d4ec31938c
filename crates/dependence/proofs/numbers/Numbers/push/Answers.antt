use Rattle.dependence.proofs.NumberLemmas.{pushed_rises}
use Rattle.dependence.proofs.numbers.Numbers.push.Goals as goal

pub invariant_of-self-2 : goal.invariant_of-self-2
invariant_of-self-2 c =
    pushed_rises c.self.inside.settled.keys c.self.inside.tail.items c.push.new.self.items c.args.self.now c.args.entry c.self.invariant c.self.view_is c.requires c.in_ok-push.ensures.items
