use Rattle.std.proofs.Common.{subst, sym}
use Rattle.dependence.specs.Rising.{Rises}
use Rattle.dependence.proofs.NumberLemmas.{first_in_tree, first_in_tail, least_first, rises_right}
use Rattle.dependence.proofs.numbers.Numbers.first_after.Goals as goal

pub first_above-requires : goal.first_above-requires
first_above-requires c = subst Rises (sym c.deref.ensures.value) (rises_right c.self.inside.settled.keys c.self.inside.tail.items c.self.invariant)

pub returns-in-Some-clause-least : goal.returns-in-Some-clause-least
returns-in-Some-clause-least c =
    least_first c.args.entry c.args.self.now _ (subst Rises c.self.view_is c.self.invariant)
    (first_in_tree c.args.entry c.self.inside.settled.keys c.self.inside.tail.items c.args.self.now c.first_settled.result c.in-Some.first c.in-Some.is c.first_settled.ensures c.self.view_is)

pub returns-in-Some-clause-first : goal.returns-in-Some-clause-first
returns-in-Some-clause-first c =
    first_in_tree c.args.entry c.self.inside.settled.keys c.self.inside.tail.items c.args.self.now c.first_settled.result c.in-Some.first c.in-Some.is c.first_settled.ensures c.self.view_is

pub returns-in-None-clause-least : goal.returns-in-None-clause-least
returns-in-None-clause-least c =
    least_first c.args.entry c.args.self.now c.first_above.result (subst Rises c.self.view_is c.self.invariant)
    (first_in_tail c.args.entry c.self.inside.settled.keys c.self.inside.tail.items c.deref.result.now c.args.self.now c.first_settled.result c.first_above.result c.in-None.is c.first_settled.ensures c.first_above.ensures c.deref.ensures.value c.self.view_is)

pub returns-in-None-clause-first : goal.returns-in-None-clause-first
returns-in-None-clause-first c =
    first_in_tail c.args.entry c.self.inside.settled.keys c.self.inside.tail.items c.deref.result.now c.args.self.now c.first_settled.result c.first_above.result c.in-None.is c.first_settled.ensures c.first_above.ensures c.deref.ensures.value c.self.view_is
