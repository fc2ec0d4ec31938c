use Rattle.std.proofs.Common.{subst, sym}
use Rattle.dependence.specs.Rising.{Rises}
use Rattle.dependence.proofs.NumberLemmas.{any_parts, rises_right}
use Rattle.dependence.proofs.numbers.Numbers.contains.Goals as goal

pub returns-else-is_settled : goal.returns-else-is_settled
returns-else-is_settled c =
    any_parts c.args.entry c.self.inside.settled.keys c.self.inside.tail.items c.deref.result.now c.args.self.now c.is_settled.result c.is_among.result
    c.is_settled.ensures c.if-is_settled.false c.is_among.ensures c.deref.ensures.value c.self.view_is

pub is_among-requires : goal.is_among-requires
is_among-requires c = subst Rises (sym c.deref.ensures.value) (rises_right c.self.inside.settled.keys c.self.inside.tail.items c.self.invariant)
