use Rattle.std.proofs.Common.{◌∙◌, ap, eqb, subst, sym}
use Rattle.std.specs.List.{list_any}
use Rattle.dependence.specs.Rising.{Rises}
use Rattle.dependence.proofs.NumberLemmas.{removed_parts, rises_right, rises_without, gone_without}
use Rattle.dependence.proofs.numbers.Numbers.take.Goals as goal

pub take_out-requires : goal.take_out-requires
take_out-requires c = rises_right c.self.inside.settled.keys c.self.inside.tail.items c.self.invariant

pub invariant_of-self : goal.invariant_of-self
invariant_of-self c =
    let k = c.args.entry in
    let up = subst Rises c.self.view_is c.self.invariant in
    let parts = removed_parts k c.self.inside.settled.keys c.self.inside.tail.items c.take_settled.new.numbers.keys c.take_out.new.numbers.items c.args.self.now up
    c.self.view_is c.take_settled.ensures c.take_out.ensures in
    subst Rises (sym parts) (rises_without k c.args.self.now up)

pub returns-clause-taken : goal.returns-clause-taken
returns-clause-taken c =
    let up = subst Rises c.self.view_is c.self.invariant in
    removed_parts c.args.entry c.self.inside.settled.keys c.self.inside.tail.items c.take_settled.new.numbers.keys c.take_out.new.numbers.items c.args.self.now up
    c.self.view_is c.take_settled.ensures c.take_out.ensures

pub returns-clause-gone : goal.returns-clause-gone
returns-clause-gone c =
    let k = c.args.entry in
    let up = subst Rises c.self.view_is c.self.invariant in
    let parts = removed_parts k c.self.inside.settled.keys c.self.inside.tail.items c.take_settled.new.numbers.keys c.take_out.new.numbers.items c.args.self.now up
    c.self.view_is c.take_settled.ensures c.take_out.ensures in
    ap (list_any (eqb k)) parts ∙ gone_without k c.args.self.now up
