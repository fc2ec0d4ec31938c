use Rattle.std.proofs.Common.{◌-◌, ◌<◌, ◌≤◌, get_or, length, refl, arith}
use Rattle.std.proofs.lemmas.Option.{slice_get-get_or}
use Rattle.variable_uses.proofs.OrderLemmas.{AreSidesBefore-one, after_in, before_in}
use Rattle.variable_uses.proofs.order.narrow.Goals as goal

pub returns-clause-sides : goal.returns-clause-sides
returns-clause-sides c =
    let le : get_or c.args.numbers.now c.args.event 0 ≤ length c.args.sides.now = c.requires.numbers c.args.event 0 c.requires.event in
    let within : get_or c.args.numbers.now c.args.event 0 - 1 < length c.args.sides.now = omega (arith, le, c.if-number-eq0.false) in
    let was = slice_get-get_or c.args.sides.now (get_or c.args.numbers.now c.args.event 0 - 1) _ within in
    AreSidesBefore-one c.args.must.now.events c.args.numbers.now c.args.event c.args.edges.now.firsts.items c.args.edges.now.lasts.items c.args.sides.now c.requires.sides (get_or c.args.numbers.now c.args.event 0 - 1)
    _ _ _ within (omega (arith, c.if-number-eq0.false)) was refl
    (before_in c.args.must.now.events c.as_slice.result.now c.args.edges.now.firsts.items c.args.event _ _ c.as_slice.ensures.value c.is_still_before.ensures)
    (after_in c.args.must.now.events c.as_slice-2.result.now c.args.edges.now.lasts.items c.args.event _ _ c.as_slice-2.ensures.value c.is_still_after.ensures)
