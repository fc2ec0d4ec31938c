use Rattle.std.proofs.Common.{◌≡◌, ◌∙◌, ap, cond, bytes_eq, subst}
use Rattle.indexmap.specs.IndexMap.{with_value_at}
use Rattle.dependence.specs.Lists.{Lists, under, without}
use Rattle.dependence.proofs.PlaceLemmas.{list_there, under_changed, gone_there}
use Rattle.dependence.proofs.touches.Touches.remove_name.Goals as goal

pub returns-in-Some-clause-taken : goal.returns-in-Some-clause-taken
returns-in-Some-clause-taken c y =
    let m = c.self.inside.lists in
    let at = c.in-Some.at in
    let x = c.args.name.now in
    let has = c.in-Some.ensures.some in
    let w = c.remove.new.self in
    let old = list_there m.entries at x c.pair_mut-list.result.0.now c.pair_mut-list.result.1.now has c.pair_mut-list.ensures.value in
    subst (λ (T : Lists). under (with_value_at m at w).entries y ≡ cond (bytes_eq y x) (without c.args.entry (under T y)) (under T y)) c.self.view_is
    (under_changed m at x has c.pair_mut-list.ensures.unique (without c.args.entry) w (c.remove.ensures.taken ∙ ap (without c.args.entry) old) y)

pub returns-in-Some-clause-gone : goal.returns-in-Some-clause-gone
returns-in-Some-clause-gone c =
    let m = c.self.inside.lists in
    let at = c.in-Some.at in
    gone_there m at c.args.name.now c.in-Some.ensures.some c.pair_mut-list.ensures.unique c.args.entry c.remove.new.self c.remove.ensures.gone
