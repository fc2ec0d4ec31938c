use Rattle.std.proofs.Common.{◌≡◌, ◌∙◌, ap, cond, bytes_eq, subst}
use Rattle.std.specs.BTreeSet.{insert_key}
use Rattle.std.specs.Ordering.{nat_cmp}
use Rattle.indexmap.specs.IndexMap.{with_value_at}
use Rattle.dependence.specs.Lists.{Lists, under, Same}
use Rattle.dependence.proofs.PlaceLemmas.{on_ok, on_err, list_there, under_changed, same_kept}
use Rattle.dependence.proofs.touches.Touches.place_name.Goals as goal

pub returns-in-Some-clause-ok : goal.returns-in-Some-clause-ok
returns-in-Some-clause-ok c =
    let m = c.self.inside.lists in
    let at = c.in-Some.at in
    let x = c.args.name in
    let has = c.in-Some.ensures.some in
    let w = c.place.new.self in
    let list = c.pair_mut-list.result.1.now in
    let old = list_there m.entries at x c.pair_mut-list.result.0.now list has c.pair_mut-list.ensures.value in
    on_ok c.place.result (w ≡ insert_key nat_cmp list c.args.entry) _
    (λ pushed y. subst (λ (T : Lists). under (with_value_at m at w).entries y ≡ cond (bytes_eq y x) (insert_key nat_cmp (under T y) c.args.entry) (under T y)) c.self.view_is
    (under_changed m at x has c.pair_mut-list.ensures.unique (λ l. insert_key nat_cmp l c.args.entry) w (pushed ∙ ap (λ l. insert_key nat_cmp l c.args.entry) old) y)) c.place.ensures.ok

pub returns-in-Some-clause-err : goal.returns-in-Some-clause-err
returns-in-Some-clause-err c =
    let m = c.self.inside.lists in
    let at = c.in-Some.at in
    let x = c.args.name in
    let has = c.in-Some.ensures.some in
    let w = c.place.new.self in
    let list = c.pair_mut-list.result.1.now in
    let old = list_there m.entries at x c.pair_mut-list.result.0.now list has c.pair_mut-list.ensures.value in
    on_err c.place.result (w ≡ list) _
    (λ same. subst (λ (T : Lists). Same T (with_value_at m at w).entries) c.self.view_is (same_kept m at x has c.pair_mut-list.ensures.unique w (same ∙ old))) c.place.ensures.err
