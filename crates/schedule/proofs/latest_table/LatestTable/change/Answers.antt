use Rattle.std.proofs.Common.{◌≡◌, cond, sym, ap, subst, ◌∙◌}
use Rattle.std.specs.HashMap.{get}
use Rattle.std.proofs.lemmas.Option.{get_or_from_slice_get}
use Rattle.schedule.specs.Keys.{key_eq}
use Rattle.schedule.specs.LatestTables.{held, held_or, changed, IsPlaceOf}
use Rattle.schedule.proofs.SlotLemmas.{Slot, near_held}
use Rattle.schedule.proofs.latest_table.LatestTable.change.Goals as goal

pub returns : goal.returns
returns c =
    let s = c.args.self.now in
    let k = c.args.key in
    let place : IsPlaceOf s.near.items k c.in-Some.at = subst (λ es. IsPlaceOf es k c.in-Some.at) c.deref.ensures.value c.in-Some.ensures.some in
    let here : c.index.result.now ≡ (k, place.kept) = c.index.ensures ∙ get_or_from_slice_get s.near.items c.in-Some.at (k, place.kept) c.index.result.now place.there in
    let is : c.changed.result ≡ changed c.args.latest (held s k) =
    c.changed.ensures ∙ ap (λ (e : Slot). changed c.args.latest e.1) here ∙ ap (changed c.args.latest) (sym (ap (λ n. held_or n (get key_eq s.far k)) place.found)) in
    λ q. near_held k q c.changed.result _ _ (get key_eq s.far q) (place.placed c.changed.result q) ∙ ap (λ v. cond (key_eq k q) v (held s q)) is
