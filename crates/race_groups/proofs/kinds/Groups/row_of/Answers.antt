use Rattle.std.proofs.Common.{◌≡◌, true, Some}
use Rattle.std.specs.List.{slice_get}
use Rattle.indexmap.specs.IndexMap.{get}
use Rattle.race_groups.specs.Groups.{is_between}
use Rattle.race_groups.specs.Rows.{same_places}
use Rattle.race_groups.specs.declared.kinds.Row.{Row}
use Rattle.race_groups.specs.declared.rows.Sums.{Sums}
use Rattle.race_groups.proofs.CompleteLemmas.{found_from, row_found, row_missing}
use Rattle.race_groups.proofs.kinds.Groups.row_of.Goals as goal

pub returns-clause-found : goal.returns-clause-found
returns-clause-found c =
    let groups = c.args.self.now in
    let key = c.ordered-places.result in
    found_from
    (λ at. (v : Sums) × (slice_get groups.index.entries at ≡ Some (key, v)) × (get same_places groups.index key ≡ Some v))
    (λ at. (row : Row) × (slice_get groups.rows.items at ≡ Some row) × (is_between row.places.0 row.places.1 c.args.first c.args.second ≡ true))
    c.row_at.result
    (λ at found. row_found groups.index groups.rows.items groups.places key c.args.first c.args.second c.ordered-places.ensures.rising c.ordered-places.ensures.same at found.0 found.1)
    c.row_at.ensures.found

pub returns-clause-none : goal.returns-clause-none
returns-clause-none c = λ none.
    let groups = c.args.self.now in
    row_missing groups.index groups.rows.items groups.places c.ordered-places.result c.args.first c.args.second c.ordered-places.ensures.rising c.ordered-places.ensures.same (c.row_at.ensures.none none)
