use Rattle.std.proofs.Common.{◌==◌, Some, sym, ap, ◌∙◌}
use Rattle.std.proofs.lemmas.Bool.{and_from, eq-eqb}
use Rattle.indexmap.specs.IndexMap.{get}
use Rattle.race_groups.specs.Rows.{same_places}
use Rattle.race_groups.proofs.RowLemmas.{same_places_are}
use Rattle.race_groups.proofs.rows.is_at.Goals as goal

pub returns-then-key-places : goal.returns-then-key-places
returns-then-key-places c = λ second.
    let key = c.in-Some.key.now in
    let value = c.in-Some.field-0-1.now in
    let is = same_places_are key c.args.places (and_from (key.0 == c.args.places.0) (key.1 == c.args.places.1) (eq-eqb key.0 c.args.places.0 c.if-key-places.true) second) in
    (value, sym c.in-Some.ensures.entry ∙ ap (λ k. Some (k, value)) is, ap (get same_places c.args.rows.now) (sym is) ∙ c.in-Some.ensures.value)
