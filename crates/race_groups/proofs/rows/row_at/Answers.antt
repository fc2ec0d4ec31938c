use Rattle.std.proofs.Common.{◌≡◌, Some, sym, ap, ◌∙◌}
use Rattle.race_groups.proofs.RowLemmas.{key_found}
use Rattle.race_groups.proofs.rows.row_at.Goals as goal

pub returns-clause-found : goal.returns-clause-found
returns-clause-found c =
    let key = c.in_ok-at.field-0-1.now in
    let value = c.in_ok-at.field-0-2.now in
    let is : key ≡ c.args.places = key_found c.args.places c.args.rows.now.entries key (sym c.in_ok-at.ensures.key) in
    (value, c.in_ok-at.ensures.entry ∙ ap (λ k. Some (k, value)) is, sym c.in_ok-at.ensures.value)
