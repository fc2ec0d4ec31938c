use Rattle.std.proofs.Common.{◌∙◌, ap, subst, sym}
use Rattle.dependence.specs.Lists.{Lists, under, listed, IsLeastAbove}
use Rattle.dependence.proofs.PlaceLemmas.{list_there}
use Rattle.dependence.proofs.touches.Touches.first_after.Goals as goal

pub returns-clause-least : goal.returns-clause-least
returns-clause-least c =
    let T = c.self.inside.lists.entries in
    let x = c.args.name.now in
    let has = c.in_ok-at.ensures.some in
    let same = list_there T c.in_ok-at.at x c.in_ok-list.field-0-0.now c.in_ok-list.list.now has (sym c.in_ok-list.ensures.entry) in
    subst (λ xs. IsLeastAbove c.args.entry xs c.first_after.result) (same ∙ sym (ap listed has.found) ∙ ap (λ (U : Lists). under U x) c.self.view_is) c.first_after.ensures.least
