use Rattle.std.proofs.Common.{ℕ, List, ◌++◌, ap, subst, ◌∙◌}
use Rattle.race_page.specs.Pages.{AreParts, Made}
use Rattle.race_page.proofs.PieceLemmas.{alone, with_row}
use Rattle.race_page.proofs.page.Page.row.Goals as goal

pub add-requires : goal.add-requires
add-requires c =
    let told = c.args.told.now in
    let is = subst (λ (p : Made). AreParts p.trace p.text p.rows) c.self.view_is c.self.invariant in
    with_row _ _ _ told _ c.args.shown is c.bytes.ensures.piece c.requires.told c.args.rest.now c.requires.plain c.bytes-2.ensures.piece
    (alone _ _ _ _ c.new-body.ensures.items c.in_ok-append_two.ensures c.as_slice.ensures.value
    ∙ ap (λ (xs : List ℕ). xs ++ c.bytes-2.result.now) c.bytes.ensures.text
    ∙ ap (λ (xs : List ℕ). told ++ xs) c.bytes-2.ensures.text)
