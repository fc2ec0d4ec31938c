use Rattle.std.proofs.Common.{ℕ, List, ◌++◌, ap, subst, refl, sym, append_assoc, ◌∙◌}
use Rattle.race_page.specs.Pages.{AreParts, Made}
use Rattle.race_page.proofs.PieceLemmas.{alone, with_drawn}
use Rattle.race_page.proofs.page.Page.add_drawn.Goals as goal

pub add-requires : goal.add-requires
add-requires c =
    let told = c.args.told.now in
    let before = c.args.before.now in
    let figure = c.args.figure.now in
    let end = c.bytes-3.result.now in
    let is = subst (λ (p : Made). AreParts p.trace p.text p.rows) c.self.view_is c.self.invariant in
    with_drawn _ _ _ told _ c.args.shown is c.bytes.ensures.piece c.requires.told before figure c.args.after.now c.bytes-2.ensures.piece c.requires.drawn
    c.bytes-3.ensures.piece
    (c.as_slice.ensures.value
    ∙ c.in_ok-append_two-2.ensures
    ∙ sym (append_assoc _ figure end)
    ∙ ap (λ (xs : List ℕ). xs ++ figure ++ end) (alone _ _ _ _ c.new-body.ensures.items c.in_ok-append_two.ensures refl)
    ∙ ap (λ (xs : List ℕ). xs ++ c.bytes-2.result.now ++ figure ++ end) c.bytes.ensures.text
    ∙ ap (λ (xs : List ℕ). told ++ xs ++ figure ++ end) c.bytes-2.ensures.text
    ∙ ap (λ (xs : List ℕ). told ++ before ++ figure ++ xs) c.bytes-3.ensures.text)
