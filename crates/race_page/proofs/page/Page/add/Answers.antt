use Rattle.std.proofs.Common.{ℕ, List, ◌++◌, ◌∷◌, [], sym, subst}
use Rattle.race_page.specs.Pages.{AreParts}
use Rattle.race_page.proofs.PieceLemmas.{alone}
use Rattle.race_page.proofs.page.Page.add.Goals as goal

pub push-requires : goal.push-requires
push-requires c =
    let page = c.args.self.now in
    subst (λ (xs : List ℕ). AreParts page.trace (page.text ++ xs) (page.rows ++ c.args.shown ∷ []))
    (sym (alone _ _ _ _ c.new-row.ensures.items c.in_ok-append_row.ensures c.as_slice.ensures.value)) c.requires
