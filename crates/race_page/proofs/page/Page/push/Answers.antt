use Rattle.race_page.proofs.PieceLemmas.{with_made}
use Rattle.race_page.proofs.page.Page.push.Goals as goal

pub invariant_of-self-2 : goal.invariant_of-self-2
invariant_of-self-2 c =
    with_made _ c.args.self.now _ c.args.row.now _ _ c.args.shown c.self.view_is c.requires c.in_ok-extend_from_slice.ensures.items c.in_ok-reserve.ensures.items
    c.in_ok-push.ensures.items
