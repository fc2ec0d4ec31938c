use Rattle.race_page.proofs.PieceLemmas.{no_parts}
use Rattle.race_page.proofs.page.Page.new.Goals as goal

pub invariant_of-result : goal.invariant_of-result
invariant_of-result c = no_parts _ _ _ c.new.ensures.items c.new-2.ensures.items
