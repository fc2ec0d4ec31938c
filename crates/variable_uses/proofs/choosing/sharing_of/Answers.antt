use Rattle.std.proofs.Common.{◌∙◌, length, refl, ap}
use Rattle.std.proofs.lemmas.List.{length-replicate}
use Rattle.variable_uses.proofs.SharedLemmas.{AreSharingsBefore-begin}
use Rattle.variable_uses.proofs.choosing.sharing_of.Goals as goal

pub loop-event-init : goal.loop-event-init
loop-event-init c = record {
  len = ap length (c.in_ok-sharing.ensures.items_if_clones_equal (λ y same. same)) ∙ length-replicate _ _ ∙ c.variables.ensures.len;
  sharing = AreSharingsBefore-begin c.args.indexed.now.events c.args.ones.now c.args.others.now _ _ c.in_ok-sharing.sharing.items refl refl refl refl (c.in_ok-sharing.ensures.items_if_clones_equal (λ y same. same));
}
