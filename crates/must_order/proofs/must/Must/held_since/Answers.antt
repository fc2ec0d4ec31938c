use Rattle.std.proofs.Common.{◌≡◌, None, sym, subst}
use Rattle.rapid_text.specs.Recording.{Recording}
use Rattle.must_order.specs.MustBefore.{IsHeldBefore}
use Rattle.must_order.proofs.must.Must.held_since.Goals as goal

pub returns-clause-none : goal.returns-clause-none
returns-clause-none c =
    subst (λ (r : Recording). c.holder.result ≡ None → ¬ IsHeldBefore r.events c.args.event c.args.lock) (sym c.requires.trace) c.holder.ensures.none
