use Rattle.std.proofs.Common.{◌≡◌, ◌<◌, ℕ, None, length, subst, ◌∙◌}
use Rattle.std.specs.Option.{IfSome}
use Rattle.rapid_text.specs.Recording.{Recording}
use Rattle.must_order.specs.MustBefore.{IsSharedBefore}
use Rattle.must_order.proofs.analysis.Analysis.guard.Goals as goal

pub returns-clause-least : goal.returns-clause-least
returns-clause-least c =
    subst (λ (r : Recording). IfSome c.guard.result (λ l. (k : ℕ) → k < l → ¬ IsSharedBefore r.events c.args.first c.args.second k))
    (c.self.invariant.1 ∙ c.self.view_is) c.guard.ensures.least

pub returns-clause-none : goal.returns-clause-none
returns-clause-none c =
    subst (λ (r : Recording). c.guard.result ≡ None → (k : ℕ) → k < length r.locks → ¬ IsSharedBefore r.events c.args.first c.args.second k)
    (c.self.invariant.1 ∙ c.self.view_is) c.guard.ensures.none
