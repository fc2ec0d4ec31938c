use Rattle.std.proofs.Common.{ℕ, Option, IfSome, inl, inr, subst}
use Rattle.must_order.specs.Held.{IsGuard}
use Rattle.rapid_text.specs.Recording.{Recording}
use Rattle.trace_rules.specs.Rules.{IsDisciplined}
use Rattle.race_triage.proofs.settling.Settling.is_known_apart.Goals as goal

pub returns-then-is_forced : goal.returns-then-is_forced
returns-then-is_forced c so P correct =
    let T = c.args.self.now.analysis.now.events in
    let rules : IsDisciplined T = subst (λ (r : Recording). IsDisciplined r.events) c.indexed-indexed.ensures c.len-len.ensures.disciplined in
    c.apart_is_never_shown.ensures T P c.args.first c.args.second rules correct (inl (c.is_forced.ensures.forced.0 c.if-is_forced.true))

pub returns-in-Some : goal.returns-in-Some
returns-in-Some c so P correct =
    let T = c.args.self.now.analysis.now.events in
    let rules : IsDisciplined T = subst (λ (r : Recording). IsDisciplined r.events) c.indexed-indexed.ensures c.len-len.ensures.disciplined in
    let guard = subst (λ (o : Option ℕ). IfSome o (IsGuard c.args.self.now.analysis.now c.args.first c.args.second)) c.in-Some.is c.guard.ensures.found in
    c.apart_is_never_shown.ensures T P c.args.first c.args.second rules correct (inr (c.in-Some.field-0, guard.1))
