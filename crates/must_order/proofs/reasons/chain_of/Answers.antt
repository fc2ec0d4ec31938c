use Rattle.std.proofs.Common.{◌≡◌, ◌⊎◌, ℕ, ◌+◌, List, ◌∷◌, length, get_or, reverse, refl, sym, ap, ◌∙◌, subst, arith}
use Rattle.std.specs.List.{All}
use Rattle.std.proofs.lemmas.List.{get_or_read}
use Rattle.std.proofs.lemmas.List.Elements.{All-cons, All-weaker}
use Rattle.must_order.specs.Chains.{IsReason, Lead}
use Rattle.must_order.specs.Joins.{IsLed, IsNeeded}
use Rattle.must_order.specs.declared.chains.Reason.TheVariants.{Ended}
use Rattle.must_order.specs.declared.chains.Step.{Step}
use Rattle.must_order.proofs.ReasonLemmas.{KeepsMarks-trans, IsNeeded-kept, reverse-push, start-next}
use Rattle.must_order.proofs.reasons.chain_of.Goals as goal

pub loop-event-preserved : goal.loop-event-preserved
loop-event-preserved c =
    let T = c.args.indexed.now.events in
    let js = c.args.joins.now.list.items in
    let starts = c.args.joins.now.starts.items in
    let n = length T in
    let s = c.step_back-step.result in
    let old = c.loop-event.steps.items in
    let inv = c.loop-event.invariant in
    let marks = c.step_back-step.new.needed.items in
    let grown : reverse c.push.new.self.items ≡ s ∷ reverse old = ap reverse c.in_ok-push.ensures.items ∙ reverse-push old s in
    let to : s.to ≡ c.loop-event.event = c.step_back-step.ensures.to in
    let high : c.index-high.result.now ≡ get_or starts (s.from + 1) 0 =
    get_or_read starts (s.from + 1) c.index-high.result.now (omega (arith, c.requires.known.len, c.step_back-step.ensures.earlier, inv.within)) c.index-high.ensures 0 in
    record {
      led = subst (λ (h : ℕ). (c.args.first ≡ s.from) ⊎ IsLed T js (get_or starts s.from 0) h c.args.first s.from) (sym high)
          (c.requires.known.all c.args.first s.from (omega (arith, c.step_back-step.ensures.earlier, inv.within)) c.step_back-step.ensures.before);
      within = omega (arith, c.step_back-step.ensures.earlier, inv.within);
      later = omega (arith, c.step_back-step.ensures.earlier, inv.later);
      high = omega (arith, high, start-next T n js starts c.requires.known s.from c.loop-event.event c.args.last c.args.limit c.step_back-step.ensures.earlier inv.later c.requires.last c.requires.low);
      leads = subst (λ (steps : List Step). Lead s.from steps c.args.last) (sym grown) (refl, subst (λ (e : ℕ). Lead e (reverse old) c.args.last) (sym to) inv.leads);
      reasons = subst (All (λ (x : Step). IsReason T x.from x.to x.reason)) (sym grown)
          (All-cons (λ (x : Step). IsReason T x.from x.to x.reason) s (reverse old) (subst (λ (e : ℕ). IsReason T s.from e s.reason) (sym to) c.step_back-step.ensures.reason) inv.reasons);
      needs = subst (All (λ (x : Step). (p : ℕ) → x.reason ≡ Ended p → IsNeeded js marks c.args.limit p x.to)) (sym grown)
          (All-cons (λ (x : Step). (p : ℕ) → x.reason ≡ Ended p → IsNeeded js marks c.args.limit p x.to) s (reverse old)
          (λ p is. subst (IsNeeded js marks c.args.limit p) (sym to)
          (IsNeeded-kept js marks marks c.loop-event.high c.args.limit p c.loop-event.event (record { len = refl; marks = λ k at. at }) inv.high (c.step_back-step.ensures.section p is)))
          (All-weaker (λ (x : Step). (p : ℕ) → x.reason ≡ Ended p → IsNeeded js c.loop-event.needed.items c.args.limit p x.to) (λ (x : Step). (p : ℕ) → x.reason ≡ Ended p → IsNeeded js marks c.args.limit p x.to)
          (λ x each p is. IsNeeded-kept js c.loop-event.needed.items marks c.args.limit c.args.limit p x.to c.step_back-step.ensures.marks (omega arith) (each p is))
          (reverse old) inv.needs));
      marks = KeepsMarks-trans c.args.needed.now.items c.loop-event.needed.items marks inv.marks c.step_back-step.ensures.marks;
    }

pub returns-clause-chain : goal.returns-clause-chain
returns-clause-chain c =
    let T = c.args.indexed.now.events in
    let inv = c.loop-event.invariant in
    let all : c.reverse.new.self.items ≡ reverse c.loop-event.steps.items = c.reverse.ensures.items in
    record {
      reasons = subst (All (λ (x : Step). IsReason T x.from x.to x.reason)) (sym all) inv.reasons;
      leads = subst (λ (steps : List Step). Lead c.args.first steps c.args.last) (sym all) (subst (λ (e : ℕ). Lead e (reverse c.loop-event.steps.items) c.args.last) c.loop-event-test.false inv.leads);
    }
