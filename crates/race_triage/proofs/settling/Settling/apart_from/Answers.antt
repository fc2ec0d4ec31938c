use Rattle.std.proofs.Common.{ℕ, All, take, slice_index, sym, subst, arith}
use Rattle.std.proofs.lemmas.List.{take_all, take_more}
use Rattle.std.proofs.lemmas.List.Elements.{All-push}
use Rattle.race_triage.specs.Settled.{IsApartAt}
use Rattle.race_triage.proofs.settling.Settling.apart_from.Goals as goal

pub loop-at-preserved : goal.loop-at-preserved
loop-at-preserved c =
    let s = c.args.self.now in
    let es = c.args.members.now in
    let P : ℕ → Type 0 = λ a. IsApartAt s.analysis.now.events (slice_index s.places.now) s.between a c.args.later in
    subst (All P) (sym (take_more es c.loop-at.at _ (omega (arith, c.loop-at-test.true, c.loop-at.auto.at-end))))
    (All-push P (take c.loop-at.at es) _ c.loop-at.invariant (c.in_ok-is_apart.ensures c.if-not-branch.false))

pub returns : goal.returns
returns c so =
    let s = c.args.self.now in
    let es = c.args.members.now in
    let P : ℕ → Type 0 = λ a. IsApartAt s.analysis.now.events (slice_index s.places.now) s.between a c.args.later in
    subst (All P) (take_all c.loop-at.at es (omega (arith, c.loop-at-test.false, c.loop-at.auto.at-end))) c.loop-at.invariant
