use Rattle.std.proofs.Common.{◌≡◌, ◌<◌, ◌∙◌, get_or, length, take, refl, sym, ap, subst, arith, List, ℕ}
use Rattle.std.proofs.lemmas.List.{take_all, take_more}
use Rattle.std.proofs.lemmas.Option.{slice_get_read}
use Rattle.variable_uses.specs.Held.{AreUsesWith}
use Rattle.variable_uses.proofs.LockLemmas.{AreUsesBefore-none, AreUsesBefore-one, AreUsesWith-begin, AreUsesWith-more}
use Rattle.variable_uses.proofs.TotalLemmas.{holds_none, holds_use}
use Rattle.variable_uses.proofs.locks.add_use.Goals as goal

pub returns-then-numbers-event-eq0-clause-uses : goal.returns-then-numbers-event-eq0-clause-uses
returns-then-numbers-event-eq0-clause-uses c = AreUsesBefore-none c.args.indexed.now.events c.args.numbers.now c.args.event c.args.lists.now.items c.if-numbers-event-eq0.true c.requires.uses

pub loop-lock-preserved : goal.loop-lock-preserved
loop-lock-preserved c =
    let locks : List ℕ = c.as_slice-locks.result.now in
    let at : ℕ = c.loop-lock.lock-index in
    record {
      len = c.add_to.ensures.len ∙ c.loop-lock.invariant.len;
      uses =
          subst (λ ls. AreUsesWith c.args.indexed.now.events c.args.numbers.now c.args.event ls c.add_to.new.lists.items) (sym (take_more c.as_slice-locks.result.now c.loop-lock.lock-index 0 c.loop-lock-test.true))
          (AreUsesWith-more c.args.indexed.now.events c.args.numbers.now c.args.event (take c.loop-lock.lock-index c.as_slice-locks.result.now) (get_or c.as_slice-locks.result.now c.loop-lock.lock-index 0) c.loop-lock.lists.items
          c.add_to.new.lists.items c.loop-lock.invariant.uses c.in_ok-add_to.ensures.put);
    }

pub returns-clause-uses : goal.returns-clause-uses
returns-clause-uses c =
    let held = c.args.held.now.items in
    let u = c.index.result.now in
    let within : c.event.result.thread < length c.args.held.now.items = omega (arith, c.event.ensures.named.0, c.requires.threads) in
    let is = slice_get_read held (length held) c.event.result.thread u refl within c.index.ensures in
    let whole : take c.loop-lock.lock-index c.as_slice-locks.result.now ≡ c.index.result.now.items = take_all c.loop-lock.lock-index c.as_slice-locks.result.now (omega (arith, c.loop-lock-test.false)) ∙ c.as_slice-locks.ensures.value in
    AreUsesBefore-one c.args.indexed.now.events c.args.numbers.now c.args.event c.event.result held u c.loop-lock.lists.items c.event.ensures.found (omega (arith, c.if-numbers-event-eq0.false)) c.requires.held is
    (subst (λ ls. AreUsesWith c.args.indexed.now.events c.args.numbers.now c.args.event ls c.loop-lock.lists.items) whole c.loop-lock.invariant.uses)

pub returns-then-numbers-event-eq0-clause-count : goal.returns-then-numbers-event-eq0-clause-count
returns-then-numbers-event-eq0-clause-count c = holds_none c.args.indexed.now c.args.numbers.now c.args.event c.if-numbers-event-eq0.true

pub returns-clause-count : goal.returns-clause-count
returns-clause-count c =
    let held = c.args.held.now.items in
    let u = c.index.result.now in
    let within : c.event.result.thread < length c.args.held.now.items = omega (arith, c.event.ensures.named.0, c.requires.threads) in
    let is = slice_get_read held (length held) c.event.result.thread u refl within c.index.ensures in
    ap length c.as_slice-locks.ensures.value ∙ holds_use c.args.indexed.now c.event.ensures.well_formed c.args.event held c.requires.held c.args.numbers.now c.event.result u c.event.ensures.found is (omega (arith, c.if-numbers-event-eq0.false))
