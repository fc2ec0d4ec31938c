use Rattle.std.proofs.Common.{rules, ◌≡◌, ◌<◌, ◌≤◌, get_or, length, ◌∙◌, arith}
use Rattle.std.proofs.lemmas.List.{get_or_default}
use Rattle.std.proofs.lemmas.List.Elements.{Contains-get_or}
use Rattle.witness_search.specs.Searches.{IsSought, Adds}
use Rattle.witness_search.proofs.FoundLemmas.{AreFound-length, Adds-same}
use Rattle.witness_search.proofs.WantedLemmas.{IsBegun-bases, IsBegun-sought, IsClosedUpTo-sought, IsWanted-within, TellWanted-end}
use Rattle.witness_search.proofs.wanting.wanted_for.Goals as goal

pub loop-at-init : goal.loop-at-init
loop-at-init c =
    record {
      len = c.in_ok-take_in-2.ensures.len ∙ c.in_ok-take_in.ensures.len ∙ search rules;
      found = c.in_ok-take_in-2.ensures.found;
      begun = IsBegun-bases _ _ _ _ _ (Adds-same c.base.ensures.base (rw (← c.new.ensures.items) c.in_ok-take_in.ensures.adds))
          (Adds-same c.base-2.ensures.base c.in_ok-take_in-2.ensures.adds);
      closed = λ i d low. absurd (omega arith);
    }

pub take_in_sought-requires-clause-event : goal.take_in_sought-requires-clause-event
take_in_sought-requires-clause-event c =
    let T = c.args.indexed.now.events in
    let P = c.loop-at.wanted.events.items in
    let lt : c.loop-at.at < length P = omega (arith, c.loop-at-test.true, c.len-in-loop-at.ensures) in
    let within = c.loop-at.invariant.begun.wanted (get_or P c.loop-at.at c.index-event.result.now) (Contains-get_or P c.loop-at.at c.index-event.result.now lt) in
    omega (arith, IsWanted-within T c.len.ensures.disciplined c.args.first c.args.second _ within, c.index-event.ensures)

pub loop-at-smaller : goal.loop-at-smaller
loop-at-smaller c =
    let lt : c.loop-at.at < length c.loop-at.wanted.events.items = omega (arith, c.loop-at-test.true, c.len-in-loop-at.ensures) in
    omega (arith, lt, c.loop-at.invariant.len, AreFound-length _ _ c.loop-at.invariant.found)

pub loop-at-preserved : goal.loop-at-preserved
loop-at-preserved c =
    let P = c.loop-at.wanted.events.items in
    let at = c.loop-at.at in
    let lt : at < length P = omega (arith, c.loop-at-test.true, c.len-in-loop-at.ensures) in
    let same : c.index-event.result.now ≡ get_or P at 0 = c.index-event.ensures ∙ get_or_default P at _ 0 lt in
    let adds : Adds (IsSought c.args.indexed.now.events (get_or P at 0)) P c.take_in_sought.new.self.events.items = rw (← same) c.in_ok-take_in_sought.ensures.adds in
    record {
      len = c.in_ok-take_in_sought.ensures.len ∙ c.loop-at.invariant.len;
      found = c.in_ok-take_in_sought.ensures.found;
      begun = IsBegun-sought _ _ _ at P _ lt c.loop-at.invariant.begun c.loop-at.invariant.closed adds;
      closed = IsClosedUpTo-sought _ _ _ at P _ lt c.loop-at.invariant.begun c.loop-at.invariant.closed adds;
    }

pub returns : goal.returns
returns c =
    let all : length c.loop-at.wanted.events.items ≤ c.loop-at.at = omega (arith, c.loop-at-test.false, c.len-in-loop-at.ensures) in
    let inv = c.loop-at.invariant in
    TellWanted-end _ c.len.ensures.disciplined _ _ _ _ _ all inv.len inv.found inv.begun inv.closed
