use Rattle.std.proofs.Common.{◌≡◌, ◌<◌, ◌∙◌, ℕ, Contains, Some, length, slice_get, slice_index, refl, sym, ap, subst, arith, inl, inr}
use Rattle.std.proofs.lemmas.Bool.{cases_eq}
use Rattle.std.proofs.lemmas.List.Elements.{All-get_or}
use Rattle.std.proofs.lemmas.Option.{same_Some, slice_get_read, slice_get_within}
use Rattle.race_groups.specs.least_pairs.Lanes.{IsInBunches}
use Rattle.race_groups.specs.declared.least_pairs.lanes.Bunch.{Bunch}
use Rattle.race_groups.specs.least_pairs.Windows.{of_window}
use Rattle.race_groups.proofs.least_pairs.BunchLemmas.{slice_get-from}
use Rattle.race_groups.proofs.least_pairs.HeldLemmas.{AreMore-chain}
use Rattle.race_groups.proofs.least_pairs.LaneFacts.{at_place}
use Rattle.race_groups.proofs.least_pairs.SoughtLemmas.{Has-more}
use Rattle.race_groups.proofs.least_pairs.leasts.Search.take_firsts.Goals as goal

pub loop-at-preserved : goal.loop-at-preserved
loop-at-preserved c =
    let s = c.args.self.now in
    let w = c.args.window in
    let bunches = w.lane.now.bunches.items in
    let at = c.loop-at.at in
    let old = c.loop-at.leasts in
    let new = c.take_first.new.leasts in
    let done = c.in_ok-take_first.ensures in
    record {
      found = done.found;
      more = AreMore-chain s.most w.later.variable c.args.leasts.now old new c.loop-at.invariant.more done.more;
      noted = done.noted;
      held = λ i k g lt is from to there. elim (cases_eq i at) [
        | inl same ↦
            let low = slice_get_within bunches i g is in
            let here : slice_get bunches at ≡ Some c.index.result.now = slice_get_read bunches (length bunches) at c.index.result.now refl (omega (arith, low, same)) c.index.ensures in
            let one : g ≡ c.index.result.now = same_Some g c.index.result.now (sym is ∙ ap (slice_get bunches) same ∙ here) in
            done.held k from to (subst (λ (h : Bunch). Contains h.events.items (at_place w.lane.now k)) one there)
        | inr apart ↦
            Has-more c.args.sought s old new (of_window w) (at_place w.lane.now k) w.later.event done.more
            (c.loop-at.invariant.held i k g (omega (arith, lt)) is from to there)
      ];
    }

pub returns-clause-held : goal.returns-clause-held
returns-clause-held c = λ k from to.
    let lane = c.args.window.lane.now in
    let bunches = lane.bunches.items in
    let plain = c.requires.window.lanes.begun.plain in
    let there = All-get_or (IsInBunches bunches) lane.events.items k 0 (omega (arith, to, c.requires.window.within)) plain.covered in
    let i : ℕ = there.among.0 in
    let is = slice_get-from bunches there.bunch there.among in
    let end : i < c.loop-at.at = omega (arith, there.among.1, c.loop-at-test.false, c.len-at-end.ensures, lane.bunches.ok.0, c.loop-at.auto.at-end) in
    c.loop-at.invariant.held i k there.bunch end is from to there.at
