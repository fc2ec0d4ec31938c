use Rattle.std.proofs.Common.{◌≡◌, ℕ, ◌<◌, length, slice_index, sym, ap, ◌∙◌, subst, arith, inl, inr}
use Rattle.std.proofs.lemmas.Bool.{cases_eq}
use Rattle.race_groups.specs.least_pairs.Going.{Has}
use Rattle.race_groups.specs.least_pairs.Windows.{of_window}
use Rattle.race_groups.proofs.least_pairs.HeldLemmas.{AreMore-same, AreMore-chain}
use Rattle.race_groups.proofs.least_pairs.LaneFacts.{at_place, read_is}
use Rattle.race_groups.proofs.least_pairs.SoughtLemmas.{Has-more}
use Rattle.race_groups.proofs.least_pairs.leasts.Search.take_each.Goals as goal

pub loop-at-preserved : goal.loop-at-preserved
loop-at-preserved c =
    let s = c.args.self.now in
    let w = c.args.window in
    let lane = w.lane.now in
    let at = c.loop-at.at in
    let old = c.loop-at.leasts in
    let new = c.take_pair.new.leasts in
    let done = c.in_ok-take_pair.ensures in
    let low : at < length lane.events.items = omega (arith, c.loop-at-test.true, c.requires.window.within, c.loop-at.auto.at-end) in
    let first = read_is lane.events.items at c.index.result.now low c.index.ensures in
    record {
      found = done.found;
      more = AreMore-chain s.most w.later.variable c.args.leasts.now old new c.loop-at.invariant.more done.more;
      noted = done.noted;
      held = λ k from lt. elim (cases_eq k at) [
        | inl same ↦
            subst (λ (a : ℕ). Has c.args.sought s new (of_window w) a w.later.event) (first ∙ ap (at_place lane) (sym same)) done.held
        | inr apart ↦
            Has-more c.args.sought s old new (of_window w) (at_place lane k) w.later.event done.more (c.loop-at.invariant.held k from (omega (arith, lt)))
      ];
    }
