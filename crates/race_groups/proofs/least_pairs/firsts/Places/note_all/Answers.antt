use Rattle.std.proofs.Common.{◌≡◌, slice_index, refl, sym, ap, subst, ◌∙◌, inl, inr, arith}
use Rattle.std.specs.List.{slice_get}
use Rattle.std.proofs.lemmas.Bool.{cases_lt}
use Rattle.std.proofs.lemmas.Option.{same_Some, slice_get-get_or, slice_get_within}
use Rattle.race_groups.specs.least_pairs.Uses.{AreUsesHeld}
use Rattle.race_groups.proofs.least_pairs.BetweenLemmas.{AreUsesHeld-owned}
use Rattle.race_groups.proofs.least_pairs.FirstLemmas.{AreFirstsNoted-trans, AreUsesHeld-more}
use Rattle.race_groups.proofs.least_pairs.firsts.Places.note_all.Goals as goal

pub loop-at-preserved-then-are_of_one_thread : goal.loop-at-preserved-then-are_of_one_thread
loop-at-preserved-then-are_of_one_thread c =
    let s = c.args.self.now in
    let uses = c.args.uses.now in
    let at = c.loop-at.at in
    let had = c.loop-at.invariant in
    let own = c.if-are_of_one_thread.ensures refl in
    let run = c.requires.runs.each at c.loop-at-test.true in
    record {
      within = run.within;
      noted = had.noted;
      held = λ k v low here.
          elim (cases_lt k at) [
            | inl before ↦ had.held k v before here
            | inr from ↦
                AreUsesHeld-owned s.indexed.now.events (slice_index s.places.now) c.args.variable s.groups.now.rows.items c.loop-at.firsts.items c.args.one v own.0 own.1
                (run.one own.0 k _ v from low (slice_get-get_or uses at _ c.loop-at-test.true) here own.2)
          ];
    }

pub loop-at-preserved : goal.loop-at-preserved
loop-at-preserved c =
    let s = c.args.self.now in
    let r = s.indexed.now in
    let place = slice_index s.places.now in
    let rows = s.groups.now.rows.items in
    let x = c.args.variable in
    let uses = c.args.uses.now in
    let at = c.loop-at.at in
    let had = c.loop-at.invariant in
    let mid = c.loop-at.firsts.items in
    let new = c.note_uses.new.firsts.items in
    let noted = c.note_uses.ensures.noted in
    record {
      within = omega (arith, c.loop-at-test.true);
      noted = AreFirstsNoted-trans r place rows c.args.firsts.now.items mid new had.noted noted;
      held = λ k v low here.
          elim (cases_lt k at) [
            | inl before ↦ AreUsesHeld-more r place rows x mid new c.args.one v noted (had.held k v before here)
            | inr from ↦
                let is : at ≡ k = omega (arith, from, low) in
                subst (AreUsesHeld r.events place x rows new c.args.one)
                (same_Some _ v (sym (slice_get-get_or uses at _ c.loop-at-test.true) ∙ ap (slice_get uses) is ∙ here)) c.note_uses.ensures.held
          ];
    }

pub returns-clause-held : goal.returns-clause-held
returns-clause-held c = λ writes k v here.
    let low = slice_get_within c.args.uses.now k v here in
    c.loop-at.invariant.held k v (omega (arith, low, c.loop-at-test.false)) here
