use Rattle.std.proofs.Common.{◌≡◌, slice_index, sym, ap, subst, ◌∙◌, inl, inr, arith}
use Rattle.std.specs.List.{slice_get}
use Rattle.std.proofs.lemmas.Bool.{cases_lt}
use Rattle.std.proofs.lemmas.Option.{same_Some, slice_get-get_or, slice_get_within}
use Rattle.race_groups.specs.least_pairs.Uses.{AreUses, AreUsesHeld}
use Rattle.race_groups.specs.declared.least_pairs.uses.Use.{Use}
use Rattle.race_groups.proofs.least_pairs.FirstLemmas.{AreFirstsHeld-from, AreFirstsNoted-trans, AreUsesHeld-more}
use Rattle.race_groups.proofs.least_pairs.firsts.Places.note_variable.Goals as goal

pub loop-at-preserved : goal.loop-at-preserved
loop-at-preserved c =
    let s = c.args.self.now in
    let r = s.indexed.now in
    let place = slice_index s.places.now in
    let rows = s.groups.now.rows.items in
    let x = c.args.variable in
    let uses = c.as_slice-uses.result.now in
    let at = c.loop-at.at in
    let had = c.loop-at.invariant in
    let mid = c.loop-at.firsts.items in
    let new = c.note_all.new.firsts.items in
    let noted = c.note_all.ensures.noted in
    record {
      noted = AreFirstsNoted-trans r place rows c.args.firsts.now.items mid new had.noted noted;
      held = λ k j u v low here there writes.
          elim (cases_lt k at) [
            | inl before ↦ AreUsesHeld-more r place rows x mid new u v noted (had.held k j u v before here there writes)
            | inr from ↦
                let is : at ≡ k = omega (arith, from, low) in
                let one = same_Some _ u (sym (slice_get-get_or uses at _ c.loop-at-test.true) ∙ ap (slice_get uses) is ∙ here) in
                subst (λ (w : Use). AreUsesHeld r.events place x rows new w v) one (c.note_all.ensures.held (ap (λ (w : Use). w.is_writing) one ∙ writes) j v there)
          ];
    }

pub returns-clause-held : goal.returns-clause-held
returns-clause-held c =
    let s = c.args.self.now in
    let T = s.indexed.now.events in
    let place = slice_index s.places.now in
    let x = c.args.variable in
    let uses = c.as_slice-uses.result.now in
    let are = subst (AreUses T place x c.args.accesses.now) (sym c.as_slice-uses.ensures.value) c.in_ok-found.ensures in
    AreFirstsHeld-from T place x s.groups.now.rows.items c.loop-at.firsts.items c.args.accesses.now uses are c.requires.accesses
    (λ k j u v here there writes. c.loop-at.invariant.held k j u v (omega (arith, slice_get_within uses k u here, c.loop-at-test.false)) here there writes)
