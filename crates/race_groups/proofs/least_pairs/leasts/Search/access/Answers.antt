use Rattle.std.proofs.Common.{◌≡◌, slice_get, sym, ap, ◌∙◌, subst, arith, inl, inr}
use Rattle.std.proofs.lemmas.Bool.{cases_eq}
use Rattle.std.proofs.lemmas.Option.{get_or_from_slice_get, slice_get_within}
use Rattle.race_groups.specs.least_pairs.Going.{AreTakenWith}
use Rattle.race_groups.specs.declared.least_pairs.lanes.Lane.{Lane}
use Rattle.race_groups.proofs.least_pairs.HeldLemmas.{AreMore-chain}
use Rattle.race_groups.proofs.least_pairs.TakenLemmas.{AreTakenBefore-more, AreTakenWith-more}
use Rattle.race_groups.proofs.least_pairs.leasts.Search.access.Goals as goal

pub below-requires-clause-before : goal.below-requires-clause-before
below-requires-clause-before c =
    AreTakenBefore-more c.args.self.now c.args.later.variable c.args.later.event c.args.leasts.now c.loop-at.leasts c.loop-at.invariant.more c.requires.before

pub loop-at-preserved : goal.loop-at-preserved
loop-at-preserved c =
    let s = c.args.self.now in
    let later = c.args.later in
    let lanes = c.args.lanes.now in
    let at = c.loop-at.at in
    let old = c.loop-at.leasts in
    let new = c.below.new.leasts in
    let done = c.in_ok-below.ensures in
    record {
      found = done.found;
      more = AreMore-chain s.most later.variable c.args.leasts.now old new c.loop-at.invariant.more done.more;
      noted = done.noted;
      taken = λ i lane lt is. elim (cases_eq i at) [
        | inl same ↦
            let here : c.index-lanes-at.result ≡ lane =
            c.index-lanes-at.is ∙ get_or_from_slice_get lanes at lane c.index-lanes-at.result (ap (slice_get lanes) (sym same) ∙ is)
            in
            subst (λ (l : Lane). AreTakenWith s new l later) here done.taken
        | inr apart ↦ AreTakenWith-more s old new lane later done.more (c.loop-at.invariant.taken i lane (omega (arith, lt)) is)
      ];
    }

pub returns-clause-taken : goal.returns-clause-taken
returns-clause-taken c = λ i lane is.
    let lt = slice_get_within c.args.lanes.now i lane is in
    c.loop-at.invariant.taken i lane (omega (arith, lt, c.loop-at-test.false)) is
