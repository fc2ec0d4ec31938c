use Rattle.std.proofs.Common.{◌≡◌, ◌≤◌, ◌+◌, ◌-◌, ◌++◌, ◌∷◌, [], length, true, false, refl, sym, ap, ◌∙◌, arith}
use Rattle.witness_search.specs.Searches.{marked_events}
use Rattle.witness_search.proofs.StepLemmas.{IsSearched-start, IsSearched-more, refusal_of-next, first_shown-at, first_shown-stuck, first_shown-end, same_Ok}
use Rattle.witness_search.proofs.trace_order.LeftLemmas.{left_end, left_stuck, longer_by_one}
use Rattle.witness_search.proofs.searching.search.Goals as goal

pub loop-step-init : goal.loop-step-init
loop-step-init c = record { trace = c.requires.trace; searched = IsSearched-start _ _ _ _ _; long = omega arith; left = refl; all = refl }

pub returns-then-shows-clause-shown : goal.returns-then-shows-clause-shown
returns-then-shows-clause-shown c =
    λ _. first_shown-at c.loop-step.invariant.searched _ c.loop-step.auto.step-end
    (rw (← c.loop-step.invariant.trace) (sym c.shows.ensures.test ∙ c.if-shows.true))

pub returns-in_default-clause-none : goal.returns-in_default-clause-none
returns-in_default-clause-none c =
    λ _. first_shown-stuck c.loop-step.invariant.searched _
    (rw (← c.loop-step.invariant.trace) (sym c.shows.ensures.test ∙ c.if-shows.false)) (sym c.in_default.ensures)

pub returns-in_default-clause-left : goal.returns-in_default-clause-left
returns-in_default-clause-left c =
    let T = c.args.indexed.now.events in
    let N = marked_events T c.args.aim.now.wanted.items in
    λ _. left_stuck T c.args.aim.now.first c.args.aim.now.second N c.args.schedule.now.events c.loop-step.step c.loop-step.schedule.events c.loop-step.invariant.searched c.loop-step.invariant.long (sym c.in_default.ensures)
    c.args.left.now (c.args.left.now - c.loop-step.step) c.loop-step.auto.step-end refl

pub take_step-requires-clause-enabled : goal.take_step-requires-clause-enabled
take_step-requires-clause-enabled c =
    let N = marked_events c.args.indexed.now.events c.args.aim.now.wanted.items in
    refusal_of-next _ c.args.aim.now.first c.args.aim.now.second N _ _ (sym c.in-Some.ensures)

pub loop-step-preserved : goal.loop-step-preserved
loop-step-preserved c = record {
  trace = c.in_ok-take_step.ensures.trace;
  searched =
      rw c.in_ok-take_step.ensures.events (IsSearched-more c.loop-step.invariant.searched
      (rw (← c.loop-step.invariant.trace) (sym c.shows.ensures.test ∙ c.if-shows.false)) _ (sym c.in-Some.ensures));
  long = ap length c.in_ok-take_step.ensures.events ∙ longer_by_one c.loop-step.schedule.events c.in-Some.event _ c.loop-step.invariant.long ∙ omega arith;
  left = c.loop-step.invariant.left;
  all = c.loop-step.invariant.all;
}

pub returns-clause-shown : goal.returns-clause-shown
returns-clause-shown c =
    λ is. first_shown-at c.loop-step.invariant.searched _ c.loop-step.auto.step-end
    (rw (← c.loop-step.invariant.trace) (sym c.shows-2.ensures.test ∙ same_Ok c.shows-2.result true is))

pub returns-clause-none : goal.returns-clause-none
returns-clause-none c =
    let end : c.args.left.now ≤ c.loop-step.step = c.loop-step-test.false in
    λ is. first_shown-end c.loop-step.invariant.searched _ (omega (arith, end, c.loop-step.auto.step-end))
    (rw (← c.loop-step.invariant.trace) (sym c.shows-2.ensures.test ∙ same_Ok c.shows-2.result false is))

pub returns-clause-left : goal.returns-clause-left
returns-clause-left c =
    let T = c.args.indexed.now.events in
    let N = marked_events T c.args.aim.now.wanted.items in
    let end : c.args.left.now ≤ c.loop-step.step = c.loop-step-test.false in
    λ _. left_end T c.args.aim.now.first c.args.aim.now.second N c.args.schedule.now.events c.loop-step.step c.loop-step.schedule.events c.loop-step.invariant.searched c.loop-step.invariant.long c.args.left.now
    (omega (arith, end, c.loop-step.auto.step-end))
