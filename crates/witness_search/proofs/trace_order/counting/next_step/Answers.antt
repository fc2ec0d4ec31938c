use Rattle.std.proofs.Common.{◌≤◌, ◌<◌, ◌+◌, ℕ, Option, IfSome, get_or, length, sym, subst, arith}
use Rattle.event_index.specs.Least.{IsLeastOf}
use Rattle.witness_search.specs.Searches.{IsStepBelow}
use Rattle.witness_search.proofs.StepLemmas.{IsStepBelow-more, next_step-least}
use Rattle.witness_search.specs.trace_order.Counting.{marks_of}
use Rattle.witness_search.proofs.trace_order.SearchLemmas.{lesser_within, no_step_below, marks_length}
use Rattle.witness_search.proofs.trace_order.counting.next_step.Goals as goal

pub loop-thread-init : goal.loop-thread-init
loop-thread-init c =
    record {
      within = tt;
      least = λ P at. no_step_below c.args.indexed.now.events c.args.aim.now.first c.args.aim.now.second (marks_of c.args.indexed.now.events (λ t. get_or c.args.aim.now.wanted.items t 0)) P;
    }

pub loop-thread-preserved : goal.loop-thread-preserved
loop-thread-preserved c =
    let T = c.args.indexed.now.events in
    let inv = c.loop-thread.invariant in
    record {
      within = subst (λ (o : Option ℕ). IfSome o (λ e. e < length T)) (sym c.lesser-least.ensures)
          (lesser_within (length T) c.loop-thread.least c.step_of.result inv.within c.step_of.ensures.within);
      least = λ P at.
          subst (IsLeastOf (IsStepBelow T c.args.aim.now.first c.args.aim.now.second (marks_of T (λ t. get_or c.args.aim.now.wanted.items t 0)) P (c.loop-thread.thread + 1)))
          (sym c.lesser-least.ensures)
          (IsStepBelow-more T c.args.aim.now.first c.args.aim.now.second (marks_of T (λ t. get_or c.args.aim.now.wanted.items t 0)) P c.loop-thread.thread
          c.loop-thread.least c.step_of.result (inv.least P at) (c.step_of.ensures.least P at));
    }

pub returns-clause-next : goal.returns-clause-next
returns-clause-next c =
    let r = c.args.indexed.now in
    let all : length r.threads ≤ c.loop-thread.thread =
    omega (arith, c.loop-thread-test.false, c.threads-thread-end.ensures.len, c.loop-thread.auto.thread-end) in
    λ P at.
    sym (next_step-least r c.threads-thread-end.ensures.well_formed c.args.aim.now.first c.args.aim.now.second c.loop-thread.thread
    (marks_of r.events (λ t. get_or c.args.aim.now.wanted.items t 0)) P c.loop-thread.least
    (marks_length r.events (λ t. get_or c.args.aim.now.wanted.items t 0)) all (c.loop-thread.invariant.least P at))

pub returns-clause-within : goal.returns-clause-within
returns-clause-within c = c.loop-thread.invariant.within
