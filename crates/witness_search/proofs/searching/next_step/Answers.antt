use Rattle.std.proofs.Common.{◌≤◌, length, sym, arith}
use Rattle.witness_search.proofs.StepLemmas.{IsStepBelow-more, next_step-least}
use Rattle.witness_search.proofs.searching.next_step.Goals as goal

pub loop-thread-preserved : goal.loop-thread-preserved
loop-thread-preserved c = rw c.lesser-least.ensures (IsStepBelow-more _ _ _ _ _ _ _ _ c.loop-thread.invariant c.step_of.ensures)

pub returns : goal.returns
returns c =
    let all : length c.args.indexed.now.threads ≤ c.loop-thread.thread =
    omega (arith, c.loop-thread-test.false, c.threads-thread-end.ensures.len, c.loop-thread.auto.thread-end) in
    sym (next_step-least c.args.indexed.now c.threads-thread-end.ensures.well_formed _ _ _ _ _ _ c.requires.marks all c.loop-thread.invariant)
