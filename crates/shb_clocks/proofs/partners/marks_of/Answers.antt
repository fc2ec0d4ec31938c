use Rattle.std.proofs.Common.{◌≡◌, ◌-◌, ◌+◌, ◌<◌, length, arith}
use Rattle.shb_clocks.specs.Partners.{AreMarks}
use Rattle.shb_clocks.proofs.AheadLemmas.{AreMarks-set}
use Rattle.shb_clocks.proofs.partners.marks_of.Goals as goal

pub pass-requires-clause-ahead : goal.pass-requires-clause-ahead
pass-requires-clause-ahead c =
    let next : c.len-len.result - c.loop-done.done ≡ c.len-len.result - 1 - c.loop-done.done + 1 = omega arith in
    rw (← next) c.loop-done.invariant.ahead

pub loop-done-preserved : goal.loop-done-preserved
loop-done-preserved c =
    let T = c.args.indexed.now.events in
    let next : c.len-len.result - c.loop-done.done ≡ c.len-len.result - 1 - c.loop-done.done + 1 = omega arith in
    let back : c.len-len.result - 1 - c.loop-done.done ≡ c.len-len.result - (c.loop-done.done + 1) = omega arith in
    let low : c.len-len.result - 1 - c.loop-done.done < length T = omega (arith, c.len-len.ensures.len) in
    let marks : AreMarks T (c.len-len.result - 1 - c.loop-done.done + 1) c.loop-done.marks.items = rw (← next) c.loop-done.invariant.marks in
    record {
      ahead = rw (← back) c.pass.ensures.ahead;
      marks = rw (← back) (AreMarks-set T _ c.pass.result _ marks low c.pass.ensures.none);
    }

pub returns : goal.returns
returns c =
    let all : c.len-len.result - c.loop-done.done ≡ 0 = omega arith in
    rw (← all) c.loop-done.invariant.marks
