use Rattle.std.proofs.Common.{◌-◌, length, arith}
use Rattle.std.proofs.lemmas.List.{length-set}
use Rattle.race_groups.proofs.least_pairs.UseLemmas.{AreRuns-more}
use Rattle.race_groups.proofs.least_pairs.uses.runs_of.Goals as goal

pub loop-done-preserved : goal.loop-done-preserved
loop-done-preserved c =
    let uses = c.args.uses.now in
    let old = c.loop-done.runs.items in
    let done = c.loop-done.done in
    let at = length uses - 1 - done in
    record {
      len = omega (arith, length-set old at c.run_at.result, c.loop-done.invariant.len);
      each = AreRuns-more uses old done at c.run_at.result c.loop-done.invariant.len (omega (arith, c.loop-done-test.true)) c.run_at.ensures c.loop-done.invariant.each;
    }
