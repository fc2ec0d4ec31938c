use Rattle.std.proofs.Common.{length, refl}
use Rattle.std.specs.Cmp.{booleans_Decides}
use Rattle.std.proofs.lemmas.Option.{slice_get_read}
use Rattle.race_groups.proofs.least_pairs.lanes.is_of.Goals as goal

pub returns-then-lane-thread : goal.returns-then-lane-thread
returns-then-lane-thread c = λ same.
    let lanes = c.args.lanes.now in
    let lane = c.in-Some.lane.now in
    let told = c.in-Some.ensures.lookup in
    record {
      lane = lane;
      at = slice_get_read lanes (length lanes) c.args.number lane refl told.3.0 told.1;
      thread_is = c.if-lane-thread.true;
      writing_is = (booleans_Decides lane.is_writing c.args.is_writing).0 same;
    }
