use Rattle.std.proofs.Common.{◌<◌, length, slice_index, ap, arith}
use Rattle.event_index.specs.Lookups.{events_of}
use Rattle.race_groups.proofs.EarlierLemmas.{lane_below, lane_above, lane_all}
use Rattle.race_groups.proofs.cuts.EarlierCut.end.Goals as goal
use Rattle.race_groups.proofs.cuts.EarlierCut.end.Goals.{then-loop-end-test+else-lane-end, else-loop-end-test}

pub loop-end-preserved : goal.loop-end-preserved
loop-end-preserved c =
    let T = c.args.self.now.indexed.now.events in
    let is = c.thread_events-lane.ensures.events in
    let size = ap length is in
    let here = ap (λ xs. slice_index xs c.loop-end.end) is in
    lane_below T c.args.thread c.loop-end.end c.args.later (omega (arith, c.loop-end-test.true, size)) (omega (arith, c.if-lane-end.true, here))

pub returns : goal.returns
returns c =
    let T = c.args.self.now.indexed.now.events in
    let is = c.thread_events-lane.ensures.events in
    let size = ap length is in
    let here = ap (λ xs. slice_index xs c.loop-end.end) is in
    let early = c.loop-end.invariant in
    record {
      end = elim c.loop-end-test.branch [
        | then-loop-end-test+else-lane-end w ↦
            let low : c.loop-end.end < length (events_of T c.args.thread) = omega (arith, w.loop-end-test, size) in
            let over = lane_above T c.args.thread c.loop-end.end c.args.later low (omega (arith, w.if-lane-end, here)) in
            omega (arith, over, early)
        | else-loop-end-test w ↦
            let all = lane_all T c.args.thread c.args.later (omega (arith, c.requires.can.0)) in
            omega (arith, all, early, w.loop-end-test, size)
      ];
    }
