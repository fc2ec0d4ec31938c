use Rattle.std.proofs.Common.{◌-◌, ◌≤◌, length, take, drop, sum_by, slice_index, ap, arith}
use Rattle.std.proofs.lemmas.List.{length-take, length-drop}
use Rattle.race_groups.specs.Counting.{weigh}
use Rattle.race_groups.proofs.WeightLemmas.{weigh_sum-le, weight-set}
use Rattle.race_groups.proofs.weighing.weigh_on.Goals as goal

pub weigh-requires-clause-room : goal.weigh-requires-clause-room
weigh-requires-clause-room c = λ k lt.
    let from = slice_index c.args.fronts.now c.args.thread in
    let lane = c.thread_events.result.now in
    let passed = take (c.args.to - from) (drop from lane) in
    let few = weigh_sum-le c.args.classed.numbers.now c.args.left k passed c.requires.left in
    let size : length passed ≤ length lane = omega (arith, length-take (c.args.to - from) (drop from lane), length-drop from lane) in
    omega (arith, few, size, c.thread_events.ensures.len, c.requires.formed.events, c.requires.room k lt)

pub returns-clause-moved : goal.returns-clause-moved
returns-clause-moved c = λ k lt.
    let r = c.args.classed.indexed.now in
    let from = slice_index c.args.fronts.now c.args.thread in
    let f = weigh c.args.classed.numbers.now c.args.left k in
    let set_ = weight-set r.events (length r.threads) c.args.fronts.now f c.args.thread c.args.to c.requires.thread c.requires.fronts_len c.requires.from in
    let now = c.weigh.ensures.counted k lt in
    let same = ap (λ xs. sum_by f (take (c.args.to - from) (drop from xs))) c.thread_events.ensures.events in
    omega (arith, set_, now, same)
