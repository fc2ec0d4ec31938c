use Rattle.std.proofs.Common.{ℕ, List, length, ap, ◌∙◌, arith}
use Rattle.event_index.specs.Lookups.{events_of}
use Rattle.race_groups.specs.Counting.{class_count}
use Rattle.race_groups.proofs.SumLemmas.{sum_by_below_more}
use Rattle.race_groups.proofs.TotalLemmas.{count_few}
use Rattle.race_groups.proofs.totals.totals_of.Goals as goal

pub count-requires-clause-room : goal.count-requires-clause-room
count-requires-clause-room c = λ i lt.
    let r = c.args.indexed.now in
    let few = count_few r c.len-len.ensures.well_formed c.args.classes.now.numbers.items i c.loop-thread.thread (omega (arith, c.loop-thread-test.true, c.threads-thread-end.ensures.len)) in
    let size = ap length c.thread_events.ensures.events in
    omega (arith, few, size, c.loop-thread.invariant.counted i lt)

pub loop-thread-preserved : goal.loop-thread-preserved
loop-thread-preserved c = record {
  len = c.count.auto.counts ∙ c.loop-thread.invariant.len;
  counted = λ i lt.
      let T = c.args.indexed.now.events in
      let numbers = c.args.classes.now.numbers.items in
      let more = sum_by_below_more (λ t. class_count numbers i (events_of T t)) c.loop-thread.thread in
      let now = c.count.ensures.counted i lt in
      let events = ap (class_count numbers i) c.thread_events.ensures.events in
      let same = ap (λ (ns : List ℕ). class_count ns i c.thread_events.result.now) c.as_slice-numbers.ensures.value in
      omega (arith, more, now, events, same, c.loop-thread.invariant.counted i (omega (arith, lt, c.count.auto.counts)));
}
