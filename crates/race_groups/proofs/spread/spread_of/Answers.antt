use Rattle.std.proofs.Common.{◌≡◌, ◌*◌, ◌<◌, ℕ, List, length, sum_by, ap, ◌∙◌, arith}
use Rattle.event_index.specs.Lookups.{before, events_of}
use Rattle.race_groups.specs.Counting.{class_count}
use Rattle.race_groups.proofs.SumLemmas.{sum_by_below_more, sum_by_each}
use Rattle.race_groups.proofs.TotalLemmas.{count_few}
use Rattle.race_groups.proofs.spread.spread_of.Goals as goal

pub note_thread-requires-clause-room : goal.note_thread-requires-clause-room
note_thread-requires-clause-room c = λ k.
    let r = c.args.indexed.now in
    let numbers = c.args.classes.now.numbers.items in
    let u = c.loop-thread.thread in
    let low : u < length r.threads = omega (arith, c.loop-thread-test.true, c.threads-thread-end.ensures.len) in
    let few = count_few r c.len-len.ensures.well_formed numbers k u low in
    let has : ℕ → ℕ = λ t. class_count numbers k (events_of r.events t) in
    let one = sum_by_each (λ t. has t * 1) has (before u) (λ t. omega arith) in
    omega (arith, few, one, c.loop-thread.invariant.weighed k (λ t. 1))

pub loop-thread-preserved : goal.loop-thread-preserved
loop-thread-preserved c = record {
  len = c.in_ok-note_thread.ensures.len ∙ c.loop-thread.invariant.len;
  within = λ k. c.in_ok-note_thread.ensures.within k;
  weighed = λ k w.
      let T = c.args.indexed.now.events in
      let numbers = c.args.classes.now.numbers.items in
      let u = c.loop-thread.thread in
      let more = sum_by_below_more (λ t. class_count numbers k (events_of T t) * w t) u in
      let same = ap (λ (ns : List ℕ). class_count ns k (events_of T u) * w u) c.as_slice-numbers.ensures.value in
      omega (arith, more, same, c.in_ok-note_thread.ensures.noted k w, c.loop-thread.invariant.weighed k w);
}

pub returns : goal.returns
returns c =
    let r = c.args.indexed.now in
    let inv = c.loop-thread.invariant in
    let end : c.loop-thread.thread ≡ length r.threads = omega (arith, c.loop-thread-test.false, c.loop-thread.auto.thread-end, c.threads-thread-end.ensures.len) in
    record {
      len = inv.len;
      within = inv.within;
      weighed = λ k w lt.
          inv.weighed k w
          ∙ ap (λ n. sum_by (λ t. class_count c.args.classes.now.numbers.items k (events_of r.events t) * w t) (before n)) end;
    }
