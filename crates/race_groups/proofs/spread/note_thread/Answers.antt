use Rattle.std.proofs.Common.{◌*◌, ◌==◌, ◌<◌, cond, length, slice_index, take, ap, ◌∙◌, arith}
use Rattle.std.proofs.lemmas.List.Sums.{sum_by_more}
use Rattle.event_index.specs.Lookups.{events_of}
use Rattle.race_groups.specs.Counting.{class_count}
use Rattle.race_groups.proofs.SpreadLemmas.{count_times}
use Rattle.race_groups.proofs.spread.note_thread.Goals as goal

pub loop-at-preserved : goal.loop-at-preserved
loop-at-preserved c = record {
  len = c.in_ok-note_class.ensures.len ∙ c.loop-at.invariant.len;
  within = λ k. c.in_ok-note_class.ensures.within (length c.args.indexed.now.threads) k c.requires.thread (c.loop-at.invariant.within k);
  noted = λ k w.
      let numbers = c.args.numbers.now in
      let u = c.args.thread in
      let at = c.loop-at.at in
      let lane = events_of c.args.indexed.now.events u in
      let low : at < length lane = omega (arith, c.loop-at-test.true, ap length c.thread_events-at-end.ensures.events) in
      let shown = ap (λ xs. cond (slice_index numbers (slice_index xs at) == k) (w u) 0) c.thread_events.ensures.events in
      let more = sum_by_more (λ x. cond (slice_index numbers x == k) 1 0) lane at 0 low in
      let product = ap (λ n. n * w u) more ∙ count_times (class_count numbers k (take at lane)) (slice_index numbers (slice_index lane at) == k) (w u) in
      omega (arith, c.in_ok-note_class.ensures.noted k w, shown, product, c.loop-at.invariant.noted k w);
}
