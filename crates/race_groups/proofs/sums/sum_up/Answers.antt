use Rattle.std.proofs.Common.{◌≡◌, ◌+◌, ◌==◌, ◌<◌, ◌≤◌, true, false, All, length, slice_index, refl, sym, ap, subst, ◌∙◌, arith}
use Rattle.std.proofs.lemmas.Bool.{eq-eqb, ne_eqb}
use Rattle.event_index.specs.Lookups.{events_of}
use Rattle.race_groups.specs.Counting.{AreFronts, class_count}
use Rattle.race_groups.proofs.WeightLemmas.{weight-le, left_few, left_some, below_sum-le, below_part, AreSums-begin, AreSums-same, AreSums-moved, AreSums-skipped, AreSums-end}
use Rattle.race_groups.proofs.sums.sum_up.Goals as goal
use Rattle.race_groups.proofs.sums.sum_up.Goals.{then-classed-event, else-classed-event}

pub count_class-left-requires-clause-few : goal.count_class-left-requires-clause-few
count_class-left-requires-clause-few g c = omega (arith, c.thread_events-lane.ensures.len, c.requires.formed.events)

pub loop-at-init : goal.loop-at-init
loop-at-init g c =
    let T = c.args.classed.indexed.now.events in
    let threads = length c.args.classed.indexed.now.threads in
    let n = length c.args.sums.now in
    AreSums-begin T threads n c.args.classed.numbers.now c.args.own c.args.class (g.C.Cut.end_of c.args.cut.now) c.count_class-left.result
    threads n c.args.fronts.now c.args.sums.now c.requires.fronts c.requires.sums refl refl
    (c.count_class-left.ensures ∙ ap (class_count c.args.classed.numbers.now c.args.class) c.thread_events-lane.ensures.events)

pub weigh_all-requires-clause-left : goal.weigh_all-requires-clause-left
weigh_all-requires-clause-left g c =
    let T = c.args.classed.indexed.now.events in
    let few = left_few T (length c.args.classed.indexed.now.threads) (length c.args.sums.now) c.args.classed.numbers.now c.args.own c.args.class (g.C.Cut.end_of c.args.cut.now) c.loop-at.at c.loop-at.left c.loop-at.fronts c.loop-at.sums c.loop-at.invariant in
    let size = ap length c.thread_events-lane.ensures.events in
    omega (arith, few, size, c.thread_events-lane.ensures.len, c.requires.formed.events)

pub weigh_all-requires-clause-room : goal.weigh_all-requires-clause-room
weigh_all-requires-clause-room g c = λ k lt.
    let r = c.args.classed.indexed.now in
    let T = r.events in
    let end = g.C.Cut.end_of c.args.cut.now in
    let lane = events_of T c.args.own in
    let size = ap length c.thread_events-lane.ensures.events in
    let short : length lane ≤ 1048576 = omega (arith, size, c.thread_events-lane.ensures.len, c.requires.formed.events) in
    let few = left_few T (length r.threads) (length c.args.sums.now) c.args.classed.numbers.now c.args.own c.args.class end c.loop-at.at c.loop-at.left c.loop-at.fronts c.loop-at.sums c.loop-at.invariant in
    let light = weight-le r c.requires.formed c.args.classed.numbers.now c.loop-at.fronts k c.loop-at.left (omega (arith, few, short)) c.loop-at.invariant.within in
    let known : All (λ e. e < length T) lane = subst (λ xs. All (λ e. e < length T) xs) c.thread_events-lane.ensures.events c.thread_events-lane.ensures.within in
    let whole = below_sum-le r c.requires.formed c.args.classed.numbers.now c.args.own c.args.class end c.requires.cut.within c.requires.own k known short in
    let part = below_part T (length r.threads) c.args.classed.numbers.now c.args.own c.args.class end k c.loop-at.at in
    let is = c.loop-at.invariant.counted k (omega (arith, lt, c.loop-at.invariant.len)) in
    omega (arith, is, light, whole, part)

pub loop-at-preserved : goal.loop-at-preserved
loop-at-preserved g c =
    let r = c.args.classed.indexed.now in
    let T = r.events in
    let end = g.C.Cut.end_of c.args.cut.now in
    let lane = events_of T c.args.own in
    let u = c.args.own in
    let j = c.args.class in
    let n = length c.args.sums.now in
    let at = c.loop-at.at in
    let classes = c.args.classed.numbers.now in
    let here : slice_index c.thread_events-lane.result.now at ≡ slice_index lane at = ap (λ xs. slice_index xs at) c.thread_events-lane.ensures.events in
    let inside : at < length lane = omega (arith, c.loop-at-test.true, ap length c.thread_events-lane.ensures.events) in
    elim c.if-classed-event.branch [
      | then-classed-event w ↦
          let this : (slice_index classes (slice_index lane at) == j) ≡ true = eq-eqb (slice_index classes (slice_index lane at)) j (ap (slice_index classes) (sym here) ∙ w.if-classed-event.true) in
          let some = left_some T (length r.threads) n classes u j end at c.loop-at.left c.loop-at.fronts c.loop-at.sums c.loop-at.invariant inside this in
          AreSums-same T (length r.threads) n classes u j end (at + 1) c.if-classed-event.left c.if-classed-event.left w.weigh_all.new.fronts c.if-classed-event.fronts w.weigh_all.new.sums c.if-classed-event.sums refl w.fronts-is w.sums-is
          (AreSums-moved T (length r.threads) n classes u j end at c.loop-at.left c.loop-at.fronts c.loop-at.sums c.loop-at.invariant inside c.requires.cut c.requires.own this c.if-classed-event.left w.weigh_all.new.fronts w.weigh_all.new.sums
          (omega (arith, some, w.left-is)) (w.weigh_all.auto.fronts ∙ c.loop-at.invariant.fronts_len) (w.weigh_all.auto.sums ∙ c.loop-at.invariant.len)
          (subst (λ e. AreFronts (length r.threads) u (end e) w.weigh_all.new.fronts) here w.weigh_all.ensures.fronts) w.weigh_all.ensures.inside w.weigh_all.ensures.moved)
      | else-classed-event w ↦
          let other : (slice_index classes (slice_index lane at) == j) ≡ false = ne_eqb (slice_index classes (slice_index lane at)) j (λ e. w.if-classed-event.false (ap (slice_index classes) here ∙ e)) in
          AreSums-same T (length r.threads) n classes u j end (at + 1) c.loop-at.left c.if-classed-event.left c.loop-at.fronts c.if-classed-event.fronts c.loop-at.sums c.if-classed-event.sums w.left-is w.fronts-is w.sums-is
          (AreSums-skipped T (length r.threads) n classes u j end at c.loop-at.left c.loop-at.fronts c.loop-at.sums c.loop-at.invariant inside other)
    ]

pub returns : goal.returns
returns g c = record {
  counted = λ k lt.
      let r = c.args.classed.indexed.now in
      let T = r.events in
      AreSums-end T (length r.threads) (length c.args.sums.now) c.args.classed.numbers.now c.args.own c.args.class (g.C.Cut.end_of c.args.cut.now) c.loop-at.at c.loop-at.left c.loop-at.fronts c.loop-at.sums c.loop-at.invariant
      (omega (arith, c.loop-at-test.false, ap length c.thread_events-lane.ensures.events)) k (omega (arith, lt, c.loop-at.invariant.len));
}
