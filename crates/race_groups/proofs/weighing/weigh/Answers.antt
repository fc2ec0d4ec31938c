use Rattle.std.proofs.Common.{◌≡◌, ◌<◌, ◌==◌, length, slice_index, refl, arith}
use Rattle.std.proofs.lemmas.Bool.{cond-true, eq-eqb}
use Rattle.std.proofs.lemmas.List.Elements.{All-get_or}
use Rattle.std.proofs.lemmas.List.Sums.{sum_by_more_le}
use Rattle.race_groups.specs.Counting.{weigh}
use Rattle.race_groups.proofs.weighing.weigh.Goals as goal

pub overflow_add-sums : goal.overflow_add-sums
overflow_add-sums c =
    let classes = c.args.classes.now in
    let events = c.args.events.now in
    let i = c.loop-event.event-index in
    let k = slice_index classes (slice_index events i) in
    let fits = sum_by_more_le (weigh classes c.args.left k) events i 0 c.loop-event-test.true in
    let here : weigh classes c.args.left k (slice_index events i) ≡ c.args.left = cond-true (k == k) c.args.left 0 (eq-eqb k k refl) in
    let inside : slice_index events i < length classes = All-get_or (λ e. e < length classes) events i 0 c.loop-event-test.true c.requires.events in
    let within : k < length c.args.sums.now = All-get_or (λ n. n < length c.args.sums.now) classes (slice_index events i) 0 inside c.requires.classes in
    omega (arith, fits, here, c.loop-event.invariant k (omega (arith, within, c.loop-event.auto.sums)), c.requires.room k within)
