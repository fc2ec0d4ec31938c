use Rattle.std.proofs.Common.{◌≡◌, ◌+◌, ◌<◌, length, take, sum_by, ap, arith}
use Rattle.std.proofs.lemmas.List.{take_all}
use Rattle.std.proofs.lemmas.List.Sums.{sum_by_more, sum_by-take-le}
use Rattle.event_index.specs.Lookups.{events_of}
use Rattle.race_groups.specs.Counting.{unflagged_count}
use Rattle.race_groups.specs.Counts.{keeps}
use Rattle.race_groups.specs.Ends.{lower_of, upper_of}
use Rattle.race_groups.proofs.FlagLemmas.{flagged_all}
use Rattle.race_groups.proofs.LoopLemmas.{later_sum-le}
use Rattle.race_groups.proofs.counted.add_flags.Goals as goal

pub add_light-requires-clause-room : goal.add_light-requires-clause-room
add_light-requires-clause-room c = λ k p q le.
    let T = c.args.basis.indexed.now.events in
    let lane = events_of T c.args.thread in
    let keep = keeps c.args.basis.classes.now.lists.keys k in
    let numbers = c.args.basis.classes.now.numbers.items in
    let infos = c.args.basis.classes.now.infos.items in
    let flags = c.args.flags.now in
    let upper = upper_of T k in
    let lower = lower_of T c.args.basis.forced.now k in
    let f = unflagged_count T keep numbers infos c.args.thread upper p q flags in
    let g = unflagged_count T keep numbers infos c.args.thread lower p q flags in
    let part = sum_by-take-le f lane c.loop-at.at in
    let whole = flagged_all T keep numbers infos c.args.thread upper p q flags c.requires.basis.numbers c.requires.basis.classes in
    let few = later_sum-le T keep numbers infos c.args.thread upper p q lane in
    omega (arith, part, whole, few, c.loop-at.invariant.rows k p q le, c.requires.room k p q le)

pub loop-at-preserved : goal.loop-at-preserved
loop-at-preserved c = record {
  kept = c.in_ok-add_light.ensures.rows;
  few = omega (arith, c.if-len-limit.false, c.len.ensures.len);
  fronts = c.in_ok-add_light.ensures.fronts;
  rows = λ k p q le.
      let T = c.args.basis.indexed.now.events in
      let lane = events_of T c.args.thread in
      let keep = keeps c.args.basis.classes.now.lists.keys k in
      let numbers = c.args.basis.classes.now.numbers.items in
      let infos = c.args.basis.classes.now.infos.items in
      let flags = c.args.flags.now in
      let upper = upper_of T k in
      let lower = lower_of T c.args.basis.forced.now k in
      let f = unflagged_count T keep numbers infos c.args.thread upper p q flags in
      let g = unflagged_count T keep numbers infos c.args.thread lower p q flags in
      let inside : c.loop-at.at < length lane = omega (arith, c.loop-at-test.true, ap length c.thread_events-at-end.ensures.events) in
      let more = sum_by_more f lane c.loop-at.at 0 inside in
      let less = sum_by_more g lane c.loop-at.at 0 inside in
      omega (arith, more, less, c.in_ok-add_light.ensures.ok k p q le, c.loop-at.invariant.rows k p q le);
}

pub loop-at-init : goal.loop-at-init
loop-at-init c = record {
  kept = c.in_ok-add_classes.ensures.rows;
  few = c.in_ok-add_classes.ensures.kept;
  fronts = c.in_ok-fronts.ensures c.args.thread;
  rows = λ k p q le. omega (arith, c.in_ok-add_classes.ensures.ok k p q le);
}

pub returns-clause-ok : goal.returns-clause-ok
returns-clause-ok c = λ k p q le.
    let T = c.args.basis.indexed.now.events in
    let lane = events_of T c.args.thread in
    let keep = keeps c.args.basis.classes.now.lists.keys k in
    let numbers = c.args.basis.classes.now.numbers.items in
    let infos = c.args.basis.classes.now.infos.items in
    let flags = c.args.flags.now in
    let upper = upper_of T k in
    let lower = lower_of T c.args.basis.forced.now k in
    let f = unflagged_count T keep numbers infos c.args.thread upper p q flags in
    let g = unflagged_count T keep numbers infos c.args.thread lower p q flags in
    let whole : take c.loop-at.at lane ≡ lane = take_all c.loop-at.at lane (omega (arith, c.loop-at-test.false, ap length c.thread_events-at-end.ensures.events)) in
    let same = ap (sum_by f) whole in
    let other = ap (sum_by g) whole in
    let all = flagged_all T keep numbers infos c.args.thread upper p q flags c.requires.basis.numbers c.requires.basis.classes in
    let rest = flagged_all T keep numbers infos c.args.thread lower p q flags c.requires.basis.numbers c.requires.basis.classes in
    omega (arith, same, other, all, rest, c.loop-at.invariant.rows k p q le)

pub returns-then-len-limit-clause-too_many : goal.returns-then-len-limit-clause-too_many
returns-then-len-limit-clause-too_many c = λ refused. (
  record { are = c.in_ok-add_light.ensures.rows; more = omega (arith, c.if-len-limit.true, c.len.ensures.len); once = c.len.ensures.unique },
  λ k p q le.
      let T = c.args.basis.indexed.now.events in
      let lane = events_of T c.args.thread in
      let keep = keeps c.args.basis.classes.now.lists.keys k in
      let numbers = c.args.basis.classes.now.numbers.items in
      let infos = c.args.basis.classes.now.infos.items in
      let flags = c.args.flags.now in
      let upper = upper_of T k in
      let lower = lower_of T c.args.basis.forced.now k in
      let f = unflagged_count T keep numbers infos c.args.thread upper p q flags in
      let g = unflagged_count T keep numbers infos c.args.thread lower p q flags in
      let inside : c.loop-at.at < length lane = omega (arith, c.loop-at-test.true, ap length c.thread_events-at-end.ensures.events) in
      let more = sum_by_more f lane c.loop-at.at 0 inside in
      let part = sum_by-take-le f lane (c.loop-at.at + 1) in
      let all = flagged_all T keep numbers infos c.args.thread upper p q flags c.requires.basis.numbers c.requires.basis.classes in
      omega (arith, more, part, all, c.in_ok-add_light.ensures.ok k p q le, c.loop-at.invariant.rows k p q le),
)
