use Rattle.std.proofs.Common.{◌≡◌, length, ap, arith}
use Rattle.event_index.specs.Lookups.{events_of}
use Rattle.race_groups.specs.Counting.{flagged_class, flagged_sum}
use Rattle.race_groups.specs.Counts.{keeps}
use Rattle.race_groups.specs.Ends.{lower_of, upper_of}
use Rattle.race_groups.proofs.FlagLemmas.{flagged_fits}
use Rattle.race_groups.proofs.LoopLemmas.{later_sum-le}
use Rattle.race_groups.proofs.SumLemmas.{sum_by_below_more}
use Rattle.race_groups.proofs.heavy.add_classes.Goals as goal

pub add_flagged-requires-clause-room : goal.add_flagged-requires-clause-room
add_flagged-requires-clause-room c = λ k p q le.
    let T = c.args.basis.indexed.now.events in
    let keep = keeps c.args.basis.classes.now.lists.keys k in
    let numbers = c.args.basis.classes.now.numbers.items in
    let infos = c.args.basis.classes.now.infos.items in
    let flags = c.args.flags.now in
    let upper = upper_of T k in
    let lower = lower_of T c.args.basis.forced.now k in
    let part = flagged_fits T keep numbers infos c.args.thread upper p q flags c.requires.basis.numbers c.requires.basis.classes c.loop-class.class (omega (arith, c.loop-class-test.true, c.requires.flags)) in
    let few = later_sum-le T keep numbers infos c.args.thread upper p q (events_of T c.args.thread) in
    omega (arith, part, few, c.loop-class.invariant.rows k p q le, c.requires.room k p q le)

pub loop-class-preserved : goal.loop-class-preserved
loop-class-preserved c = record {
  kept = c.in_ok-add_flagged.ensures.rows;
  few = omega (arith, c.if-len-limit.false, c.len.ensures.len);
  rows = λ k p q le.
      let T = c.args.basis.indexed.now.events in
      let keep = keeps c.args.basis.classes.now.lists.keys k in
      let numbers = c.args.basis.classes.now.numbers.items in
      let infos = c.args.basis.classes.now.infos.items in
      let flags = c.args.flags.now in
      let upper = upper_of T k in
      let lower = lower_of T c.args.basis.forced.now k in
      let more = sum_by_below_more (flagged_class T keep numbers infos c.args.thread upper p q flags) c.loop-class.class in
      let less = sum_by_below_more (flagged_class T keep numbers infos c.args.thread lower p q flags) c.loop-class.class in
      omega (arith, more, less, c.in_ok-add_flagged.ensures.ok k p q le, c.loop-class.invariant.rows k p q le);
}

pub returns-then-len-limit-clause-too_many : goal.returns-then-len-limit-clause-too_many
returns-then-len-limit-clause-too_many c = λ refused. (
  record { are = c.in_ok-add_flagged.ensures.rows; more = omega (arith, c.if-len-limit.true, c.len.ensures.len); once = c.len.ensures.unique },
  λ k p q le.
      let T = c.args.basis.indexed.now.events in
      let keep = keeps c.args.basis.classes.now.lists.keys k in
      let numbers = c.args.basis.classes.now.numbers.items in
      let infos = c.args.basis.classes.now.infos.items in
      let flags = c.args.flags.now in
      let upper = upper_of T k in
      let lower = lower_of T c.args.basis.forced.now k in
      let part = flagged_fits T keep numbers infos c.args.thread upper p q flags c.requires.basis.numbers c.requires.basis.classes c.loop-class.class (omega (arith, c.loop-class-test.true, c.requires.flags)) in
      omega (arith, part, c.in_ok-add_flagged.ensures.ok k p q le, c.loop-class.invariant.rows k p q le),
)

pub returns-clause-ok : goal.returns-clause-ok
returns-clause-ok c = λ k p q le.
    let T = c.args.basis.indexed.now.events in
    let keep = keeps c.args.basis.classes.now.lists.keys k in
    let numbers = c.args.basis.classes.now.numbers.items in
    let infos = c.args.basis.classes.now.infos.items in
    let flags = c.args.flags.now in
    let upper = upper_of T k in
    let lower = lower_of T c.args.basis.forced.now k in
    let whole : c.loop-class.class ≡ length infos = omega (arith, c.loop-class-test.false, c.loop-class.auto.class-end, c.requires.flags) in
    let same = ap (flagged_sum T keep numbers infos c.args.thread upper p q flags) whole in
    let other = ap (flagged_sum T keep numbers infos c.args.thread lower p q flags) whole in
    omega (arith, same, other, c.loop-class.invariant.rows k p q le)
