use Rattle.std.proofs.Common.{◌≡◌, ◌<◌, length, ap, arith}
use Rattle.race_groups.specs.Basis.{total_of}
use Rattle.race_groups.specs.Counting.{total_ends}
use Rattle.race_groups.specs.Counts.{keeps}
use Rattle.race_groups.specs.Turns.{in_turn, turns_of}
use Rattle.race_groups.proofs.SumLemmas.{sum_by_below_more}
use Rattle.race_groups.proofs.TotalGroupLemmas.{total_room}
use Rattle.race_groups.proofs.TurnLemmas.{total_turns}
use Rattle.race_groups.proofs.totals.add_each.Goals as goal

pub add_own-requires-clause-room : goal.add_own-requires-clause-room
add_own-requires-clause-room c = λ k p q le.
    let b = c.args.basis in
    let low : c.loop-class.class < length b.classes.now.infos.items = omega (arith, c.loop-class-test.true, c.requires.totals.len) in
    let part = total_turns b c.requires.basis k p q b.from c.loop-class.class low in
    let few = total_room b.indexed.now c.requires.basis.formed (keeps b.classes.now.lists.keys k) b.classes.now.numbers.items b.classes.now.infos.items (total_ends b.indexed.now.events k) p q in
    omega (arith, part, few, c.loop-class.invariant.rows k p q le)

pub loop-class-preserved : goal.loop-class-preserved
loop-class-preserved c = record {
  kept = c.in_ok-add_own.ensures.rows;
  few = omega (arith, c.if-len-limit.false, c.len.ensures.len);
  rows = λ k p q le.
      let b = c.args.basis in
      let more = sum_by_below_more (in_turn b.every b.from (total_of b k p q)) c.loop-class.class in
      omega (arith, more, c.in_ok-add_own.ensures.ok k p q le, c.loop-class.invariant.rows k p q le);
}

pub returns-then-len-limit-clause-too_many : goal.returns-then-len-limit-clause-too_many
returns-then-len-limit-clause-too_many c = λ refused. (
  record { are = c.in_ok-add_own.ensures.rows; more = omega (arith, c.if-len-limit.true, c.len.ensures.len); once = c.len.ensures.unique },
  λ k p q le.
      let b = c.args.basis in
      let low : c.loop-class.class < length b.classes.now.infos.items = omega (arith, c.loop-class-test.true, c.requires.totals.len) in
      let part = total_turns b c.requires.basis k p q b.from c.loop-class.class low in
      omega (arith, part, c.in_ok-add_own.ensures.ok k p q le, c.loop-class.invariant.rows k p q le),
)

pub returns-clause-ok : goal.returns-clause-ok
returns-clause-ok c = λ k p q le.
    let b = c.args.basis in
    let whole : c.loop-class.class ≡ length b.classes.now.infos.items = omega (arith, c.loop-class-test.false, c.loop-class.auto.class-end, c.requires.totals.len) in
    omega (arith, ap (turns_of b.every b.from (total_of b k p q)) whole, c.loop-class.invariant.rows k p q le)
