use Rattle.std.proofs.Common.{◌≡◌, ℕ, length, ap, subst, arith, Err}
use Rattle.race_groups.specs.Basis.{AreInTurn, thread_of}
use Rattle.race_groups.specs.Counting.{total_ends}
use Rattle.race_groups.specs.Turns.{in_turn}
use Rattle.race_groups.specs.Counts.{keeps}
use Rattle.race_groups.specs.Ends.{lower_of, upper_of}
use Rattle.race_groups.specs.declared.rows.RowsRefusal.TheVariants.{TooMany}
use Rattle.race_groups.proofs.CompleteLemmas.{same_Err}
use Rattle.race_groups.proofs.PairLemmas.{room_is, sum_by_below-le}
use Rattle.race_groups.proofs.SumLemmas.{sum_by_below_more}
use Rattle.race_groups.proofs.TotalGroupLemmas.{total_room}
use Rattle.race_groups.proofs.TurnLemmas.{totals_in-le, turns_le}
use Rattle.race_groups.proofs.counted.add_pairs.Goals as goal

pub add_own-requires-clause-room : goal.add_own-requires-clause-room
add_own-requires-clause-room c = λ k p q le.
    let b = c.args.basis in
    let r = b.indexed.now in
    let formed = c.requires.basis.formed in
    let keep = keeps b.classes.now.lists.keys k in
    let numbers = b.classes.now.numbers.items in
    let infos = b.classes.now.infos.items in
    let room = room_is r formed keep numbers infos (upper_of r.events k) p q c.loop-thread.thread (omega (arith, c.loop-thread-test.true, c.threads-thread-end.ensures.len)) in
    let all = total_room r formed keep numbers infos (total_ends r.events k) p q in
    let few = totals_in-le b c.requires.basis k p q b.from in
    let own = turns_le b.every b.from (λ t. thread_of b t keep (upper_of r.events k) p q) c.loop-thread.thread in
    omega (arith, room, all, few, own, c.loop-thread.invariant.counts k p q le)

pub loop-thread-preserved : goal.loop-thread-preserved
loop-thread-preserved c = record {
  rows = c.in-Ok.ensures.rows;
  kept = c.in-Ok.ensures.kept;
  counts = λ k p q le.
      let b = c.args.basis in
      let T = b.indexed.now.events in
      let keep = keeps b.classes.now.lists.keys k in
      let more = sum_by_below_more (in_turn b.every b.from (λ t. thread_of b t keep (upper_of T k) p q)) c.loop-thread.thread in
      let less = sum_by_below_more (in_turn b.every b.from (λ t. thread_of b t keep (lower_of T b.forced.now k) p q)) c.loop-thread.thread in
      omega (arith, more, less, c.in-Ok.ensures.ok k p q le, c.loop-thread.invariant.counts k p q le);
}

pub returns-clause-ok : goal.returns-clause-ok
returns-clause-ok c =
    let done : c.loop-thread.thread ≡ length c.args.basis.indexed.now.threads = omega (arith, c.loop-thread-test.false, c.threads-thread-end.ensures.len, c.loop-thread.auto.thread-end) in
    subst (λ (n : ℕ). AreInTurn c.args.basis c.args.basis.from n c.loop-thread.rows) done c.loop-thread.invariant.counts

pub returns-in-Err-clause-too_many : goal.returns-in-Err-clause-too_many
returns-in-Err-clause-too_many c = λ refused.
    let told = c.in-Err.ensures.too_many (ap Err (same_Err c.in-Err.refusal TooMany refused)) in (
      told.0,
      λ k p q le.
          let b = c.args.basis in
          let T = b.indexed.now.events in
          let f : ℕ → ℕ = λ t. thread_of b t (keeps b.classes.now.lists.keys k) (upper_of T k) p q in
          let part = sum_by_below-le f c.loop-thread.thread (length b.indexed.now.threads) (omega (arith, c.loop-thread-test.true, c.threads-thread-end.ensures.len)) in
          omega (arith, told.1 k p q le, c.loop-thread.invariant.counts k p q le, part, totals_in-le b c.requires.basis k p q b.from, turns_le b.every b.from f c.loop-thread.thread),
    )
