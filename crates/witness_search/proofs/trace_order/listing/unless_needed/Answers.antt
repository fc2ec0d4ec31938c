use Rattle.std.proofs.Common.{get_or, inl, inr}
use Rattle.witness_search.specs.declared.trace_order.refusal.InOrderRefusal.TheVariants.{NotInOrder}
use Rattle.witness_search.proofs.trace_order.AnswerLemmas.{IsNeverShown-refused, HasListInOrder-uncounted, counted_read, uncounted_read}
use Rattle.witness_search.proofs.trace_order.listing.unless_needed.Goals as goal

pub returns-then-is_counted-clause-never_shown : goal.returns-then-is_counted-clause-never_shown
returns-then-is_counted-clause-never_shown c =
    let T = c.args.indexed.now.events in
    IsNeverShown-refused T c.len-len.ensures.disciplined c.args.first c.args.second NotInOrder (
      c.requires.conflict,
      inl ((c.requires.row c.args.first).0 (counted_read T c.args.first c.args.row.items c.as_slice.result.now c.is_counted.result c.as_slice.ensures.value c.is_counted.ensures c.if-is_counted.true)),
    )

pub returns-then-is_counted-2-clause-never_shown : goal.returns-then-is_counted-2-clause-never_shown
returns-then-is_counted-2-clause-never_shown c =
    let T = c.args.indexed.now.events in
    IsNeverShown-refused T c.len-len.ensures.disciplined c.args.first c.args.second NotInOrder (
      c.requires.conflict,
      inr ((c.requires.row c.args.second).0 (counted_read T c.args.second c.args.row.items c.as_slice-2.result.now c.is_counted-2.result c.as_slice-2.ensures.value c.is_counted-2.ensures c.if-is_counted-2.true)),
    )

pub returns-clause-there : goal.returns-clause-there
returns-clause-there c _ =
    let T = c.args.indexed.now.events in
    HasListInOrder-uncounted T c.args.first c.args.second (λ t. get_or c.args.row.items t 0) c.requires.row c.requires.conflict
    (uncounted_read T c.args.first c.args.row.items c.as_slice.result.now c.is_counted.result c.as_slice.ensures.value c.is_counted.ensures c.if-is_counted.false)
    (uncounted_read T c.args.second c.args.row.items c.as_slice-2.result.now c.is_counted-2.result c.as_slice-2.ensures.value c.is_counted-2.ensures c.if-is_counted-2.false)
