use Rattle.std.proofs.Common.{◌≡◌, length, ◌∙◌, arith}
use Rattle.witness_search.proofs.trace_order.WriteLemmas.{AreWrites-start}
use Rattle.witness_search.proofs.trace_order.writing.no_writes.Goals as goal

pub returns : goal.returns
returns c =
    let end : c.loop-variable._variable ≡ length c.args.indexed.now.variables =
    omega (arith, c.loop-variable-test.false, c.loop-variable.auto._variable-end, c.variables-variable-end.ensures.len) in
    AreWrites-start c.args.indexed.now c.loop-variable.writes.items (c.loop-variable.invariant.len ∙ end) c.loop-variable.invariant.empty
