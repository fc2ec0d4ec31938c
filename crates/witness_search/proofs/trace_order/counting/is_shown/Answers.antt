use Rattle.std.proofs.Common.{sym, ◌∙◌}
use Rattle.witness_search.proofs.trace_order.SearchLemmas.{shown_first, shown_second}
use Rattle.witness_search.proofs.trace_order.counting.is_shown.Goals as goal

pub returns-then-not-is_ready : goal.returns-then-not-is_ready
returns-then-not-is_ready c =
    λ P start last at.
    sym c.if-not-is_ready.true
    ∙ shown_first c.args.indexed.now.events P c.args.aim.now.first c.args.aim.now.second c.is_ready.result c.requires.conflict (c.is_ready.ensures P start last at) c.if-not-is_ready.true

pub returns : goal.returns
returns c =
    λ P start last at.
    shown_second c.args.indexed.now.events P c.args.aim.now.first c.args.aim.now.second c.is_ready.result c.is_ready-2.result c.requires.conflict
    (c.is_ready.ensures P start last at) c.if-not-is_ready.false (c.is_ready-2.ensures P start last at)
