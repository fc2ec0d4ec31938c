use Rattle.std.proofs.Common.{get_or, nat_eq}
use Rattle.std.specs.HashMap.{get}
use Rattle.witness_search.proofs.trace_order.SearchLemmas.{IsKept-same}
use Rattle.witness_search.proofs.trace_order.noting.note_next.Goals as goal

pub returns-in-None : goal.returns-in-None
returns-in-None c = IsKept-same c.args.indexed.now.events (λ t. get_or c.args.aim.now.start.items t 0) (get nat_eq c.args.last.now)
