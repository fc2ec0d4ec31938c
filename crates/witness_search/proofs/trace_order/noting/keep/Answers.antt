use Rattle.std.proofs.Common.{get_or, nat_eq, sym}
use Rattle.std.specs.HashMap.{get}
use Rattle.std.proofs.lemmas.Bool.{ne_eqb}
use Rattle.witness_search.proofs.trace_order.SearchLemmas.{IsKept-same, IsKept-put}
use Rattle.witness_search.proofs.trace_order.noting.keep.Goals as goal

pub returns-in-Some : goal.returns-in-Some
returns-in-Some c = IsKept-same c.args.indexed.now.events (λ t. get_or c.args.aim.now.start.items t 0) (get nat_eq c.args.last.now)

pub returns : goal.returns
returns c =
    IsKept-put c.args.indexed.now.events (λ t. get_or c.args.aim.now.start.items t 0) (get nat_eq c.args.last.now) (get nat_eq c.insert.new.self)
    c.args.variable c.last_of_start-found.result (sym c.in_default.ensures.value) c.last_of_start-found.ensures c.in_ok-insert.ensures.updates.1
    (λ y other. c.in_ok-insert.ensures.updates.2 y (ne_eqb c.args.variable y (λ is. other (sym is))))
