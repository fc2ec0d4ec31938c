use Rattle.std.proofs.Common.{rules, ◌≡◌, ◌≢◌}
use Rattle.witness_search.proofs.trace_order.FrontLemmas.{some_front, some_second}
use Rattle.witness_search.proofs.trace_order.fronts.fronts_of.Goals as goal

pub returns-then-first-pair-clause-fronts : goal.returns-then-first-pair-clause-fronts
returns-then-first-pair-clause-fronts c =
    let T = c.args.indexed.now.events in
    let other : c.front_of-first.result ≢ c.args.pair.0 = search rules in
    record {
      first = c.front_of-first.ensures.front;
      second = c.front_of-second.ensures.front;
      first_within = c.front_of-first.ensures.within;
      second_within = c.front_of-second.ensures.within;
      some = some_front T c.args.pair.0 c.args.pair.1 c.front_of-first.result c.front_of-first.ensures.front other;
    }

pub returns-then-second-pair-clause-fronts : goal.returns-then-second-pair-clause-fronts
returns-then-second-pair-clause-fronts c =
    let T = c.args.indexed.now.events in
    let other : c.front_of-second.result ≢ c.args.pair.1 = search rules in
    record {
      first = c.front_of-first.ensures.front;
      second = c.front_of-second.ensures.front;
      first_within = c.front_of-first.ensures.within;
      second_within = c.front_of-second.ensures.within;
      some = some_second T c.args.pair.0 c.args.pair.1 c.front_of-second.result c.front_of-second.ensures.front other;
    }
