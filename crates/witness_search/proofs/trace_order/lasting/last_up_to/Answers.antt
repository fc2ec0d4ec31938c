use Rattle.std.proofs.Common.{leb, rules}
use Rattle.std.proofs.lemmas.List.Sorted.{IsPartitionPoint-from_clause}
use Rattle.witness_search.proofs.trace_order.LastLemmas.{parted_up_to, none_up_to, last_of}
use Rattle.witness_search.proofs.trace_order.lasting.last_up_to.Goals as goal

pub returns-then-count-eq0-clause-none : goal.returns-then-count-eq0-clause-none
returns-then-count-eq0-clause-none c =
    let xs = c.args.events.now in
    let rising = c.requires.rising in
    let point = IsPartitionPoint-from_clause (λ y. leb y c.args.end) _ _ c.partition_point-count.ensures.partitioned (parted_up_to xs rising c.args.end)
    (λ a r q k. search rules) in
    λ _. none_up_to xs rising c.args.end _ c.partition_point-count.ensures.bound point c.if-count-eq0.true

pub returns-clause-last : goal.returns-clause-last
returns-clause-last c =
    let xs = c.args.events.now in
    let rising = c.requires.rising in
    let point = IsPartitionPoint-from_clause (λ y. leb y c.args.end) _ _ c.partition_point-count.ensures.partitioned (parted_up_to xs rising c.args.end)
    (λ a r q k. search rules) in
    last_of xs rising c.args.end _ c.partition_point-count.ensures.bound point c.if-count-eq0.false
