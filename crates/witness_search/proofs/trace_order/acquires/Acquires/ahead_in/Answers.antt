use Rattle.std.proofs.Common.{get_or, length, sym, ◌∙◌, subst}
use Rattle.std.proofs.lemmas.Bool.{false≢true}
use Rattle.rapid_text.specs.Recording.{Recording}
use Rattle.event_index.proofs.CallerLemmas.{thread_within}
use Rattle.witness_search.specs.trace_order.Tables.{AreReachesUpTo}
use Rattle.witness_search.proofs.trace_order.WantLemmas.{IsEndedIn-reach, IsAhead-reach, reach_read}
use Rattle.witness_search.proofs.trace_order.acquires.Acquires.ahead_in.Goals as goal

pub returns-then-is_counted-clause-none : goal.returns-then-is_counted-clause-none
returns-then-is_counted-clause-none c =
    let r = c.args.indexed.now in
    let reaches = subst (λ (q : Recording). AreReachesUpTo q.events (length q.events) c.self.inside.reach.items) (c.self.view_is ∙ c.requires.trace) c.self.invariant.reach in
    let is = reach_read r.events (λ t. get_or c.args.row.now t 0) c.args.thread c.self.inside.reach.items reaches c.in_ok-last.last c.index-end.result.now c.index-end.result.now c.in_ok-last.ensures.end c.index-end.ensures in
    λ _. IsEndedIn-reach r.events (λ t. get_or c.args.row.now t 0) c.args.thread c.in_ok-last.last c.index-end.result.now c.in_ok-last.ensures.end is
    (c.is_counted.ensures.0 c.if-is_counted.true)

pub returns-clause-ahead : goal.returns-clause-ahead
returns-clause-ahead c =
    let r = c.args.indexed.now in
    let reaches = subst (λ (q : Recording). AreReachesUpTo q.events (length q.events) c.self.inside.reach.items) (c.self.view_is ∙ c.requires.trace) c.self.invariant.reach in
    let is = reach_read r.events (λ t. get_or c.args.row.now t 0) c.args.thread c.self.inside.reach.items reaches c.in_ok-last.last c.index-end.result.now c.index-end.result.now c.in_ok-last.ensures.end c.index-end.ensures in
    IsAhead-reach r.events (λ t. get_or c.args.row.now t 0) c.args.thread c.in_ok-last.last c.index-end.result.now c.in_ok-last.ensures.end is
    (λ counted. false≢true (sym c.if-is_counted.false ∙ c.is_counted.ensures.1 counted))

pub returns-clause-within : goal.returns-clause-within
returns-clause-within c =
    let r = c.args.indexed.now in
    let reaches = subst (λ (q : Recording). AreReachesUpTo q.events (length q.events) c.self.inside.reach.items) (c.self.view_is ∙ c.requires.trace) c.self.invariant.reach in
    let is = reach_read r.events (λ t. get_or c.args.row.now t 0) c.args.thread c.self.inside.reach.items reaches c.in_ok-last.last c.index-end.result.now c.index-end.result.now c.in_ok-last.ensures.end c.index-end.ensures in
    thread_within r.events c.index-end.result.now c.args.thread (is.same ∙ c.in_ok-last.ensures.end.of)
