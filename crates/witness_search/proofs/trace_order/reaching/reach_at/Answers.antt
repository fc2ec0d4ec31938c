use Rattle.std.proofs.Common.{◌≡◌, ◌<◌, get_or, length, sym, subst, arith, ap, refl, ◌∙◌, ℕ}
use Rattle.std.proofs.lemmas.List.{get_or_default}
use Rattle.shb_clocks.proofs.CallerLemmas.{thread_event, thread_here}
use Rattle.witness_search.proofs.KeptLemmas.{event_there}
use Rattle.witness_search.proofs.trace_order.ReachLemmas.{IsReach-first, IsReach-next}
use Rattle.witness_search.proofs.trace_order.reaching.reach_at.Goals as goal

pub returns-in-None : goal.returns-in-None
returns-in-None c =
    let T = c.args.indexed.now.events in
    let v = event_there T c.args.event c.requires.event in
    IsReach-first T c.args.event c.own_end-own.result v.0.thread (thread_here T c.args.event v.0 v.1) c.own_end-own.ensures.own (c.in-None.ensures.none refl)

pub returns-in-Some : goal.returns-in-Some
returns-in-Some c =
    let T = c.args.indexed.now.events in
    let v = event_there T c.args.event c.requires.event in
    let q = c.in-Some.last in
    IsReach-next T c.args.event c.own_end-own.result v.0.thread (thread_here T c.args.event v.0 v.1) c.own_end-own.ensures.own
    q (get_or c.args.reach.now q 0) c.max.result c.in-Some.ensures.before (c.requires.known.of q c.in-Some.ensures.before.early) c.max.ensures
