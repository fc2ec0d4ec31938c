use Rattle.std.proofs.Common.{◌≡◌, Some, subst, arith}
use Rattle.std.proofs.lemmas.Bool.{false≢true}
use Rattle.rapid_text.specs.Recording.{Recording}
use Rattle.trace_rules.specs.Rules.{IsDisciplined}
use Rattle.event_index.specs.Events.{thread_at}
use Rattle.event_index.proofs.CallerLemmas.{thread_here}
use Rattle.deadlock_triage.proofs.NestLemmas.{beyond-nested, nested-beyond}
use Rattle.deadlock_triage.proofs.requests.is_nested.Goals as goal

pub returns-then-reach-event : goal.returns-then-reach-event
returns-then-reach-event c =
    let r = c.args.analysis.now in
    let q = c.indexed-indexed.result.now in
    let n = c.args.event in
    let t = c.event.result.thread in
    let of : thread_at r.events n ≡ Some t = subst (λ (p : Recording). thread_at p.events n ≡ Some t) c.indexed-indexed.ensures (thread_here q.events n c.event.result c.event.ensures.found) in
    let rules : IsDisciplined r.events = subst (λ (p : Recording). IsDisciplined p.events) c.indexed-indexed.ensures c.event.ensures.disciplined in (
      λ so. absurd (false≢true so),
      λ is. let far = nested-beyond r n c.args.reach.now c.requires.reach rules c.requires.event t of is in absurd (omega (arith, far, c.if-reach-event.true)),
    )

pub returns : goal.returns
returns c =
    let r = c.args.analysis.now in
    let q = c.indexed-indexed.result.now in
    let n = c.args.event in
    let t = c.event.result.thread in
    let of : thread_at r.events n ≡ Some t = subst (λ (p : Recording). thread_at p.events n ≡ Some t) c.indexed-indexed.ensures (thread_here q.events n c.event.result c.event.ensures.found) in
    let rules : IsDisciplined r.events = subst (λ (p : Recording). IsDisciplined p.events) c.indexed-indexed.ensures c.event.ensures.disciplined in (
      λ so. beyond-nested r n c.args.reach.now c.requires.reach rules c.requires.event t of (c.is_request.ensures.request.0 so) c.if-reach-event.false,
      λ is. c.is_request.ensures.request.1 is.request,
    )
