use Rattle.std.proofs.Common.{ap, arith, length}
use Rattle.rapid_text.specs.Recording.{Recording}
use Rattle.deadlock_triage.proofs.NestLemmas.{nested-all}
use Rattle.deadlock_triage.proofs.requests.nested_requests.Goals as goal

pub returns : goal.returns
returns c =
    nested-all c.args.analysis.now c.loop-event.event c.loop-event.nested.items
    (omega (arith, c.loop-event-test.false, c.len-event-end.ensures.len, ap (λ (q : Recording). length q.events) c.indexed-indexed.ensures)) c.loop-event.invariant.nested
