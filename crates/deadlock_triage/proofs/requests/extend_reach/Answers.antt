use Rattle.std.proofs.Common.{◌≡◌, ◌≤◌, ◌⊎◌, ◌<◌, ℕ, Some, length, get_or, subst, ◌∙◌, arith}
use Rattle.std.proofs.lemmas.List.{get_or_default}
use Rattle.event_index.specs.Events.{thread_at}
use Rattle.event_index.proofs.CallerLemmas.{thread_here}
use Rattle.deadlock_triage.proofs.NestLemmas.{reach-more}
use Rattle.deadlock_triage.proofs.requests.extend_reach.Goals as goal

pub returns-in-Some : goal.returns-in-Some
returns-in-Some c =
    let r = c.args.indexed.now in
    let n = c.args.event in
    let reach = c.args.reach.now.items in
    let u = c.event-thread.result.thread in
    let end = c.end_of-end.result in
    let most = c.greater-most.result in
    let of : thread_at r.events n ≡ Some u = thread_here r.events n c.event-thread.result c.event-thread.ensures.found in
    let within : u < length reach = omega (arith, c.event-thread.ensures.named.0, c.requires.reach.len) in
    let read : c.index.result.now ≡ get_or reach u 0 = c.index.ensures ∙ get_or_default reach u c.index.result.now 0 within in
    let from : get_or reach u 0 ≤ most = omega (arith, c.greater-most.ensures.one, read) in
    let either : (most ≡ get_or reach u 0) ⊎ (most ≡ end) = subst (λ (k : ℕ). (most ≡ k) ⊎ (most ≡ end)) read c.greater-most.ensures.either in
    record {
      reach = reach-more r n reach c.requires.reach u c.in-Some.field-0 c.in-Some.ensures.acquires of within end most from c.greater-most.ensures.other either c.end_of-end.ensures.ends
          c.end_of-end.ensures.never;
    }
