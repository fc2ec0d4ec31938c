use Rattle.std.proofs.Common.{◌≡◌, ℕ, ◌<◌, Some, get_or, sym, ap, ◌∙◌, subst}
use Rattle.std.proofs.lemmas.Option.{same_Some, none-some}
use Rattle.event_index.specs.Events.{thread_at}
use Rattle.event_index.specs.Lookups.{section_end}
use Rattle.event_index.proofs.CallerLemmas.{thread_here}
use Rattle.must_order.specs.Sections.{IsOwed}
use Rattle.must_order.proofs.OwedLemmas.{settled_by, owed_by_last, if_some}
use Rattle.must_order.proofs.sections.Sections.owed_by.Goals as goal

pub returns-in-None-clause-none : goal.returns-in-None-clause-none
returns-in-None-clause-none c =
    let T = c.args.indexed.now.events in
    let of = thread_here T c.args.event c.event-own.result c.event-own.ensures.found in
    λ _. settled_by T c.event-own.ensures.disciplined c.args.event c.event-own.result.thread of (λ t. get_or c.args.row.now t 0) c.requires.begun
    c.args.lock c.args.thread c.last_counted-last.result (λ is. c.if-own-thread.false (sym is)) (c.requires.inside c.event-own.result.thread of)
    c.last_counted-last.ensures.of c.last_counted-last.ensures.place
    (λ p found here r ends. absurd (none-some p (c.in-None.ensures.last ∙ found)))

pub returns-in-Some-clause-owed : goal.returns-in-Some-clause-owed
returns-in-Some-clause-owed c =
    let T = c.args.indexed.now.events in
    let of = thread_here T c.args.event c.event-own.result c.event-own.ensures.found in
    if_some c.end_after.result
    (λ o. (o.0 ≡ c.in-Some.begun) × (thread_at T c.in-Some.begun ≡ Some c.args.thread) × (section_end T c.in-Some.begun ≡ Some o.1) × (c.last_counted-last.result < o.1))
    (IsOwed T c.args.event (λ t. get_or c.args.row.now t 0))
    (λ o f. subst (λ (p : ℕ). IsOwed T c.args.event (λ t. get_or c.args.row.now t 0) (p, o.1)) (sym f.0) (owed_by_last T c.event-own.ensures.disciplined c.args.event c.event-own.result.thread of (λ t. get_or c.args.row.now t 0) c.requires.begun
    c.args.lock c.args.thread c.last_counted-last.result (λ is. c.if-own-thread.false (sym is)) (c.requires.inside c.event-own.result.thread of)
    c.last_counted-last.ensures.of c.last_counted-last.ensures.place c.in-Some.begun o.1 (sym c.in-Some.ensures.last) f.1 f.2 f.3).0)
    c.end_after.ensures.found

pub returns-in-Some-clause-earlier : goal.returns-in-Some-clause-earlier
returns-in-Some-clause-earlier c =
    let T = c.args.indexed.now.events in
    let of = thread_here T c.args.event c.event-own.result c.event-own.ensures.found in
    if_some c.end_after.result
    (λ o. (o.0 ≡ c.in-Some.begun) × (thread_at T c.in-Some.begun ≡ Some c.args.thread) × (section_end T c.in-Some.begun ≡ Some o.1) × (c.last_counted-last.result < o.1))
    (λ o. o.1 < c.args.event)
    (λ o f. (owed_by_last T c.event-own.ensures.disciplined c.args.event c.event-own.result.thread of (λ t. get_or c.args.row.now t 0) c.requires.begun
    c.args.lock c.args.thread c.last_counted-last.result (λ is. c.if-own-thread.false (sym is)) (c.requires.inside c.event-own.result.thread of)
    c.last_counted-last.ensures.of c.last_counted-last.ensures.place c.in-Some.begun o.1 (sym c.in-Some.ensures.last) f.1 f.2 f.3).1)
    c.end_after.ensures.found

pub returns-in-Some-clause-none : goal.returns-in-Some-clause-none
returns-in-Some-clause-none c =
    let T = c.args.indexed.now.events in
    let of = thread_here T c.args.event c.event-own.result c.event-own.ensures.found in
    λ none. settled_by T c.event-own.ensures.disciplined c.args.event c.event-own.result.thread of (λ t. get_or c.args.row.now t 0) c.requires.begun
    c.args.lock c.args.thread c.last_counted-last.result (λ is. c.if-own-thread.false (sym is)) (c.requires.inside c.event-own.result.thread of)
    c.last_counted-last.ensures.of c.last_counted-last.ensures.place
    (λ p found here r ends.
    let is : c.in-Some.begun ≡ p = same_Some c.in-Some.begun p (c.in-Some.ensures.last ∙ found) in
    c.end_after.ensures.none none (ap (thread_at T) is ∙ here) r (ap (section_end T) is ∙ ends))
