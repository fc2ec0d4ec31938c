use Rattle.std.proofs.Common.{[], length, append-nil, ap, sym, refl, arith, inr}
use Rattle.rapid_text.specs.Recording.{Recording}
use Rattle.explain_report.proofs.SectionLemmas.{held_past}
use Rattle.explain_report.proofs.apart.append_section.Goals as goal

pub returns-then-lock-locks : goal.returns-then-lock-locks
returns-then-lock-locks c = ([], sym (append-nil _), inr (λ lt. absurd (omega (arith, c.if-lock-locks.true, c.locks.ensures.len, ap (λ (r : Recording). length r.locks) c.indexed-indexed.ensures)), refl))

pub returns-then-event-len : goal.returns-then-event-len
returns-then-event-len c =
    ([], sym (append-nil _), inr (λ lt. held_past c.args.analysis.now.events c.args.event c.args.lock (omega (arith, c.if-event-len.true, c.len.ensures.len, ap (λ (r : Recording). length r.events) c.indexed-indexed.ensures)), refl))

pub returns-in-None : goal.returns-in-None
returns-in-None c =
    ([], sym (append-nil _), inr (λ lt. c.held_since.ensures.none c.in-None.is, refl))
