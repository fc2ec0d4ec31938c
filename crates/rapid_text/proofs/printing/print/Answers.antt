-- Each turn appends the line of one event more; the whole reads back since the trace does.
use Rattle.std.proofs.Common.{◌≡◌, ℕ, List, ◌++◌, Ok, ap, sym, ◌∙◌, subst, arith}
use Rattle.rapid_text.specs.Canonical.{canonical_text, event_text}
use Rattle.rapid_text.specs.Reading.{reading_of}
use Rattle.rapid_text.specs.Recording.{Recording}
use Rattle.rapid_text.proofs.Appended.{events_text-next, events_text-all}
use Rattle.rapid_text.proofs.printing.print.Goals as goal

pub loop-number-preserved : goal.loop-number-preserved
loop-number-preserved c =
    let r = c.args.trace.now in
    c.in_ok-append_line.ensures
    ∙ ap (λ (text : List ℕ). text ++ event_text r c.event.result c.location.result.now) c.loop-number.invariant
    ∙ sym (events_text-next r r.events r.locations c.loop-number.number c.event.result c.location.result.now c.event.ensures.found c.location.ensures)

pub returns-clause-text : goal.returns-clause-text
returns-clause-text c =
    let r = c.args.trace.now in
    c.from.ensures ∙ c.loop-number.invariant ∙ events_text-all r c.loop-number.number (omega arith) (omega arith)

pub returns-clause-reads_back : goal.returns-clause-reads_back
returns-clause-reads_back c =
    ap reading_of (returns-clause-text c) ∙ subst (λ (r : Recording). reading_of (canonical_text r) ≡ Ok r) c.trace.view_is c.trace.invariant.reads_back
