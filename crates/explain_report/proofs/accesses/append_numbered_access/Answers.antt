use Rattle.std.proofs.Common.{ℕ, List, ◌++◌, decimal, length, append_assoc, sym, ap, ◌∙◌, arith}
use Rattle.rapid_text.specs.Recording.{Recording}
use Rattle.explain_report.specs.Accesses.{access_text}
use Rattle.explain_report.proofs.AccessLemmas.{numbered_access-there}
use Rattle.explain_report.proofs.accesses.append_numbered_access.Goals as goal

pub returns : goal.returns
returns c =
    let r = c.args.analysis.now in
    let e = c.args.event in
    let old = c.args.out.now.items in
    c.in_ok-append_access.ensures
    ∙ ap (λ (t : List ℕ). t ++ access_text r e) (c.in_ok-append_number.ensures ∙ ap (λ (n : ℕ). old ++ decimal n) c.from.ensures)
    ∙ append_assoc old (decimal e) (access_text r e)
    ∙ ap (λ (t : List ℕ). old ++ t) (sym (numbered_access-there r e (omega (arith, c.if-event-len.false, c.len.ensures.len, ap (λ (r : Recording). length r.events) c.indexed.ensures))))
