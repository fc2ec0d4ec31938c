use Rattle.std.proofs.Common.{◌++◌, List, ℕ, Option, length, append_assoc, ap, sym, ◌∙◌, arith}
use Rattle.rapid_text.specs.Recording.{Recording}
use Rattle.explain_report.specs.Causes.{lock_taken}
use Rattle.deadlock_report.specs.Texts.{held_text, request_line}
use Rattle.deadlock_report.proofs.PieceLemmas.{request_text-there}
use Rattle.deadlock_report.proofs.requests.append_request.Goals as goal

pub returns : goal.returns
returns c =
    let r = c.args.analysis.now in
    let e = c.args.request in
    let old = c.args.out.now.items in
    let wanted = lock_taken r.events c.args.other in
    let same = c.indexed-indexed.ensures in
    c.in_ok-append_held.ensures
    ∙ ap (λ (w : Option ℕ). c.append_line.new.out.items ++ held_text r e w) (c.lock_of.ensures.lock ∙ ap (λ (q : Recording). lock_taken q.events c.args.other) same)
    ∙ ap (λ (t : List ℕ). t ++ held_text r e wanted) (c.in_ok-append_line.ensures ∙ ap (λ (q : Recording). old ++ request_line q e) same)
    ∙ append_assoc old (request_line r e) (held_text r e wanted)
    ∙ ap (λ (t : List ℕ). old ++ t)
    (sym (request_text-there r e c.args.other (omega (arith, c.if-request-len.false, c.len.ensures.len, ap (λ (q : Recording). length q.events) same))))
