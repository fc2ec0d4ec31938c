use Rattle.std.proofs.Common.{◌++◌, ◌<◌, List, ℕ, Option, length, append-nil, ap, sym, ◌∙◌, arith}
use Rattle.std.proofs.lemmas.Result.{on_ok_weaker}
use Rattle.rapid_text.specs.Recording.{Recording}
use Rattle.explain_report.specs.Causes.{lock_taken}
use Rattle.deadlock_report.specs.lines.Lines.{told_lines}
use Rattle.deadlock_report.proofs.lines.LineLemmas.{request_lines-none, request_lines-there}
use Rattle.deadlock_report.proofs.lines.requests.append_request.Goals as goal

pub returns-then-request-len : goal.returns-then-request-len
returns-then-request-len c =
    let r = c.args.analysis.now in
    let old = c.args.out.now.items in
    sym
    (ap (λ (t : List ℕ). old ++ t)
    (request_lines-none r c.args.folder.now c.args.place.now c.args.request c.args.other
    (omega (arith, c.if-request-len.true, c.len.ensures.len, ap (λ (q : Recording). length q.events) c.indexed.ensures)))
    ∙ append-nil old)

pub returns : goal.returns
returns c =
    let r = c.args.analysis.now in
    let f = c.args.folder.now in
    let place = c.args.place.now in
    let e = c.args.request in
    let d = c.args.other in
    let old = c.args.out.now.items in
    let same = c.lock_of-wanted.ensures.lock ∙ ap (λ (q : Recording). lock_taken q.events d) c.indexed-2.ensures in
    let lt : e < length r.events = omega (arith, c.if-request-len.false, c.len.ensures.len, ap (λ (q : Recording). length q.events) c.indexed.ensures) in
    on_ok_weaker c.append_told.result
    (λ told.
    told
    ∙ ap (λ (w : Option ℕ). old ++ told_lines r f place e w) same
    ∙ ap (λ (t : List ℕ). old ++ t) (sym (request_lines-there r f place e d lt)))
    c.append_told.ensures
