use Rattle.std.proofs.Common.{◌++◌, ℕ, Option, append-nil, ap, sym, ◌∙◌}
use Rattle.std.proofs.lemmas.Result.{on_ok_weaker}
use Rattle.rapid_text.specs.Recording.{Recording}
use Rattle.deadlock_report.specs.Texts.{since_line, since_text}
use Rattle.deadlock_report.proofs.requests.append_hold.Goals as goal

pub returns-in-Some : goal.returns-in-Some
returns-in-Some c =
    let r = c.args.analysis.now in
    let l = c.args.lock in
    let old = c.args.out.now.items in
    on_ok_weaker c.append_since.result
    (λ told.
    told
    ∙ ap (λ (q : Recording). old ++ since_line q l c.in-Some.since) c.indexed.ensures
    ∙ ap (λ (o : Option ℕ). old ++ since_text r l o) c.in-Some.ensures)
    c.append_since.ensures

pub returns-in-None : goal.returns-in-None
returns-in-None c =
    let old = c.args.out.now.items in
    sym (append-nil old)
    ∙ ap (λ (o : Option ℕ). old ++ since_text c.args.analysis.now c.args.lock o) (sym c.in-None.is ∙ c.since_of.ensures)
