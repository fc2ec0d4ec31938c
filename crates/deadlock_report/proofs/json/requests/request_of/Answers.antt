use Rattle.std.proofs.Common.{◌∷◌, [], ap, sym, ◌∙◌}
use Rattle.std.proofs.lemmas.Result.{IfOk-weaker}
use Rattle.rapid_text.specs.Recording.{Recording}
use Rattle.explain_report.specs.Causes.{lock_taken}
use Rattle.serde_json.specs.Data.{Data}
use Rattle.deadlock_report.specs.json.Objects.{told_request}
use Rattle.deadlock_report.proofs.json.ObjectLemmas.{request_at-there}
use Rattle.deadlock_report.proofs.json.requests.request_of.Goals as goal

pub returns : goal.returns
returns c =
    let r = c.args.analysis.now in
    let e = c.args.request in
    let d = c.args.other in
    let same = c.lock_of-wanted.ensures.lock ∙ ap (λ (q : Recording). lock_taken q.events d) c.indexed.ensures in
    IfOk-weaker c.told_request.result _ _
    (λ made is. ap (λ (x : Data). x ∷ []) (is ∙ ap (told_request r e) same) ∙ sym (request_at-there r e d c.requires))
    c.told_request.ensures
