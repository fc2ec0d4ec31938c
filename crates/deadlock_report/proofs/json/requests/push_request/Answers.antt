use Rattle.std.proofs.Common.{◌++◌, List, length, map, append-nil, ap, sym, ◌∙◌, arith}
use Rattle.rapid_text.specs.Recording.{Recording}
use Rattle.serde_json.specs.Data.{Data}
use Rattle.serde_json.specs.View.{view}
use Rattle.deadlock_report.proofs.json.ObjectLemmas.{request_at-none}
use Rattle.deadlock_report.proofs.json.requests.push_request.Goals as goal

pub returns-then-request-len : goal.returns-then-request-len
returns-then-request-len c =
    let old = map view c.args.both.now.items in
    sym
    (ap (λ (ds : List Data). old ++ ds)
    (request_at-none c.args.analysis.now c.args.request c.args.other
    (omega (arith, c.if-request-len.true, c.len.ensures.len, ap (λ (r : Recording). length r.events) c.indexed.ensures)))
    ∙ append-nil old)
