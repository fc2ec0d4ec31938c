use Rattle.std.proofs.Common.{◌++◌, List, length, map, append-nil, ap, sym, ◌∙◌, arith}
use Rattle.rapid_text.specs.Recording.{Recording}
use Rattle.serde_json.specs.Data.{Data}
use Rattle.serde_json.specs.View.{view}
use Rattle.triage_report.proofs.json.ObjectLemmas.{access_at-none}
use Rattle.triage_report.proofs.json.accesses.push_access.Goals as goal

pub returns-then-event-len : goal.returns-then-event-len
returns-then-event-len c =
    let old = map view c.args.both.now.items in
    sym (ap (λ (ds : List Data). old ++ ds) (access_at-none c.args.analysis.now c.args.event (omega (arith, c.if-event-len.true, c.len.ensures.len, ap (λ (r : Recording). length r.events) c.indexed.ensures))) ∙ append-nil old)
