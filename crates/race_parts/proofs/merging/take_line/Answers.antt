use Rattle.std.proofs.Common.{ℕ, List, OnOk, codes, subst}
use Rattle.serde_json.specs.View.{view}
use Rattle.race_parts.specs.Members.{said_text}
use Rattle.race_parts.specs.Parts.{AddsOnly}
use Rattle.race_parts.proofs.MergingLemmas.{if_err-map, line_clash}
use Rattle.race_parts.proofs.merging.take_line.Goals as goal

pub returns-in-Ok-clause-clash : goal.returns-in-Ok-clause-clash
returns-in-Ok-clause-clash c =
    let line = view c.args.line.now in
    if_err-map c.put_copy.result
    (λ why. line_clash c.args.parts.now (said_text (codes "name") line) (said_text (codes "text") line) _ _ why c.text_of.ensures c.text_of-text.ensures c.in-Ok.ensures.ok)
    c.put_copy.ensures.clash

pub returns-in-Ok-clause-added : goal.returns-in-Ok-clause-added
returns-in-Ok-clause-added c =
    subst (λ (name : List ℕ). OnOk c.put_copy.result (AddsOnly c.args.parts.now c.put_copy.new.parts name)) c.text_of.ensures c.put_copy.ensures.added
