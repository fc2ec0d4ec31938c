use Rattle.std.proofs.Common.{[], ◌∷◌, inl, inr, refl, rules}
use Rattle.serde_json.specs.View.{view}
use Rattle.race_parts.proofs.MergingLemmas.{empty_file, if_clash-map, if_err-map, on_ok-both, on_ok-map, part_clash, part_refused, report_clash, report_refused, there-one}
use Rattle.race_parts.proofs.merging.take_file.Goals as goal

pub returns-then-is_empty-clause-err : goal.returns-then-is_empty-clause-err
returns-then-is_empty-clause-err c = empty_file c.args.text.now c.if-is_empty.ensures

pub returns-then-is_merged-clause-ok : goal.returns-then-is_merged-clause-ok
returns-then-is_merged-clause-ok c = on_ok-map c.take_report.result (λ p. (p.0, inr p.1, p.2)) c.take_report.ensures.ok

pub returns-then-is_merged-clause-held : goal.returns-then-is_merged-clause-held
returns-then-is_merged-clause-held c = on_ok-map c.take_report.result (λ p. (p.0, inr p.1, p.2)) c.take_report.ensures.held

pub returns-then-is_merged-clause-there : goal.returns-then-is_merged-clause-there
returns-then-is_merged-clause-there c = on_ok-map c.take_report.result (λ p. (p.0, inr p.1, p.2)) c.take_report.ensures.there

pub returns-then-is_merged-clause-err : goal.returns-then-is_merged-clause-err
returns-then-is_merged-clause-err c = if_err-map c.take_report.result (report_refused c.args.text.now) c.take_report.ensures.err

pub returns-then-is_merged-clause-clash : goal.returns-then-is_merged-clause-clash
returns-then-is_merged-clause-clash c =
    if_err-map c.take_report.result
    (λ why. if_clash-map why (λ other. report_clash c.args.parts.now c.args.name.now c.args.text.now c.args.file other))
    c.take_report.ensures.clash

pub returns-else-is_merged-clause-ok : goal.returns-else-is_merged-clause-ok
returns-else-is_merged-clause-ok c =
    on_ok-map c.take_part.result
    (λ p. ((c.args.name.now, c.args.text.now) ∷ [], inl (view c.in_ok-begun.begun.head, p.0, search rules, refl), p.1))
    c.take_part.ensures.ok

pub returns-else-is_merged-clause-held : goal.returns-else-is_merged-clause-held
returns-else-is_merged-clause-held c =
    on_ok-both c.take_part.result
    (λ p h. ((c.args.name.now, c.args.text.now) ∷ [], inl (view c.in_ok-begun.begun.head, p.0, search rules, refl), h))
    c.take_part.ensures.ok c.take_part.ensures.held

pub returns-else-is_merged-clause-there : goal.returns-else-is_merged-clause-there
returns-else-is_merged-clause-there c =
    on_ok-both c.take_part.result
    (λ p h. ((c.args.name.now, c.args.text.now) ∷ [], inl (view c.in_ok-begun.begun.head, p.0, search rules, refl), there-one c.take_part.new.parts (c.args.name.now, c.args.text.now) h))
    c.take_part.ensures.ok c.take_part.ensures.there

pub returns-else-is_merged-clause-err : goal.returns-else-is_merged-clause-err
returns-else-is_merged-clause-err c =
    if_err-map c.take_part.result (λ why. part_refused c.args.text.now (view c.in_ok-begun.begun.head) why (search rules)) c.take_part.ensures.err

pub returns-else-is_merged-clause-clash : goal.returns-else-is_merged-clause-clash
returns-else-is_merged-clause-clash c =
    if_err-map c.take_part.result
    (λ why. if_clash-map why
    (λ other. part_clash c.args.parts.now c.args.name.now c.args.text.now (view c.in_ok-begun.begun.head) c.args.file other (search rules)))
    c.take_part.ensures.clash
