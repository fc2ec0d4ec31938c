use Rattle.std.proofs.Common.{◌∙◌}
use Rattle.race_parts.proofs.FactLemmas.{kept_told}
use Rattle.race_parts.proofs.ScanLemmas.{if_some-map}
use Rattle.race_parts.proofs.facts.seen_of.Goals as goal

pub returns-in-Some-clause-row : goal.returns-in-Some-clause-row
returns-in-Some-clause-row c =
    if_some-map c.kept_of.result
    (λ k said name. said name ∙ kept_told c.args.line.now c.in-Some.told.known c.in-Some.ensures.0 c.in-Some.ensures.1 c.in-Some.ensures.2 name)
    c.kept_of.ensures
