use Rattle.race_parts.proofs.KeptLemmas.{if_some-at, row_on}
use Rattle.race_parts.proofs.lines.seen_on.Goals as goal

pub returns-in-Some-clause-row : goal.returns-in-Some-clause-row
returns-in-Some-clause-row c =
    row_on c.args.text.now c.args.rest.now c.in_ok-line.behind.now c.in_ok-line.line.now c.in-Some.seen.row c.in_ok-line.ensures.ok.0 c.in_ok-line.ensures.ok.1
    (if_some-at _ c.in_ok-seen.field-0 c.in-Some.seen c.in_ok-seen.ensures.row c.in-Some.is)
