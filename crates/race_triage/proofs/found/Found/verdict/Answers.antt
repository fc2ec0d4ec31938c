use Rattle.std.proofs.Common.{Some, sym, ap, ◌∙◌, arith}
use Rattle.std.proofs.lemmas.Option.{slice_get-get_or}
use Rattle.race_triage.proofs.found.Found.verdict.Goals as goal

pub verdict-requires-clause-least : goal.verdict-requires-clause-least
verdict-requires-clause-least c =
    let found = c.requires.found.is in
    let at = c.args.at in
    let row = c.index-row.result.now in
    let l = c.index-least.result.now in
    let here = slice_get-get_or c.args.self.now.groups.rows.items at row c.requires.at ∙ ap Some (sym c.index-row.ensures) in
    let there = slice_get-get_or c.args.self.now.leasts.items at l (omega (arith, c.requires.at, found.leasts_len)) ∙ ap Some (sym c.index-least.ensures) in
    found.leasts at row l here there

pub verdict-requires-clause-first : goal.verdict-requires-clause-first
verdict-requires-clause-first c =
    let found = c.requires.found.is in
    let at = c.args.at in
    let row = c.index-row.result.now in
    let here = slice_get-get_or c.args.self.now.groups.rows.items at row c.requires.at ∙ ap Some (sym c.index-row.ensures) in
    λ told. found.firsts told at row c.first-first.result here (c.first-first.ensures (omega (arith, c.requires.at, found.firsts_len told)))

pub returns-clause-row : goal.returns-clause-row
returns-clause-row c =
    let row = c.index-row.result.now in
    slice_get-get_or c.args.self.now.groups.rows.items c.args.at row c.requires.at ∙ ap Some (sym c.index-row.ensures ∙ sym c.in_ok-verdict.ensures.1)
