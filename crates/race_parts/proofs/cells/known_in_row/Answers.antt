use Rattle.std.proofs.Common.{ap, sym, ◌∙◌}
use Rattle.race_parts.specs.Said.{fact_said}
use Rattle.race_parts.proofs.cells.known_in_row.Goals as goal

pub returns-in-Other : goal.returns-in-Other
returns-in-Other c =
    c.known_of.ensures c.args.row.now.part.now c.args.row.now.line.now ∙ ap (fact_said c.args.row.now.part.now c.args.row.now.line.now) (sym c.in-Other.is)
