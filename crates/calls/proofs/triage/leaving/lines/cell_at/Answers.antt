use Rattle.std.proofs.lemmas.List.{drop_more}
use Rattle.calls.proofs.triage.leaving.lines.cell_at.Goals as goal

pub returns : goal.returns
returns c = drop_more c.args.cells.now c.args.at _ c.requires
