use Rattle.std.proofs.Common.{◌∙◌, sym}
use Rattle.moves.proofs.SpareLemmas.{builds_before}
use Rattle.moves.proofs.batch.builds_up.Goals as goal

pub returns-in-Some : goal.returns-in-Some
returns-in-Some c all k within = builds_before c.args.commands.now c.in-Some.earlier.now c.in-Some.last.now k c.in-Some.ensures.cases.0 within (sym c.all_build.ensures ∙ all)
