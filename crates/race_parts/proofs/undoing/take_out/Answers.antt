use Rattle.std.proofs.Common.{◌∙◌, sym}
use Rattle.race_parts.proofs.UndoLemmas.{out_all, out_one}
use Rattle.race_parts.proofs.undoing.take_out.Goals as goal

pub names-preserved : goal.names-preserved
names-preserved c = out_one c.names.added c.pop.new.self c.in-Some.name _ _ _ c.in-Some.ensures.items c.remove.ensures.entries c.names.invariant

pub returns : goal.returns
returns c = out_all c.names.added _ _ (sym c.names.added.ok.0 ∙ c.in_default.ensures.cases.0) c.names.invariant
