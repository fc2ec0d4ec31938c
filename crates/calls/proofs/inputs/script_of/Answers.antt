use Rattle.std.proofs.Common.{sym}
use Rattle.calls.proofs.InputLemmas.{none_strange}
use Rattle.calls.proofs.inputs.script_of.Goals as goal

pub returns-in-None-clause-ok : goal.returns-in-None-clause-ok
returns-in-None-clause-ok c = (c.in-Ok.ensures.read, none_strange c.args.client c.in-Ok.script (sym c.in-None.ensures))
