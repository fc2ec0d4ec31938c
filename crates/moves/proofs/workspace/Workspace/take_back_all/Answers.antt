use Rattle.moves.proofs.TurnAllLemmas.{of_trace-all, below-all}
use Rattle.moves.proofs.workspace.Workspace.take_back_all.Goals as goal

pub returns-clause-of_trace : goal.returns-clause-of_trace
returns-clause-of_trace c =
    of_trace-all c.args.indexed.now c.args.inverses c.args.self.now c.turn_all.new.self c.turn_all.result c.requires.steps c.requires.of_trace c.turn_all.ensures.ok c.turn_all.ensures.err

pub returns-clause-late : goal.returns-clause-late
returns-clause-late c n low below =
    below-all n c.args.inverses c.args.self.now c.turn_all.new.self c.turn_all.result below low c.turn_all.ensures.ok c.turn_all.ensures.err
