use Rattle.moves.specs.Inverses.{CanTurn}
use Rattle.moves.specs.Rows.{IsOfTrace, Below}
use Rattle.moves.proofs.BackLemmas.{of_trace-turned, below-turned}
use Rattle.moves.proofs.TurnLemmas.{listing-turned}
use Rattle.moves.proofs.workspace.Workspace.take_back.Goals as goal

pub invariant_of-self : goal.invariant_of-self
invariant_of-self c =
    let W = c.self.inside.rows in
    let can : CanTurn c.args.inverse.name c.args.inverse.step W = rw c.self.view_is c.requires.fits in
    listing-turned c.args.inverse.name c.args.inverse.step W c.turn.new.self c.self.invariant can c.in_default.ensures.ok

pub returns-in_default-clause-of_trace : goal.returns-in_default-clause-of_trace
returns-in_default-clause-of_trace c =
    let W = c.self.inside.rows in
    let all : IsOfTrace c.args.indexed.now W = rw c.self.view_is c.requires.of_trace in
    of_trace-turned c.args.indexed.now c.args.inverse.name c.args.inverse.step W c.turn.new.self c.requires.step all c.in_default.ensures.ok

pub returns-in_default-clause-late : goal.returns-in_default-clause-late
returns-in_default-clause-late c n low below =
    let W = c.self.inside.rows in
    let all : Below n W = rw c.self.view_is low in
    below-turned n c.args.inverse.name c.args.inverse.step W c.turn.new.self below all c.in_default.ensures.ok
