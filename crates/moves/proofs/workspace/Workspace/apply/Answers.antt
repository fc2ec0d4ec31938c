use Rattle.moves.specs.Rows.{Below, IsOfTrace}
use Rattle.moves.proofs.BackLemmas.{of_trace-applied, below-applied, taken_back, traced-inverse, below-inverse}
use Rattle.moves.proofs.TurnLemmas.{listing-applied}
use Rattle.moves.proofs.workspace.Workspace.apply.Goals as goal

pub invariant_of-self : goal.invariant_of-self
invariant_of-self c =
    let W = c.self.inside.rows in
    let low : Below c.args.birth W = rw c.self.view_is c.requires.late in
    listing-applied c.args.indexed.now c.args.board.now c.args.birth c.args.command.now W c.apply.new.self c.apply.result c.self.invariant low c.apply.ensures

pub returns-clause-back : goal.returns-clause-back
returns-clause-back c =
    let W = c.self.inside.rows in
    let low : Below c.args.birth W = rw c.self.view_is c.requires.late in
    rw (← c.self.view_is) (taken_back c.args.indexed.now c.args.board.now c.args.birth c.args.command.now W c.apply.new.self c.apply.result c.self.invariant low c.apply.ensures)

pub returns-clause-of_trace : goal.returns-clause-of_trace
returns-clause-of_trace c =
    let W = c.self.inside.rows in
    let all : IsOfTrace c.args.indexed.now W = rw c.self.view_is c.requires.of_trace in
    of_trace-applied c.args.indexed.now c.args.board.now c.args.birth c.args.command.now W c.apply.new.self c.apply.result all c.apply.ensures

pub returns-clause-late : goal.returns-clause-late
returns-clause-late c =
    let W = c.self.inside.rows in
    let low : Below c.args.birth W = rw c.self.view_is c.requires.late in
    below-applied c.args.indexed.now c.args.board.now c.args.birth c.args.command.now W c.apply.new.self c.apply.result c.self.invariant low c.apply.ensures

pub returns-clause-step_of_trace : goal.returns-clause-step_of_trace
returns-clause-step_of_trace c =
    let W = c.self.inside.rows in
    let all : IsOfTrace c.args.indexed.now W = rw c.self.view_is c.requires.of_trace in
    traced-inverse c.args.indexed.now c.args.board.now c.args.birth c.args.command.now W c.apply.new.self c.apply.result all c.apply.ensures

pub returns-clause-step_late : goal.returns-clause-step_late
returns-clause-step_late c =
    let W = c.self.inside.rows in
    let low : Below c.args.birth W = rw c.self.view_is c.requires.late in
    below-inverse c.args.indexed.now c.args.board.now c.args.birth c.args.command.now W c.apply.new.self c.apply.result low c.apply.ensures
