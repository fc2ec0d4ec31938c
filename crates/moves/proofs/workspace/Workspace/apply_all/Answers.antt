use Rattle.std.proofs.Common.{◌≤◌, ◌+◌, length, arith}
use Rattle.moves.specs.Ages.{age}
use Rattle.moves.proofs.BatchLemmas.{all-back, all-of_trace, all-late, all-traced, all-below}
use Rattle.moves.proofs.workspace.Workspace.apply_all.Goals as goal

pub run_all-requires : goal.run_all-requires
run_all-requires c = record {
  listing = c.len.ensures.listing;
  of_trace = c.requires.of_trace;
  board = c.requires.board;
  late = c.requires.late;
  few = c.requires.few;
}

pub returns-clause-back : goal.returns-clause-back
returns-clause-back c =
    all-back c.args.indexed.now c.args.board.now c.args.commands.now (age c.args.entry 0) 0 c.args.self.now c.run_all.new.self
    (record { listing = c.len.ensures.listing; low = c.requires.late }) c.run_all.result c.run_all.ensures

pub returns-clause-of_trace : goal.returns-clause-of_trace
returns-clause-of_trace c =
    all-of_trace c.args.indexed.now c.args.board.now c.args.commands.now (age c.args.entry 0) 0 c.args.self.now c.run_all.new.self
    (record { listing = c.len.ensures.listing; low = c.requires.late }) c.run_all.result c.requires.of_trace c.run_all.ensures

pub returns-clause-late : goal.returns-clause-late
returns-clause-late c =
    let fits : age c.args.entry 0 + length c.args.commands.now ≤ age (c.args.entry + 1) 0 = omega (arith, c.requires.few) in
    all-late c.args.indexed.now c.args.board.now c.args.commands.now (age c.args.entry 0) (age (c.args.entry + 1) 0) c.args.self.now c.run_all.new.self
    (record { listing = c.len.ensures.listing; low = c.requires.late }) c.run_all.result fits c.run_all.ensures

pub returns-clause-steps_of_trace : goal.returns-clause-steps_of_trace
returns-clause-steps_of_trace c =
    all-traced c.args.indexed.now c.args.board.now c.args.commands.now (age c.args.entry 0) 0 c.args.self.now c.run_all.new.self
    (record { listing = c.len.ensures.listing; low = c.requires.late }) c.run_all.result c.requires.of_trace c.run_all.ensures

pub returns-clause-steps_late : goal.returns-clause-steps_late
returns-clause-steps_late c =
    let fits : age c.args.entry 0 + length c.args.commands.now ≤ age (c.args.entry + 1) 0 = omega (arith, c.requires.few) in
    all-below c.args.indexed.now c.args.board.now c.args.commands.now (age c.args.entry 0) (age (c.args.entry + 1) 0) c.args.self.now c.run_all.new.self
    (record { listing = c.len.ensures.listing; low = c.requires.late }) c.run_all.result fits c.run_all.ensures
