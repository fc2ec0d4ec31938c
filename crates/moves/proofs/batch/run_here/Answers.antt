use Rattle.std.proofs.Common.{take}
use Rattle.moves.specs.Ages.{age}
use Rattle.moves.proofs.BatchLemmas.{runs_traced, runs_back}
use Rattle.moves.proofs.SpareLemmas.{has_run, runs_spare, refused_here}
use Rattle.moves.proofs.batch.run_here.Goals as goal

pub unwind-requires-clause-inverses : goal.unwind-requires-clause-inverses
unwind-requires-clause-inverses c =
    let n = age c.args.entry 0 in
    let D = c.args.commands.now in
    let I = c.run.new.inverses.items in
    let has = has_run c.args.indexed.now c.args.board.now n D c.args.rows.now c.run.new.rows I c.in-Err.why c.in-Err.ensures.run in
    runs_traced c.args.indexed.now c.args.board.now (take has.0 D) I n c.args.rows.now c.run.new.rows c.requires.ready.of_trace has.2

pub unwind-requires-clause-fits : goal.unwind-requires-clause-fits
unwind-requires-clause-fits c =
    let n = age c.args.entry 0 in
    let D = c.args.commands.now in
    let I = c.run.new.inverses.items in
    let has = has_run c.args.indexed.now c.args.board.now n D c.args.rows.now c.run.new.rows I c.in-Err.why c.in-Err.ensures.run in
    (c.args.rows.now, runs_back c.args.indexed.now c.args.board.now (take has.0 D) I n c.args.rows.now c.run.new.rows (record { listing = c.requires.ready.listing; low = c.requires.ready.late }) has.2)

pub unwind-requires-clause-spare : goal.unwind-requires-clause-spare
unwind-requires-clause-spare c =
    let n = age c.args.entry 0 in
    let D = c.args.commands.now in
    let I = c.run.new.inverses.items in
    let has = has_run c.args.indexed.now c.args.board.now n D c.args.rows.now c.run.new.rows I c.in-Err.why c.in-Err.ensures.run in
    runs_spare c.args.indexed.now c.args.board.now (take has.0 D) I n c.args.rows.now c.run.new.rows (c.requires.builds has.0 has.1) has.2

pub returns : goal.returns
returns c =
    refused_here c.args.indexed.now c.args.board.now (age c.args.entry 0) c.args.commands.now c.args.rows.now c.run.new.rows c.run.new.inverses.items c.unwind.new.rows c.in-Err.why
    (record { listing = c.requires.ready.listing; low = c.requires.ready.late }) c.in-Err.ensures.run c.unwind.ensures
