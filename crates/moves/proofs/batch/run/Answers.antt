use Rattle.std.proofs.Common.{◌+◌, ◌≤◌, Err, sym, subst, arith, length, take}
use Rattle.moves.specs.Ages.{age}
use Rattle.moves.specs.Batches.{Runs, IsRun}
use Rattle.moves.proofs.BatchLemmas.{next_runs, next_refused, run_ends, next_birth, below_as}
use Rattle.moves.proofs.ChainLemmas.{IsPlain}
use Rattle.moves.proofs.batch.run.Goals as goal

pub returns-in-Err-clause-run : goal.returns-in-Err-clause-run
returns-in-Err-clause-run c =
    let inv = c.loop-command.invariant in
    let W = c.args.rows.now in
    let n = age c.args.entry 0 in
    let plain : IsPlain n W = record { listing = c.requires.ready.listing; low = c.requires.ready.late } in
    let k = c.loop-command.command-index in
    let at = next_birth c.args.entry c.loop-command.place k c.new.result c.new.ensures inv.0 in
    let run = next_refused c.args.indexed.now c.args.board.now c.args.commands.now n k W c.loop-command.rows c.loop-command.inverses.items plain inv.1
    c.apply.new.self c.command-item.result c.new.result at c.loop-command-test.true c.command-item.is c.loop-command.place c.in-Err.cause inv.0 c.in-Err.ensures.applied in
    subst (λ why. IsRun c.args.indexed.now c.args.board.now n c.args.commands.now W c.apply.new.self c.loop-command.inverses.items (Err why)) (sym c.refused.ensures) run

pub loop-command-preserved : goal.loop-command-preserved
loop-command-preserved c =
    let inv = c.loop-command.invariant in
    let W = c.args.rows.now in
    let n = age c.args.entry 0 in
    let plain : IsPlain n W = record { listing = c.requires.ready.listing; low = c.requires.ready.late } in
    let k = c.loop-command.command-index in
    let at = next_birth c.args.entry c.loop-command.place k c.new.result c.new.ensures inv.0 in
    let more = next_runs c.args.indexed.now c.args.board.now c.args.commands.now n k W c.loop-command.rows c.loop-command.inverses.items plain inv.1
    c.apply.new.self c.command-item.result c.new.result at c.loop-command-test.true c.command-item.is c.in-Ok.inverse c.in-Ok.ensures.applied in (
      omega (arith, inv.0),
      subst (λ I. Runs c.args.indexed.now c.args.board.now n (take (k + 1) c.args.commands.now) I W c.apply.new.self) (sym c.push_reserved.ensures.items) more,
      c.apply.ensures.of_trace,
      below_as (c.new.result + 1) (n + (k + 1)) c.apply.new.self (omega (arith, at)) c.apply.ensures.late,
      omega (arith, inv.4, c.push_reserved.ensures.len, c.push_reserved.ensures.capacity),
    )

pub returns-clause-run : goal.returns-clause-run
returns-clause-run c =
    let inv = c.loop-command.invariant in
    let W = c.args.rows.now in
    let n = age c.args.entry 0 in
    let plain : IsPlain n W = record { listing = c.requires.ready.listing; low = c.requires.ready.late } in
    let whole : length c.args.commands.now ≤ c.loop-command.command-index = omega arith in
    run_ends c.args.indexed.now c.args.board.now c.args.commands.now n c.loop-command.command-index W c.loop-command.rows c.loop-command.inverses.items plain inv.1 whole
