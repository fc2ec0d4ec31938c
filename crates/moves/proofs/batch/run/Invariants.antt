use Rattle.std.proofs.Common.{◌≡◌, ◌+◌, ◌≤◌, length, take, vec_len, vec_capacity}
use Rattle.moves.specs.Ages.{age}
use Rattle.moves.specs.Batches.{Runs}
use Rattle.moves.specs.Rows.{IsOfTrace, Below}
use Rattle.moves.proofs.batch.run.Given as goal

abbrev pub invariant-loop-command : goal.invariant-loop-command
invariant-loop-command l =
    (l.place ≡ l.command-index)
    × Runs l.indexed l.board (age l.entry 0) (take l.command-index l.commands) l.inverses.items l.fn.rows l.rows
    × IsOfTrace l.indexed l.rows
    × Below (age l.entry 0 + l.command-index) l.rows
    × (vec_len l.inverses + length l.commands ≤ vec_capacity l.inverses + l.command-index)
