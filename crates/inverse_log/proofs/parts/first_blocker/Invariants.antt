use Rattle.std.proofs.Common.{◌≡◌, map, take}
use Rattle.moves.specs.Commands.{writes}
use Rattle.inverse_log.specs.Nearest.{nearest}
use Rattle.inverse_log.proofs.parts.first_blocker.Given as goal

abbrev pub invariant-loop-command : goal.invariant-loop-command
invariant-loop-command l = l.found ≡ nearest l.entry l.touches (map writes (take l.command-index l.commands))
