-- The commands so far stand there, each after a separator.
use Rattle.std.proofs.Common.{◌≡◌, ◌++◌, take}
use Rattle.report.specs.Commands.{separated}
use Rattle.report.proofs.commands.append_all_separated.Given as goal

abbrev pub invariant-loop-command : goal.invariant-loop-command
invariant-loop-command l = l.out.items ≡ l.fn.out.items ++ separated (take l.command-index l.commands)
