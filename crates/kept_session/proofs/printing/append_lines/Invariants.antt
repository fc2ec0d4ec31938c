-- what is left is appended behind what was appended
use Rattle.std.proofs.Common.{◌≡◌, ◌++◌, flat_map, length}
use Rattle.client_scripts.specs.Joint.{ended}
use Rattle.kept_log.specs.Lines.{kept_lines}
use Rattle.kept_session.proofs.printing.append_lines.Given as goal

abbrev pub invariant-loop-line : goal.invariant-loop-line
invariant-loop-line l = l.out.items ++ flat_map ended (kept_lines l.rest) ≡ l.fn.out.items ++ flat_map ended (kept_lines l.text)

abbrev pub decreases-loop-line : goal.decreases-loop-line
decreases-loop-line l = length l.rest
