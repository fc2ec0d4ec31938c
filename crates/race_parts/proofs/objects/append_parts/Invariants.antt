use Rattle.std.proofs.Common.{◌≡◌, ◌++◌}
use Rattle.race_parts.specs.Objects.{part_lines}
use Rattle.race_parts.proofs.objects.append_parts.Given as goal

abbrev pub invariant-loop-name : goal.invariant-loop-name
invariant-loop-name l = l.out.items ++ part_lines l.name-iterator ≡ l.fn.out.items ++ part_lines l.parts.entries
