use Rattle.std.proofs.Common.{◌≡◌, length}
use Rattle.race_parts.specs.Parts.{names_in, without_all}
use Rattle.race_parts.proofs.undoing.take_out.Given as goal

abbrev pub invariant-names : goal.invariant-names
invariant-names l = without_all (names_in l.added) l.parts.entries ≡ without_all (names_in l.fn.added) l.fn.parts.entries

abbrev pub decreases-names : goal.decreases-names
decreases-names l = length l.added.items
