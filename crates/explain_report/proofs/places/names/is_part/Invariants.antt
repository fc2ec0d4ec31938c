-- Whether the part is at an index so far.
use Rattle.std.proofs.Common.{◌≡◌}
use Rattle.explain_report.specs.places.Names.{any_below, is_part_at}
use Rattle.explain_report.proofs.places.names.is_part.Given as goal

abbrev pub invariant-loop-at : goal.invariant-loop-at
invariant-loop-at l = l.is_found ≡ any_below (is_part_at l.part l.text) l.at
