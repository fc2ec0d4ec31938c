use Rattle.std.proofs.Common.{◌≡◌, drop, map}
use Rattle.toml.specs.View.{view}
use Rattle.triage_file.specs.Files.{mistaken_from}
use Rattle.triage_file.proofs.files.first_mistaken.Given as goal

abbrev pub invariant-loop-at : goal.invariant-loop-at
invariant-loop-at l = mistaken_from 0 (map view l.fn.entries) ≡ mistaken_from l.at (map view (drop l.at l.fn.entries))
