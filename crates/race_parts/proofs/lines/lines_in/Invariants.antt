use Rattle.std.proofs.Common.{◌≡◌, ◌∷◌, List, length, map}
use Rattle.serde_json.specs.View.{view}
use Rattle.serde_json.specs.declared.value.Value.{Value}
use Rattle.race_parts.proofs.LineLemmas.{IsReading}
use Rattle.race_parts.proofs.lines.lines_in.Given as goal

abbrev pub invariant-lines : goal.invariant-lines
invariant-lines l = IsReading l.text l.rest (map view l.found.items) × ((behind : List Value) × (l.found.items ≡ l.fn.begun.head ∷ behind))

abbrev pub decreases-lines : goal.decreases-lines
decreases-lines l = length l.rest
