use Rattle.std.proofs.Common.{◌≡◌, ◌≤◌, ◌<◌, ◌-◌, length, take}
use Rattle.std.specs.Prelude.{decimal}
use Rattle.race_parts.proofs.scan.number_at.Given as goal

abbrev pub invariant-digits : goal.invariant-digits
invariant-digits l = (take l.at l.text ≡ decimal l.number) × (l.at ≤ length l.text) × (l.number < 10000000000000000000)

abbrev pub decreases-digits : goal.decreases-digits
decreases-digits l = length l.text - l.at
