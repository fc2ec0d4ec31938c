use Rattle.std.proofs.Common.{◌≡◌, ◌≤◌, ◌-◌, length, take}
use Rattle.json.specs.Print.{escape}
use Rattle.race_parts.proofs.quotes.plain_end.Given as goal

abbrev pub invariant-bytes : goal.invariant-bytes
invariant-bytes l = (l.at ≤ length l.text) × (escape (take l.at l.text) ≡ take l.at l.text)

abbrev pub decreases-bytes : goal.decreases-bytes
decreases-bytes l = length l.text - l.at
