use Rattle.std.proofs.Common.{◌≡◌, ◌≤◌, ◌-◌, length, take}
use Rattle.json.specs.Print.{escape}
use Rattle.race_parts.proofs.quotes.plain_runs.Given as goal

abbrev pub invariant-runs : goal.invariant-runs
invariant-runs l = (l.at ≤ length l.text) × (escape (take l.at l.text) ≡ take l.at l.text)

abbrev pub decreases-runs : goal.decreases-runs
decreases-runs l = length l.text - l.at
