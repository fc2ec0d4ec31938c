use Rattle.std.proofs.Common.{◌≡◌, ℕ, ◌<◌, ◌-◌, true, length}
use Rattle.window.specs.Cuts.{is_taken, name_with}
use Rattle.window.proofs.naming.new_name.Given as goal

abbrev pub decreases-tries : goal.decreases-tries
decreases-tries l = 256 - length l.name.items

abbrev pub invariant-tries : goal.invariant-tries
invariant-tries l = (j : ℕ) × (l.name.items ≡ name_with j) × ((i : ℕ) → i < j → is_taken l.trace (name_with i) ≡ true)
