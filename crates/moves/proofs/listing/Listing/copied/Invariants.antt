use Rattle.std.proofs.Common.{◌≡◌, take}
use Rattle.moves.proofs.listing.Listing.copied.Given as goal

abbrev pub invariant-loop-at : goal.invariant-loop-at
invariant-loop-at l = l.copy ≡ take l.at l.self
