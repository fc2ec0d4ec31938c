use Rattle.moves.proofs.BirthLemmas.{rises_held}
use Rattle.moves.proofs.listing.Listing.get.Goals as goal

pub get-requires : goal.get-requires
get-requires c = rises_held c.self.inside.births.entries c.self.inside.rows c.self.invariant
