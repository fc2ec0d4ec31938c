use Rattle.std.proofs.Common.{sym}
use Rattle.moves.proofs.BirthLemmas.{found_held}
use Rattle.moves.proofs.listing.Listing.find.Goals as goal

pub returns-clause-some : goal.returns-clause-some
returns-clause-some c = rw (← c.self.view_is) (found_held c.self.inside.births.entries c.self.inside.rows c.self.invariant c.args.name.now c.in_ok-birth.birth (sym c.in_ok-birth.ensures.value))
