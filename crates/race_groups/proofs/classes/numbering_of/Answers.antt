use Rattle.std.proofs.Common.{subst, sym}
use Rattle.race_groups.specs.Holding.{AreHeld}
use Rattle.race_groups.proofs.classes.numbering_of.Goals as goal

pub add-requires-clause-held : goal.add-requires-clause-held
add-requires-clause-held c =
    subst (AreHeld c.args.indexed.now.events c.loop-event.event) (sym c.as_slice.ensures.value) c.loop-event.invariant.held
