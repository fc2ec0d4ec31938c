use Rattle.std.proofs.Common.{sym}
use Rattle.moves.proofs.BirthLemmas.{found_held, rises_held}
use Rattle.moves.proofs.TurnLemmas.{change_may, change_held, change_turned, change_fits, change_none}
use Rattle.moves.proofs.listing.Listing.change.Goals as goal

pub turn-requires-clause-rises : goal.turn-requires-clause-rises
turn-requires-clause-rises c = rises_held c.self.inside.births.entries c.self.inside.rows c.self.invariant

pub turn-requires-clause-fits : goal.turn-requires-clause-fits
turn-requires-clause-fits c =
    change_may c.self.inside.births.entries c.self.inside.rows c.self.invariant c.args.self.now c.self.view_is c.args.name.now c.in-Some.birth c.age.result c.age.ensures
    (rw (← c.self.view_is) (found_held c.self.inside.births.entries c.self.inside.rows c.self.invariant c.args.name.now c.in-Some.birth (sym c.in-Some.ensures.value)))
    c.args.indexed.now c.args.step c.requires.of_trace c.requires.stays c.requires.fits

pub invariant_of-self-2 : goal.invariant_of-self-2
invariant_of-self-2 c =
    change_held c.self.inside.births.entries c.self.inside.rows c.self.invariant c.args.self.now c.self.view_is c.args.name.now c.in-Some.birth c.age.result c.age.ensures
    (rw (← c.self.view_is) (found_held c.self.inside.births.entries c.self.inside.rows c.self.invariant c.args.name.now c.in-Some.birth (sym c.in-Some.ensures.value)))
    c.turn.new.self c.args.step c.turn.result c.turn.ensures.stepped

pub returns-clause-ok : goal.returns-clause-ok
returns-clause-ok c =
    change_turned c.self.inside.births.entries c.self.inside.rows c.self.invariant c.args.self.now c.self.view_is c.args.name.now c.in-Some.birth c.age.result c.age.ensures
    (rw (← c.self.view_is) (found_held c.self.inside.births.entries c.self.inside.rows c.self.invariant c.args.name.now c.in-Some.birth (sym c.in-Some.ensures.value)))
    c.turn.new.self c.args.step c.turn.result c.turn.ensures.stepped

pub returns-clause-back : goal.returns-clause-back
returns-clause-back c =
    change_fits c.self.inside.births.entries c.self.inside.rows c.self.invariant c.args.self.now c.self.view_is c.args.name.now c.in-Some.birth c.age.result c.age.ensures
    (rw (← c.self.view_is) (found_held c.self.inside.births.entries c.self.inside.rows c.self.invariant c.args.name.now c.in-Some.birth (sym c.in-Some.ensures.value)))
    c.turn.new.self c.args.step c.turn.result c.turn.ensures.stepped

pub returns-clause-err : goal.returns-clause-err
returns-clause-err c =
    change_none c.self.inside.births.entries c.self.inside.rows c.self.invariant c.args.self.now c.self.view_is c.args.name.now c.in-Some.birth c.age.result c.age.ensures
    (rw (← c.self.view_is) (found_held c.self.inside.births.entries c.self.inside.rows c.self.invariant c.args.name.now c.in-Some.birth (sym c.in-Some.ensures.value)))
    c.turn.new.self c.args.step c.turn.result c.turn.ensures.stepped
