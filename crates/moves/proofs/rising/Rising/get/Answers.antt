use Rattle.std.proofs.Common.{sym, subst, ◌∙◌}
use Rattle.moves.specs.Rising.{Rises}
use Rattle.moves.proofs.RisingLemmas.{young_rises, young_found, older_found}
use Rattle.moves.proofs.rising.Rising.get.Goals as goal

pub place_of-requires : goal.place_of-requires
place_of-requires c = subst Rises (sym c.deref.ensures.value) (young_rises c.self.inside.older.entries c.self.inside.young.items c.args.self.now c.self.view_is c.requires c.args.age)

pub returns-in-Some : goal.returns-in-Some
returns-in-Some c =
    sym (young_found c.self.inside.older.entries c.self.inside.young.items c.args.self.now c.self.view_is c.requires c.args.age c.in-Some.at c.index.result.now
    (rw c.deref.ensures.value at c.in-Some.ensures.some) c.index.ensures)

pub returns-in-None : goal.returns-in-None
returns-in-None c =
    c.get.ensures.value ∙ older_found c.self.inside.older.entries c.self.inside.young.items c.args.self.now c.self.view_is c.requires c.args.age (rw c.deref.ensures.value at c.in-None.ensures.none)
