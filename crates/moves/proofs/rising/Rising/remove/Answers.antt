use Rattle.std.proofs.Common.{◌++◌, ap, sym, subst, ◌∙◌}
use Rattle.moves.specs.Rising.{Rises}
use Rattle.moves.proofs.RisingLemmas.{young_rises, young_found, young_removed, older_found, older_removed}
use Rattle.moves.proofs.rising.Rising.remove.Goals as goal

pub place_of-requires : goal.place_of-requires
place_of-requires c = subst Rises (sym c.deref.ensures.value) (young_rises c.self.inside.older.entries c.self.inside.young.items c.args.self.now c.self.view_is c.requires.rises c.args.age)

pub returns-in-Some-clause-value : goal.returns-in-Some-clause-value
returns-in-Some-clause-value c =
    sym (young_found c.self.inside.older.entries c.self.inside.young.items c.args.self.now c.self.view_is c.requires.rises c.args.age c.in-Some.at c.remove.result
    (rw c.deref.ensures.value at c.in-Some.ensures.some) c.remove.ensures.value)

pub returns-in-Some-clause-entries : goal.returns-in-Some-clause-entries
returns-in-Some-clause-entries c =
    ap (λ F. c.self.inside.older.entries ++ F) c.remove.ensures.items
    ∙ young_removed c.self.inside.older.entries c.self.inside.young.items c.args.self.now c.self.view_is c.requires.rises c.args.age c.in-Some.at c.remove.result
    (rw c.deref.ensures.value at c.in-Some.ensures.some)

pub returns-in-None-clause-value : goal.returns-in-None-clause-value
returns-in-None-clause-value c =
    c.remove-in-None.ensures.value ∙ older_found c.self.inside.older.entries c.self.inside.young.items c.args.self.now c.self.view_is c.requires.rises c.args.age (rw c.deref.ensures.value at c.in-None.ensures.none)

pub returns-in-None-clause-entries : goal.returns-in-None-clause-entries
returns-in-None-clause-entries c =
    older_removed c.self.inside.older.entries c.self.inside.young.items c.args.self.now c.self.view_is c.requires.rises c.args.age (rw c.deref.ensures.value at c.in-None.ensures.none) c.remove-in-None.new.self.entries c.remove-in-None.ensures.entries
