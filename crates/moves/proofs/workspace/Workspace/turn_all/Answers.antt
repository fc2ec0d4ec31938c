use Rattle.std.proofs.Common.{◌≡◌, ◌++◌, ◌∷◌, [], List, true, OnOk, IfErr, rules, sym, ap, ◌∙◌, subst}
use Rattle.std.specs.List.{list_all}
use Rattle.moves.specs.declared.inverse.Inverse.{Inverse}
use Rattle.moves.specs.Batches.{AreOfTrace, CanTurnAll, IsTurnedAll}
use Rattle.moves.specs.Spares.{is_spare}
use Rattle.moves.proofs.TurnAllLemmas.{all_earlier, turn_can, turn_rest, turn_done}
use Rattle.moves.proofs.workspace.Workspace.turn_all.Goals as goal

pub turn_apart-requires-clause-steps : goal.turn_apart-requires-clause-steps
turn_apart-requires-clause-steps c =
    let back = c.push_reserved.ensures.items ∙ sym c.in-Some.ensures.items ∙ c.inverses.view_is in
    subst (AreOfTrace c.args.indexed.now) (sym back) c.requires.steps

pub turn_apart-requires-clause-fits : goal.turn_apart-requires-clause-fits
turn_apart-requires-clause-fits c =
    let back = c.push_reserved.ensures.items ∙ sym c.in-Some.ensures.items ∙ c.inverses.view_is in
    subst (λ (I : List Inverse). CanTurnAll I c.args.self.now) (sym back) c.requires.fits

pub returns-then-not-are_spare-clause-ok : goal.returns-then-not-are_spare-clause-ok
returns-then-not-are_spare-clause-ok c =
    let back = c.push_reserved.ensures.items ∙ sym c.in-Some.ensures.items ∙ c.inverses.view_is in
    subst (λ (I : List Inverse). OnOk c.turn_apart.result (IsTurnedAll I c.args.self.now c.turn_apart.new.self)) back c.turn_apart.ensures.ok

pub returns-then-not-are_spare-clause-back : goal.returns-then-not-are_spare-clause-back
returns-then-not-are_spare-clause-back c =
    let back = c.push_reserved.ensures.items ∙ sym c.in-Some.ensures.items ∙ c.inverses.view_is in
    subst (λ (I : List Inverse). IfErr c.turn_apart.result (λ refused. refused.0 ≡ I)) back c.turn_apart.ensures.back

pub take_back-requires-clause-step : goal.take_back-requires-clause-step
take_back-requires-clause-step c =
    let is = sym c.inverses.view_is ∙ c.in-Some.ensures.items in
    (all_earlier c.args.indexed.now c.pop.new.self.items c.in-Some.last (subst (AreOfTrace c.args.indexed.now) is c.requires.steps)).1

pub take_back-requires-clause-fits : goal.take_back-requires-clause-fits
take_back-requires-clause-fits c = turn_can c.args.inverses c.pop.new.self.items c.in-Some.last (sym c.inverses.view_is ∙ c.in-Some.ensures.items) c.args.self.now c.requires.fits

pub unwind-requires-clause-inverses : goal.unwind-requires-clause-inverses
unwind-requires-clause-inverses c =
    let is = sym c.inverses.view_is ∙ c.in-Some.ensures.items in
    (all_earlier c.args.indexed.now c.pop.new.self.items c.in-Some.last (subst (AreOfTrace c.args.indexed.now) is c.requires.steps)).0

pub unwind-requires-clause-fits : goal.unwind-requires-clause-fits
unwind-requires-clause-fits c =
    let is = sym c.inverses.view_is ∙ c.in-Some.ensures.items in
    turn_rest c.args.inverses c.pop.new.self.items c.in-Some.last is c.args.self.now c.take_back.new.self c.requires.fits c.in_default-take_back.ensures.ok

pub unwind-requires-clause-spare : goal.unwind-requires-clause-spare
unwind-requires-clause-spare c =
    let spare : c.are_spare.result ≡ true = search rules in
    subst (λ (I : List Inverse). list_all is_spare I ≡ true) c.deref.ensures.value (sym c.are_spare.ensures ∙ spare)

pub returns-in_default-take_back-clause-ok : goal.returns-in_default-take_back-clause-ok
returns-in_default-take_back-clause-ok c =
    let is = sym c.inverses.view_is ∙ c.in-Some.ensures.items in
    turn_done c.args.inverses c.pop.new.self.items c.in-Some.last is c.args.self.now c.take_back.new.self c.unwind.new.rows c.requires.fits c.in_default-take_back.ensures.ok c.unwind.ensures

pub returns-clause-back : goal.returns-clause-back
returns-clause-back c =
    let is = sym c.inverses.view_is ∙ c.in-Some.ensures.items in
    c.push_reserved-2.ensures.items ∙ ap (λ (i : Inverse). c.pop.new.self.items ++ i ∷ []) c.in-Err.ensures.back ∙ sym is
