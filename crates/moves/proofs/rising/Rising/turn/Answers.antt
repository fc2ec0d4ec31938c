use Rattle.std.proofs.Common.{◌++◌, ◌≡◌, Some, ap, sym, subst, ◌∙◌, slice_set, rules}
use Rattle.std.specs.Option.{option_copied_mut}
use Rattle.moves.specs.Rising.{Rises, IsPlaceOf, with_schedule}
use Rattle.moves.proofs.RisingLemmas.{young_rises, young_found, young_set, older_found, older_set, can_step, is_stepped}
use Rattle.moves.proofs.rising.Rising.turn.Goals as goal

pub place_of-requires : goal.place_of-requires
place_of-requires c = subst Rises (sym c.deref.ensures.value) (young_rises c.self.inside.older.entries c.self.inside.young.items c.args.self.now c.self.view_is c.requires.rises c.args.age)

pub turn_schedule-requires-clause-trace : goal.turn_schedule-requires-clause-trace
turn_schedule-requires-clause-trace c =
    let found = young_found c.self.inside.older.entries c.self.inside.young.items c.args.self.now c.self.view_is c.requires.rises c.args.age c.in-Some.at c.index_mut-entry.result.now
    (rw c.deref.ensures.value at c.in-Some.ensures.some) c.index_mut-entry.ensures.value in
    (can_step c.args.indexed.now c.args.age c.args.step c.args.self.now c.index_mut-entry.result.now.1 c.requires.fits found).0

pub turn_schedule-requires-clause-fits : goal.turn_schedule-requires-clause-fits
turn_schedule-requires-clause-fits c =
    let found = young_found c.self.inside.older.entries c.self.inside.young.items c.args.self.now c.self.view_is c.requires.rises c.args.age c.in-Some.at c.index_mut-entry.result.now
    (rw c.deref.ensures.value at c.in-Some.ensures.some) c.index_mut-entry.ensures.value in
    (can_step c.args.indexed.now c.args.age c.args.step c.args.self.now c.index_mut-entry.result.now.1 c.requires.fits found).1

pub returns-in-Some-clause-stepped : goal.returns-in-Some-clause-stepped
returns-in-Some-clause-stepped c =
    let older = c.self.inside.older.entries in
    let young = c.self.inside.young.items in
    let e = c.index_mut-entry.result.now in
    let t = c.turn_schedule.new.schedule in
    let place : IsPlaceOf young c.args.age c.in-Some.at = (rw c.deref.ensures.value at c.in-Some.ensures.some) in
    let found = young_found older young c.args.self.now c.self.view_is c.requires.rises c.args.age c.in-Some.at e place c.index_mut-entry.ensures.value in
    let aged : e.0 ≡ c.args.age = ap (λ f. f.0) c.index_mut-entry.ensures.value ∙ place.1 e in
    is_stepped c.args.age c.args.step c.args.self.now _ c.turn_schedule.result e.1 t found
    (ap (λ n. older ++ slice_set young c.in-Some.at (n, (e.1.0, with_schedule e.1.1 t))) aged
    ∙ young_set older young c.args.self.now c.self.view_is c.requires.rises c.args.age c.in-Some.at e place (e.1.0, with_schedule e.1.1 t))
    c.turn_schedule.ensures.ok c.turn_schedule.ensures.back c.turn_schedule.ensures.err c.turn_schedule.ensures.reordering

pub unwrap-requires : goal.unwrap-requires
unwrap-requires c =
    let there : option_copied_mut c.get_mut.result ≡ Some c.requires.fits.0 = c.get_mut.ensures.value
    ∙ older_found c.self.inside.older.entries c.self.inside.young.items c.args.self.now c.self.view_is c.requires.rises c.args.age (rw c.deref.ensures.value at c.in-None.ensures.none)
    ∙ c.requires.fits.1 in
    search rules

pub turn_schedule-requires-in-None-clause-trace : goal.turn_schedule-requires-in-None-clause-trace
turn_schedule-requires-in-None-clause-trace c =
    let found = sym (older_found c.self.inside.older.entries c.self.inside.young.items c.args.self.now c.self.view_is c.requires.rises c.args.age (rw c.deref.ensures.value at c.in-None.ensures.none))
    ∙ sym c.get_mut.ensures.value ∙ ap option_copied_mut c.unwrap.ensures in
    (can_step c.args.indexed.now c.args.age c.args.step c.args.self.now c.unwrap.result.now c.requires.fits found).0

pub turn_schedule-requires-in-None-clause-fits : goal.turn_schedule-requires-in-None-clause-fits
turn_schedule-requires-in-None-clause-fits c =
    let found = sym (older_found c.self.inside.older.entries c.self.inside.young.items c.args.self.now c.self.view_is c.requires.rises c.args.age (rw c.deref.ensures.value at c.in-None.ensures.none))
    ∙ sym c.get_mut.ensures.value ∙ ap option_copied_mut c.unwrap.ensures in
    (can_step c.args.indexed.now c.args.age c.args.step c.args.self.now c.unwrap.result.now c.requires.fits found).1

pub returns-in-None-clause-stepped : goal.returns-in-None-clause-stepped
returns-in-None-clause-stepped c =
    let older = c.self.inside.older.entries in
    let young = c.self.inside.young.items in
    let slot = c.unwrap.result.now in
    let t = c.turn_schedule-in-None.new.schedule in
    let found = sym (older_found older young c.args.self.now c.self.view_is c.requires.rises c.args.age (rw c.deref.ensures.value at c.in-None.ensures.none))
    ∙ sym c.get_mut.ensures.value ∙ ap option_copied_mut c.unwrap.ensures in
    is_stepped c.args.age c.args.step c.args.self.now _ c.turn_schedule-in-None.result slot t found
    (older_set older young c.args.self.now c.self.view_is c.requires.rises c.args.age (rw c.deref.ensures.value at c.in-None.ensures.none)
    (c.get_mut.follows.lender (slot.0, with_schedule slot.1 t)).entries (slot.0, with_schedule slot.1 t) (c.get_mut.follows.holds _).0)
    c.turn_schedule-in-None.ensures.ok c.turn_schedule-in-None.ensures.back c.turn_schedule-in-None.ensures.err c.turn_schedule-in-None.ensures.reordering
