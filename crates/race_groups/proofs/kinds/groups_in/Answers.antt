use Rattle.std.proofs.Common.{slice_index}
use Rattle.indexmap.specs.IndexMap.{keys}
use Rattle.race_groups.specs.Rows.{of_all}
use Rattle.race_groups.proofs.CompleteLemmas.{are_places-from, AreComplete-from, AreConflicting-from, AreOnce-from}
use Rattle.race_groups.proofs.kinds.groups_in.Goals as goal

pub invariant_of-result : goal.invariant_of-result
invariant_of-result c =
    let index = c.args.index in
    let counted = c.requires.counted in
    record { places = are_places-from c.in_ok-rows.rows.items (keys index) c.in_ok-rows.ensures.places counted.are.rising }

pub returns-clause-complete : goal.returns-clause-complete
returns-clause-complete c =
    AreComplete-from c.args.indexed.now.events (slice_index c.args.places.now) of_all c.args.index c.in_ok-rows.rows.items c.in_ok-rows.ensures.places c.requires.counted.all

pub returns-clause-once : goal.returns-clause-once
returns-clause-once c = AreOnce-from c.args.index c.in_ok-rows.rows.items c.in_ok-rows.ensures.once c.in_ok-rows.ensures.places

pub returns-clause-there : goal.returns-clause-there
returns-clause-there c =
    AreConflicting-from c.args.indexed.now.events (slice_index c.args.places.now) c.args.classes.now.numbers.items c.args.classes.now.infos.items
    c.args.classes.now.lists.keys c.args.index c.requires.counted c.in_ok-rows.rows.items c.in_ok-rows.ensures.places
