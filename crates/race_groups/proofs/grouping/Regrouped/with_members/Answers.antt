use Rattle.std.proofs.Common.{◌≡◌, ◌<◌, true, All, length, slice_index, ap, sym, subst, arith}
use Rattle.event_index.specs.Relations.{is_access}
use Rattle.race_groups.specs.declared.class.Class.{Class}
use Rattle.race_groups.proofs.BuildLemmas.{AreClasses-from, AreLocks-from, classes_named}
use Rattle.race_groups.proofs.grouping.Regrouped.with_members.Goals as goal

pub members_of-requires-clause-few : goal.members_of-requires-clause-few
members_of-requires-clause-few c =
    let are = c.requires.numbered in
    let is = ap length c.as_slice.ensures.value in
    omega (arith, are.few, is, c.len-len.ensures.well_formed.events)

pub members_of-requires-clause-named : goal.members_of-requires-clause-named
members_of-requires-clause-named c = λ x.
    let r = c.args.indexed.now in
    let made = c.args.self in
    subst (All (λ (i : Class). is_access x i.op ≡ true → x < length r.variables)) (sym c.as_slice.ensures.value)
    (classes_named r c.len-len.ensures.well_formed (slice_index c.args._places.now) (length r.events) made.numbers.items made.infos.items c.args.lists.keys c.requires.numbered x)

pub returns-clause-classes : goal.returns-clause-classes
returns-clause-classes c =
    let made = c.args.self in
    AreClasses-from c.args.indexed.now.events (slice_index c.args._places.now) made.numbers.items made.infos.items c.args.lists.keys c.requires.numbered

pub returns-clause-few : goal.returns-clause-few
returns-clause-few c =
    let are = c.requires.numbered in
    omega (arith, are.few, c.len-len.ensures.well_formed.events)

pub returns-clause-locks : goal.returns-clause-locks
returns-clause-locks c =
    let made = c.args.self in
    AreLocks-from c.args.indexed.now.events (slice_index c.args._places.now) made.numbers.items made.infos.items c.args.lists.keys c.requires.numbered
