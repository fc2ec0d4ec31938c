use Rattle.std.proofs.Common.{◌≡◌, ◌<◌, ℕ, List, Option, IfSome, true, All, length, slice_index, ap, sym, subst, arith}
use Rattle.event_index.specs.Relations.{is_access}
use Rattle.race_groups.specs.Building.{IsRenumbered}
use Rattle.race_groups.specs.declared.class.Class.{Class}
use Rattle.race_groups.specs.declared.grouping.Regrouped.{Regrouped}
use Rattle.race_groups.proofs.BuildLemmas.{AreClasses-from, AreLocks-from, AreNumbered-again, classes_named}
use Rattle.race_groups.proofs.classes.Classes.of.Goals as goal

pub members_of-requires-clause-few : goal.members_of-requires-clause-few
members_of-requires-clause-few c =
    let are = c.in_ok-numbering.ensures in
    let is = ap length c.as_slice-2.ensures.value in
    omega (arith, are.few, is, c.len-len.ensures.well_formed.events)

pub members_of-requires-clause-named : goal.members_of-requires-clause-named
members_of-requires-clause-named c = λ x.
    let r = c.args.indexed.now in
    let made = c.in_ok-numbering.numbering in
    subst (All (λ (i : Class). is_access x i.op ≡ true → x < length r.variables)) (sym c.as_slice-2.ensures.value)
    (classes_named r c.len-len.ensures.well_formed (slice_index c.args.places.now) (length r.events) made.numbers.items made.infos.items made.lists.keys c.in_ok-numbering.ensures x)

pub returns-clause-classes : goal.returns-clause-classes
returns-clause-classes c =
    let made = c.in_ok-numbering.numbering in
    AreClasses-from c.args.indexed.now.events (slice_index c.args.places.now) made.numbers.items made.infos.items made.lists.keys c.in_ok-numbering.ensures

pub returns-clause-few : goal.returns-clause-few
returns-clause-few c =
    let are = c.in_ok-numbering.ensures in
    omega (arith, are.few, c.len-len.ensures.well_formed.events)

pub returns-clause-locks : goal.returns-clause-locks
returns-clause-locks c =
    let made = c.in_ok-numbering.numbering in
    AreLocks-from c.args.indexed.now.events (slice_index c.args.places.now) made.numbers.items made.infos.items made.lists.keys c.in_ok-numbering.ensures

pub grouped-requires : goal.grouped-requires
grouped-requires c =
    let made = c.in_ok-numbering.numbering in
    let are = AreClasses-from c.args.indexed.now.events (slice_index c.args.places.now) made.numbers.items made.infos.items made.lists.keys c.in_ok-numbering.ensures in
    search (arith, are.within)

pub with_members-requires : goal.with_members-requires
with_members-requires c =
    let T = c.args.indexed.now.events in
    let old = c.in_ok-numbering.numbering in
    let new = c.in-Some.made in
    let from : IsRenumbered c.as_slice-3.result.now c.as_slice-4.result.now new.numbers.items new.infos.items =
    subst (λ (o : Option Regrouped). IfSome o (λ made. IsRenumbered c.as_slice-3.result.now c.as_slice-4.result.now made.numbers.items made.infos.items)) c.in-Some.is c.in_ok-made.ensures in
    let again : IsRenumbered old.numbers.items old.infos.items new.numbers.items new.infos.items =
    subst (λ (xs : List ℕ). IsRenumbered xs old.infos.items new.numbers.items new.infos.items) c.as_slice-3.ensures.value
    (subst (λ (xs : List Class). IsRenumbered c.as_slice-3.result.now xs new.numbers.items new.infos.items) c.as_slice-4.ensures.value from) in
    record {
      numbered = AreNumbered-again T (slice_index c.args.places.now) (length T) old.numbers.items old.infos.items old.lists.keys new.numbers.items new.infos.items c.in_ok-numbering.ensures again;
    }
