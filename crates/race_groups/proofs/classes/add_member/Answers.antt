use Rattle.std.proofs.Common.{◌≡◌, ◌<◌, true, length, refl}
use Rattle.std.proofs.lemmas.List.Elements.{All-get_or}
use Rattle.std.proofs.lemmas.Option.{slice_get-get_or, slice_get_read}
use Rattle.event_index.specs.Relations.{is_access}
use Rattle.race_groups.specs.declared.class.Class.{Class}
use Rattle.race_groups.proofs.BuildLemmas.{AreMembersBelow-none, AreMembersBelow-push}
use Rattle.race_groups.proofs.WalkLemmas.{some_class}
use Rattle.race_groups.proofs.classes.add_member.Goals as goal

pub returns-in_default-clause-members : goal.returns-in_default-clause-members
returns-in_default-clause-members c =
    let at = slice_get-get_or c.args.infos.now c.args.class some_class c.requires.class in
    AreMembersBelow-none c.args.infos.now c.args.members.now.items c.args.class _ at c.requires.members (c.in_default.ensures.none search)

pub returns-clause-members : goal.returns-clause-members
returns-clause-members c =
    let members = c.args.members.now.items in
    let x = c.in-Some.variable in
    let u = c.index_mut.result.now in
    let at = slice_get-get_or c.args.infos.now c.args.class some_class c.requires.class in
    let low = All-get_or (λ (i : Class). is_access x i.op ≡ true → x < length members) c.args.infos.now c.args.class some_class c.requires.class (c.requires.named x) c.in-Some.ensures.some in
    let is = slice_get_read members (length members) x u refl low c.index_mut.ensures.value in
    AreMembersBelow-push c.args.infos.now members c.args.class _ at c.requires.members x u c.push.new.self c.in-Some.ensures.some c.in-Some.ensures.one is c.in_ok-push.ensures.items
