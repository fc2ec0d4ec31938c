use Rattle.std.proofs.Common.{length, refl, subst, arith}
use Rattle.std.proofs.lemmas.Option.{slice_get_read}
use Rattle.rapid_text.specs.Recording.{IsNamedOp}
use Rattle.race_groups.proofs.least_pairs.LaneLemmas.{AreAccesses-none, AreAccesses-push, access_named}
use Rattle.race_groups.proofs.least_pairs.lanes.add_access.Goals as goal

pub returns-in_default-clause-accesses : goal.returns-in_default-clause-accesses
returns-in_default-clause-accesses c =
    AreAccesses-none c.args.indexed.now.events c.args.event c.event-found.result c.event-found.ensures.found
    c.args.accesses.now.items (c.in_default.ensures.none search) c.requires.accesses

pub returns-clause-accesses : goal.returns-clause-accesses
returns-clause-accesses c =
    let r = c.args.indexed.now in
    let accesses = c.args.accesses.now.items in
    let x = c.in-Some.variable in
    let writing = c.in-Some.field-0-1 in
    let u = c.index_mut.result.now in
    let is = c.in-Some.ensures.some in
    let named = access_named r writing x (subst (IsNamedOp r) is c.event-found.ensures.named.1) in
    let here = slice_get_read accesses (length accesses) x u refl (omega (arith, named, c.requires.len)) c.index_mut.ensures.value in
    AreAccesses-push r.events c.args.event c.event-found.result c.event-found.ensures.found accesses
    writing x u c.push.new.self is here c.in_ok-push.ensures.items c.requires.accesses
