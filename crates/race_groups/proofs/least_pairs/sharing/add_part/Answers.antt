use Rattle.std.proofs.Common.{◌≡◌, ℕ, ◌+◌, ◌<◌, ◌≤◌, List, All, Result, Vec, IfOk, length, get_or, sym, subst}
use Rattle.std.specs.declared.alloc.Global.{Global}
use Rattle.rapid_text.specs.declared.memory.OutOfMemory.{OutOfMemory}
use Rattle.race_groups.specs.least_pairs.Going.{AreFoundOf, IsTurn}
use Rattle.race_groups.specs.least_pairs.Joining.{AreJoined}
use Rattle.race_groups.specs.least_pairs.Taking.{AreTries}
use Rattle.race_groups.specs.declared.least_pairs.least.Least.{Least}
use Rattle.race_groups.proofs.least_pairs.ShareLemmas.{room_all, old_tries, part_tries, part_len, AreFoundOf-joined}
use Rattle.race_groups.proofs.least_pairs.sharing.add_part.Goals as goal

pub join_all-requires-clause-len : goal.join_all-requires-clause-len
join_all-requires-clause-len c =
    let s = c.args.search.now in
    let some = subst (λ (p : Result (Vec Least Global) OutOfMemory). IfOk p (λ leasts. AreFoundOf s (IsTurn c.args._every c.args._from) leasts.items)) c.in-Ok.is c.requires.part in
    subst (λ (xs : List Least). length xs ≡ length c.args.all.now) (sym c.as_slice.ensures.value)
    (part_len s c.requires.sound c.args._every c.args._from c.in-Ok.some.items c.args.all.now c.requires.all some)

pub join_all-requires-clause-room : goal.join_all-requires-clause-room
join_all-requires-clause-room c =
    let s = c.args.search.now in
    let some = subst (λ (p : Result (Vec Least Global) OutOfMemory). IfOk p (λ leasts. AreFoundOf s (IsTurn c.args._every c.args._from) leasts.items)) c.in-Ok.is c.requires.part in
    subst
    (λ (xs : List Least). (at : ℕ) (d : Least) → at < length c.args.all.now → (get_or c.args.all.now at d).variables + (get_or xs at d).variables ≤ 4294967295)
    (sym c.as_slice.ensures.value)
    (room_all s c.requires.sound c.args._every c.args._from c.in-Ok.some.items c.args.all.now c.requires.all some c.len-len.ensures.well_formed)

pub join_all-requires-clause-all : goal.join_all-requires-clause-all
join_all-requires-clause-all c =
    let s = c.args.search.now in
    let some = subst (λ (p : Result (Vec Least Global) OutOfMemory). IfOk p (λ leasts. AreFoundOf s (IsTurn c.args._every c.args._from) leasts.items)) c.in-Ok.is c.requires.part in
    old_tries s c.requires.sound c.args._every c.args._from c.in-Ok.some.items c.args.all.now c.requires.all some

pub join_all-requires-clause-part : goal.join_all-requires-clause-part
join_all-requires-clause-part c =
    let s = c.args.search.now in
    let some = subst (λ (p : Result (Vec Least Global) OutOfMemory). IfOk p (λ leasts. AreFoundOf s (IsTurn c.args._every c.args._from) leasts.items)) c.in-Ok.is c.requires.part in
    subst (All (λ (l : Least). AreTries s.most l.tries.items)) (sym c.as_slice.ensures.value)
    (part_tries s c.requires.sound c.args._every c.args._from c.in-Ok.some.items c.args.all.now c.requires.all some)

pub returns-in_ok-join_all-in-Ok : goal.returns-in_ok-join_all-in-Ok
returns-in_ok-join_all-in-Ok c =
    let s = c.args.search.now in
    let some = subst (λ (p : Result (Vec Least Global) OutOfMemory). IfOk p (λ leasts. AreFoundOf s (IsTurn c.args._every c.args._from) leasts.items)) c.in-Ok.is c.requires.part in
    let new = c.join_all.new.all in
    AreFoundOf-joined s c.requires.sound c.args._every c.args._from c.in-Ok.some.items c.args.all.now c.requires.all some c.len-len.ensures.well_formed new
    (subst (λ (xs : List Least). AreJoined s.most xs c.args.all.now new) c.as_slice.ensures.value c.in_ok-join_all-in-Ok.ensures)
