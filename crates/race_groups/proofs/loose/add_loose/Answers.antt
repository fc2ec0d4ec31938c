use Rattle.std.proofs.Common.{◌+◌, ℕ, ◌<◌, ◌≤◌, List, length, slice_index, sym, ap, ◌∙◌, arith}
use Rattle.race_groups.specs.Basis.{loose_of}
use Rattle.race_groups.specs.Counts.{keeps}
use Rattle.race_groups.specs.Rows.{count_at}
use Rattle.race_groups.proofs.ClassLemmas.{members_fit}
use Rattle.race_groups.proofs.ConflictLemmas.{conflicting_all, conflicting_within}
use Rattle.race_groups.proofs.LooseLemmas.{loose_none, loose_room}
use Rattle.race_groups.proofs.WholeLemmas.{members_all}
use Rattle.race_groups.proofs.loose.add_loose.Goals as goal

pub add_members-requires-clause-members : goal.add_members-requires-clause-members
add_members-requires-clause-members c =
    conflicting_within c.args.basis.classes.now.infos.items c.args.variable c.args.later.op c.conflicting-walk.result.members.now c.conflicting-walk.ensures.members

pub add_members-requires-clause-can : goal.add_members-requires-clause-can
add_members-requires-clause-can c = λ m inside.
    let are = c.requires.loose in (
      omega (arith, inside, are.earlier_len),
      omega (arith, inside, are.known_len),
      omega (arith, inside, are.forced_len),
      are.under m inside,
      are.within m inside,
    )

pub add_members-requires-clause-own : goal.add_members-requires-clause-own
add_members-requires-clause-own c = λ m inside own k.
    let are = c.requires.loose in
    let loose = c.args.loose in
    let owned = ap (λ (xs : List ℕ). slice_index xs m) (sym c.conflicting-walk.ensures.owners) ∙ own in
    let none = are.own m inside owned in
    let under = are.under m inside in
    loose_none loose.earlier.now loose.known.now loose.forced.now m none (omega (arith, none, under)) k

pub add_members-requires-clause-room : goal.add_members-requires-clause-room
add_members-requires-clause-room c = λ k p q le.
    let b = c.args.basis in
    let infos = b.classes.now.infos.items in
    let are = c.requires.loose in
    let op = c.args.later.op in
    let members = c.conflicting-walk.result.members.now in
    let some = c.conflicting-walk.ensures.members in
    let e = c.args.loose.earlier.now in
    let n = c.args.loose.known.now in
    let fewer : (m : ℕ) → m < length infos → slice_index n m ≤ 1099511627776 = λ m lt.
    let few = are.few m lt in
    let under = are.under m lt in
    omega (arith, few, under)
    in
    let fits = loose_room e n c.args.loose.forced.now members 1152921504606846976
    (members_fit infos c.args.variable op (slice_index e) members c.requires.basis.few are.few some)
    (members_fit infos c.args.variable op (slice_index n) members c.requires.basis.few fewer some) k
    in omega (arith, fits, c.requires.room k p q le)

pub returns-clause-ok : goal.returns-clause-ok
returns-clause-ok c = λ k p q le.
    let b = c.args.basis in
    let infos = b.classes.now.infos.items in
    let later = c.args.later in
    let keep = keeps b.classes.now.lists.keys k in
    let members = c.conflicting-walk.result.members.now in
    let amounts = loose_of c.args.loose.earlier.now c.args.loose.known.now c.args.loose.forced.now k in
    c.in_ok-add_members.ensures.ok k p q le
    ∙ ap (λ m. count_at k c.args.rows.now p q + m)
    (conflicting_all keep p q later infos amounts c.args.variable members c.conflicting-walk.ensures.members
    ∙ members_all keep p q later infos amounts c.args.variable c.requires.access)
