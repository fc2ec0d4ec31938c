use Rattle.std.proofs.Common.{ℕ, ◌<◌, length, slice_index, ap, arith}
use Rattle.std.proofs.lemmas.List.Elements.{All-get_or}
use Rattle.std.specs.Bool.{if◌then◌else◌}
use Rattle.std.specs.List.{slice_get}
use Rattle.race_groups.specs.Classes.{adds_to}
use Rattle.race_groups.specs.Counts.{keeps}
use Rattle.race_groups.proofs.WalkLemmas.{share_more, share_fits}
use Rattle.race_groups.proofs.walk.add_run.Goals as goal

pub share-requires : goal.share-requires
share-requires g c =
    let members = c.args.members.now in
    let i = c.loop-member.member-index in
    record { can = c.requires.can (slice_index members i) (All-get_or (λ k. k < length c.args.classes.now.infos.items) members i 0 c.loop-member-test.true c.requires.members) }

pub add_share-requires-clause-room : goal.add_share-requires-clause-room
add_share-requires-clause-room g c = λ k p q le.
    let counts : ℕ → ℕ = g.A.Shares.amount_of c.args.shares.now k in
    let inv = c.loop-member.invariant.counts k p q le in
    let fits = share_fits (keeps c.args.classes.now.lists.keys k) p q c.args.later c.args.classes.now.infos.items counts c.args.members.now c.loop-member.member-index c.loop-member-test.true in
    let room = c.requires.room k p q le in
    let is = c.share.ensures.amounts k in
    omega (arith, inv, fits, room, is)

pub loop-member-preserved : goal.loop-member-preserved
loop-member-preserved g c =
    let infos = c.args.classes.now.infos.items in
    let members = c.args.members.now in
    let i = c.loop-member.member-index in
    let m = slice_index members i in
    record {
      rows = c.in_ok-add_share.ensures.rows;
      counts = λ k p q le.
          let counts : ℕ → ℕ = g.A.Shares.amount_of c.args.shares.now k in
          let more = share_more (keeps c.args.classes.now.lists.keys k) p q c.args.later infos counts members i c.loop-member-test.true in
          let now = c.in_ok-add_share.ensures.ok k p q le in
          let inv = c.loop-member.invariant.counts k p q le in
          let is = c.share.ensures.amounts k in
          let same = ap (λ (n : ℕ). if adds_to (keeps c.args.classes.now.lists.keys k) p q c.args.later (slice_get infos m) then n else 0) is in
          omega (arith, now, inv, more, same);
    }
