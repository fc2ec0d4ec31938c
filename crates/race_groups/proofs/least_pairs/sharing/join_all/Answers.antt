use Rattle.std.proofs.Common.{◌+◌, ◌<◌, ◌≤◌, length, get_or, length-set, sym, ◌∙◌, subst, arith}
use Rattle.race_groups.specs.least_pairs.Joining.{IsJoined}
use Rattle.race_groups.specs.least_pairs.Taking.{AreTries}
use Rattle.race_groups.specs.declared.least_pairs.least.Least.{Least}
use Rattle.race_groups.proofs.least_pairs.ShareLemmas.{joined_done, joined_left, joined_room, joined_tries}
use Rattle.race_groups.proofs.least_pairs.sharing.join_all.Goals as goal

pub join-requires-clause-room : goal.join-requires-clause-room
join-requires-clause-room c =
    let at = c.loop-at.at in
    let is = c.loop-at.invariant in
    let lt = c.loop-at-test.true in
    let inside : at < length c.args.all.now = omega (arith, lt, c.requires.len) in
    subst (λ (l : Least). (get_or c.loop-at.all at c.index-all-at.result).variables + l.variables ≤ 4294967295) (sym c.index-part-at.is)
    (joined_room c.args.most c.args.part.now c.args.all.now c.loop-at.all at (omega (arith, inside, is.len)) is.left c.index-part-at.result c.index-all-at.result inside c.requires.room)

pub join-requires-clause-tries : goal.join-requires-clause-tries
join-requires-clause-tries c =
    let at = c.loop-at.at in
    let is = c.loop-at.invariant in
    let lt = c.loop-at-test.true in
    let inside : at < length c.args.all.now = omega (arith, lt, c.requires.len) in
    joined_tries c.args.most c.args.part.now c.args.all.now c.loop-at.all at (omega (arith, inside, is.len)) is.left c.index-all-at.result inside c.requires.all

pub join-requires-clause-part : goal.join-requires-clause-part
join-requires-clause-part c =
    subst (λ (l : Least). AreTries c.args.most l.tries.items) (sym c.index-part-at.is) (c.requires.part c.loop-at.at c.index-part-at.result c.loop-at-test.true)

pub loop-at-preserved : goal.loop-at-preserved
loop-at-preserved c =
    let at = c.loop-at.at in
    let is = c.loop-at.invariant in
    let now = c.loop-at.all in
    let old = c.args.all.now in
    let part = c.args.part.now in
    let m = c.join.new.self in
    let lt = c.loop-at-test.true in
    let inside : at < length old = omega (arith, lt, c.requires.len) in
    let here : at < length now = omega (arith, inside, is.len) in
    record {
      len = length-set now at m ∙ is.len;
      done = joined_done c.args.most part old now at here is.left m is.done c.index-part-at.result c.index-all-at.result lt
          (subst (λ (l : Least). IsJoined c.args.most l (get_or now at c.index-all-at.result) m) c.index-part-at.is c.in_ok-join.ensures);
      left = joined_left c.args.most part old now at here is.left m;
    }

pub returns : goal.returns
returns c = record {
  len = c.loop-at.invariant.len;
  each = λ k d lt. c.loop-at.invariant.done k d (omega (arith, lt, c.requires.len, c.loop-at-test.false));
}
