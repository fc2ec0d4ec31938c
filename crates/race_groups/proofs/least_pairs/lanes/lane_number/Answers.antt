use Rattle.std.proofs.Common.{◌≡◌, ◌∙◌, List, length, ap, subst, inr, arith}
use Rattle.std.specs.List.{slice_get}
use Rattle.must_order.proofs.JoinLemmas.{slice_get-last}
use Rattle.race_groups.specs.least_pairs.Making.{IsLaneOf}
use Rattle.race_groups.specs.declared.least_pairs.lanes.Lane.{Lane}
use Rattle.race_groups.proofs.least_pairs.lanes.lane_number.Goals as goal

pub returns-then-is_of-clause-found : goal.returns-then-is_of-clause-found
returns-then-is_of-clause-found c =
    let here = c.is_of.ensures c.if-is_of.true in
    subst (λ (xs : List Lane). IsLaneOf xs c.in-Some.number.now c.args.thread c.args.is_writing) c.as_slice.ensures.value here

pub returns-clause-found : goal.returns-clause-found
returns-clause-found c =
    let xs = c.args.lanes.now.items in
    let lane = c.new.result in
    let number : c.len-number.result ≡ length xs = omega (arith, c.len-number.ensures, c.args.lanes.now.ok.0) in
    record {
      lane = lane;
      at = ap (λ n. slice_get c.push.new.self.items n) number ∙ ap (λ ys. slice_get ys (length xs)) c.in_ok-push.ensures.items ∙ slice_get-last xs lane;
      thread_is = c.new.ensures.thread;
      writing_is = c.new.ensures.is_writing;
    }

pub returns-clause-grown : goal.returns-clause-grown
returns-clause-grown c =
    inr (record {
      lane = c.new.result;
      events = c.new.ensures.events;
      places = c.new.ensures.places;
      bunches = c.new.ensures.bunches;
      added = c.in_ok-push.ensures.items;
    })
