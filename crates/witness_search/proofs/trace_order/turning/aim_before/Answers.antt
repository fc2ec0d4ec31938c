use Rattle.std.proofs.Common.{ℕ, get_or, refl}
use Rattle.witness_search.specs.trace_order.Counting.{counted_events}
use Rattle.witness_search.specs.trace_order.InOrder.{IsBaseOfPair}
use Rattle.witness_search.proofs.trace_order.NeededLemmas.{sound_law}
use Rattle.witness_search.proofs.trace_order.StandLemmas.{AreNeeded-events}
use Rattle.witness_search.proofs.trace_order.turning.aim_before.Goals as goal

pub returns : goal.returns
returns c =
    let T = c.args.indexed.now.events in
    let row : ℕ → ℕ = λ t. get_or c.in_ok-start.start.items t 0 in
    let rules = c.len-len.ensures.disciplined in
    record {
      first = refl;
      second = refl;
      needs = c.in_ok-start.ensures.row;
      is = record {
        start = c.in_ok-start.ensures.len;
        wanted = c.requires.aim.wanted;
        within = c.in_ok-start.ensures.within;
        wants = c.requires.aim.wants;
        correct =
            (sound_law T (counted_events T row) c.args.fronts.0 c.args.fronts.1 rules
            (AreNeeded-events T rules row (IsBaseOfPair T c.args.fronts.0 c.args.fronts.1) c.in_ok-start.ensures.row)).0;
      };
    }
