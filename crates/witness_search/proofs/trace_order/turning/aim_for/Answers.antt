use Rattle.std.proofs.Common.{◌≡◌, ℕ, ◌≤◌, List, get_or, length, refl, sym, ap, ◌∙◌, subst}
use Rattle.event_index.specs.Lookups.{events_of}
use Rattle.witness_search.specs.trace_order.Laws.{IsBaseOf}
use Rattle.witness_search.specs.trace_order.Layout.{IsNeededRow}
use Rattle.witness_search.specs.trace_order.Counting.{counted_events}
use Rattle.witness_search.proofs.trace_order.StandLemmas.{AreNeeded-events}
use Rattle.witness_search.proofs.trace_order.TurnLemmas.{IsCorrectReordering-ready}
use Rattle.witness_search.proofs.trace_order.WantLemmas.{IsNeededRow-base}
use Rattle.witness_search.proofs.trace_order.turning.aim_for.Goals as goal

pub wanted_row-wanted-requires-clause-len : goal.wanted_row-wanted-requires-clause-len
wanted_row-wanted-requires-clause-len c = ap length (c.in_ok-row.ensures.items ∙ c.as_slice.ensures.value) ∙ c.in_ok-start.ensures.len

pub wanted_row-wanted-requires-clause-row : goal.wanted_row-wanted-requires-clause-row
wanted_row-wanted-requires-clause-row c =
    let T = c.args.indexed.now.events in
    subst (λ (xs : List ℕ). IsNeededRow T (IsBaseOf T c.args.pair.1) (λ t. get_or xs t 0)) (sym (c.in_ok-row.ensures.items ∙ c.as_slice.ensures.value))
    (IsNeededRow-base T c.args.pair.1 c.base.result (λ t. get_or c.in_ok-start.start.items t 0) c.base.ensures.base c.in_ok-start.ensures.row)

pub wanted_row-wanted-requires-clause-within : goal.wanted_row-wanted-requires-clause-within
wanted_row-wanted-requires-clause-within c =
    subst (λ (xs : List ℕ). (t : ℕ) → get_or xs t 0 ≤ length (events_of c.args.indexed.now.events t)) (sym (c.in_ok-row.ensures.items ∙ c.as_slice.ensures.value))
    c.in_ok-start.ensures.within

pub returns : goal.returns
returns c =
    let T = c.args.indexed.now.events in
    let row : ℕ → ℕ = λ t. get_or c.in_ok-start.start.items t 0 in
    let rules = c.len-len.ensures.disciplined in
    let needs = IsNeededRow-base T c.args.pair.1 c.base.result row c.base.ensures.base c.in_ok-start.ensures.row in
    record {
      first = refl;
      second = refl;
      needs = needs;
      is = record {
        start = c.in_ok-start.ensures.len;
        wanted = c.wanted_row-wanted.ensures.len;
        within = c.in_ok-start.ensures.within;
        wants = c.wanted_row-wanted.ensures.wanted;
        correct = IsCorrectReordering-ready T rules c.args.pair.1 (counted_events T row) c.requires.second (AreNeeded-events T rules row (IsBaseOf T c.args.pair.1) needs);
      };
    }
