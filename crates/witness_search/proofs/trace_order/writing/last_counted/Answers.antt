use Rattle.std.proofs.Common.{◌≡◌, ◌-◌, ◌<◌, ℕ, get_or, length, sym, ap, ◌∙◌, subst, arith, inl, inr}
use Rattle.std.proofs.lemmas.Bool.{cases_eq, false≢true}
use Rattle.std.proofs.lemmas.List.Elements.{Contains-get_or}
use Rattle.must_order.specs.Layout.{IsCounted}
use Rattle.witness_search.proofs.trace_order.WriteLemmas.{last_write-none, last_write-found}
use Rattle.witness_search.proofs.trace_order.writing.last_counted.Goals as goal

pub is_counted-requires-clause-event : goal.is_counted-requires-clause-event
is_counted-requires-clause-event c =
    let ws = c.args.writes.now in
    let at = c.loop-at.at - 1 in
    let low : at < length ws = omega (arith, c.loop-at-test.true, c.loop-at.invariant.low) in
    ((c.requires.writes.members (get_or ws at 0)).0 (Contains-get_or ws at 0 low)).0

pub returns-then-is_counted : goal.returns-then-is_counted
returns-then-is_counted c =
    let ws = c.args.writes.now in
    let at = c.loop-at.at - 1 in
    let low : at < length ws = omega (arith, c.loop-at-test.true, c.loop-at.invariant.low) in
    last_write-found c.args.indexed.now.events (λ t. get_or c.args.row.now t 0) c.args.variable ws c.requires.writes at low (c.is_counted.ensures.0 c.if-is_counted.true)
    (λ j up lt. c.loop-at.invariant.none j (omega (arith, up, c.loop-at-test.true)) lt)

pub loop-at-preserved : goal.loop-at-preserved
loop-at-preserved c =
    let T = c.args.indexed.now.events in
    let ws = c.args.writes.now in
    let at = c.loop-at.at - 1 in
    record {
      low = omega (arith, c.loop-at.invariant.low);
      none = λ i low high.
          elim (cases_eq i at) [
            | inl one ↦ λ counted.
                false≢true (sym c.if-is_counted.false ∙ c.is_counted.ensures.1 (subst (λ (k : ℕ). IsCounted T (λ t. get_or c.args.row.now t 0) (get_or ws k 0)) one counted))
            | inr other ↦ c.loop-at.invariant.none i (omega (arith, low, other, c.loop-at-test.true)) high
          ];
    }

pub returns : goal.returns
returns c =
    last_write-none c.args.indexed.now.events (λ t. get_or c.args.row.now t 0) c.args.variable c.args.writes.now c.requires.writes
    (λ i low. c.loop-at.invariant.none i (omega (arith, c.loop-at-test.false)) low)
