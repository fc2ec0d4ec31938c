use Rattle.std.proofs.Common.{◌≡◌, ℕ, subst, arith, length, get_or}
use Rattle.witness_search.proofs.trace_order.LoopLemmas.{zeros_at}
use Rattle.lock_waits.specs.Gathering.{IsGathering, none_visited}
use Rattle.lock_waits.proofs.GatherLemmas.{IsGathering-start, IsGathering-base}
use Rattle.lock_waits.proofs.requiring.add_bases.Goals as goal

pub loop-at-init : goal.loop-at-init
loop-at-init c = record {
  len = c.requires.row_len;
  gathering = IsGathering-start c.args.indexed.now.events c.args.requests.now (λ t. get_or c.args.row.now.items t 0) (zeros_at _ c.args.row.now.items c.requires.row);
}

pub loop-at-preserved : goal.loop-at-preserved
loop-at-preserved c = record {
  len = c.raise.ensures.len;
  gathering =
      IsGathering-base c.args.indexed.now.events c.args.requests.now c.loop-at.at (λ t. get_or c.loop-at.row.items t 0) (λ t. get_or c.raise.new.row.items t 0) c.base.result
      (omega (arith, c.loop-at-test.true, c.loop-at.auto.at-end)) c.base.ensures.base c.loop-at.invariant.gathering c.raise.ensures.joins;
}

pub returns-clause-gathering : goal.returns-clause-gathering
returns-clause-gathering c =
    let end : c.loop-at.at ≡ length c.args.requests.now = omega (arith, c.loop-at-test.false, c.loop-at.auto.at-end) in
    subst (λ (n : ℕ). IsGathering c.args.indexed.now.events c.args.requests.now n (λ t. get_or c.loop-at.row.items t 0) none_visited) end c.loop-at.invariant.gathering
