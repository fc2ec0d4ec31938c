use Rattle.std.proofs.Common.{sym, arith}
use Rattle.race_groups.proofs.SharingLemmas.{apart_lists}
use Rattle.race_groups.proofs.sharing.meet_rising.Goals as goal

pub returns : goal.returns
returns c = sym (apart_lists c.args.first.now c.args.second.now (λ i k within lt. c.loop-at.invariant.apart i k (omega (arith, within, c.loop-at-test.false)) lt))
