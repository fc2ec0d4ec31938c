use Rattle.std.proofs.Common.{◌≡◌, ℕ, subst, arith}
use Rattle.race_groups.specs.least_pairs.Going.{AreFoundOf}
use Rattle.race_groups.specs.least_pairs.Joining.{IsBelow}
use Rattle.race_groups.proofs.least_pairs.ShareLemmas.{AreFoundOf-none}
use Rattle.race_groups.proofs.least_pairs.sharing.joined.Goals as goal

pub loop-at-init : goal.loop-at-init
loop-at-init c = AreFoundOf-none c.args.search.now c.args.every c.in_ok-all.all.items c.in_ok-all.ensures.len c.in_ok-all.ensures.nothing

pub returns : goal.returns
returns c =
    let end : c.loop-at.at ≡ c.args.every = omega (arith, c.loop-at-test.false, c.loop-at.auto.at-end, c.requires.len) in
    subst (λ (n : ℕ). AreFoundOf c.args.search.now (IsBelow c.args.every n) c.loop-at.all.items) end c.loop-at.invariant
