use Rattle.std.proofs.Common.{◌∙◌, ◌+◌, ◌∷◌, [], length, length-append, sym, ap, subst}
use Rattle.race_groups.specs.least_pairs.Lanes.{AreAccesses}
use Rattle.race_groups.proofs.least_pairs.LaneLemmas.{AreAccesses-begin}
use Rattle.race_groups.proofs.least_pairs.lanes.accesses_of.Goals as goal

pub loop-variable-preserved : goal.loop-variable-preserved
loop-variable-preserved c =
    let T = c.args.indexed.now.events in
    let accesses = c.loop-variable.accesses.items in
    let fresh = c.new.result in
    let is = c.loop-variable.invariant in
    let pushed = c.in_ok-push.ensures.items in
    record {
      len = ap length pushed ∙ length-append accesses (fresh ∷ []) ∙ ap (λ n. n + 1) is.len;
      accesses = subst (AreAccesses T 0) (sym pushed) (AreAccesses-begin T accesses fresh c.new.ensures.items is.accesses);
    }
