use Rattle.std.proofs.Common.{sym}
use Rattle.window.proofs.GrowthLemmas.{tried_more}
use Rattle.window.proofs.naming.new_name.Goals as goal

pub tries-preserved : goal.tries-preserved
tries-preserved c =
    let h = c.tries.invariant in
    let taken = sym c.if-not-is_used.ensures in
    tried_more c.args.trace.now c.tries.name.items c.push.new.self.items h.0 h.1 c.in_ok-push.ensures.items h.2 (rw c.as_slice.ensures.value at taken)
