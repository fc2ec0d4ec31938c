use Rattle.std.proofs.Common.{◌++◌, List, ℕ, ap, ◌∙◌}
use Rattle.explain_report.specs.Accesses.{lock_lines}
use Rattle.explain_report.proofs.HeldLemmas.{held_locks-is}
use Rattle.explain_report.proofs.accesses.append_held.Goals as goal

pub returns : goal.returns
returns c =
    let locks = c.in_ok-locks.locks.items in
    (simp c.indexed.ensures at c.in_ok-append_locks.ensures)
    ∙ ap (λ (ls : List ℕ). c.args.out.now.items ++ lock_lines c.args.analysis.now ls)
    (c.as_slice.ensures.value ∙ held_locks-is c.args.analysis.now c.args.event locks c.in_ok-locks.ensures.held)
