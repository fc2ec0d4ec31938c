use Rattle.std.proofs.Common.{◌++◌, List, ℕ, ap, ◌∙◌}
use Rattle.race_triage.proofs.HeldLemmas.{held_locks-is}
use Rattle.triage_report.specs.lines.Lines.{lock_lines}
use Rattle.triage_report.proofs.lines.blocks.append_held.Goals as goal

pub returns : goal.returns
returns c =
    let r = c.args.analysis.now in
    (simp c.indexed.ensures at c.in_ok-append_locks.ensures)
    ∙ ap (λ (ls : List ℕ). c.args.out.now.items ++ lock_lines r c.args.place.now ls)
    (c.as_slice.ensures.value ∙ held_locks-is r c.args.event c.in_ok-locks.locks.items c.in_ok-locks.ensures.held)
