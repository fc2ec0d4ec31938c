use Rattle.std.proofs.Common.{◌++◌, List, ℕ, ap, ◌∙◌}
use Rattle.race_triage.proofs.HeldLemmas.{held_locks-is}
use Rattle.deadlock_report.specs.Texts.{other_lines}
use Rattle.deadlock_report.proofs.requests.append_others.Goals as goal

pub returns : goal.returns
returns c =
    let r = c.args.analysis.now in
    let locks = c.in_ok-locks.locks.items in
    (simp c.indexed.ensures at c.in_ok-append_locks.ensures)
    ∙ ap (λ (ls : List ℕ). c.args.out.now.items ++ other_lines r c.args.but ls)
    (c.as_slice.ensures.value ∙ held_locks-is r c.args.request locks c.in_ok-locks.ensures.held)
