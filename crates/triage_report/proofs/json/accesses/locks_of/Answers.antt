use Rattle.std.proofs.Common.{◌≡◌, IfOk, List, ℕ, subst, ◌∙◌}
use Rattle.serde_json.specs.View.{view}
use Rattle.race_triage.proofs.HeldLemmas.{held_locks-is}
use Rattle.triage_report.specs.json.Objects.{lock_names}
use Rattle.triage_report.proofs.json.accesses.locks_of.Goals as goal

pub returns : goal.returns
returns c =
    let r = c.args.analysis.now in
    subst (λ (ls : List ℕ). IfOk c.names_of.result (λ names. view names ≡ lock_names r ls))
    (c.as_slice.ensures.value ∙ held_locks-is r c.args.event c.in_ok-locks.locks.items c.in_ok-locks.ensures.held)
    (simp c.indexed.ensures at c.names_of.ensures)
