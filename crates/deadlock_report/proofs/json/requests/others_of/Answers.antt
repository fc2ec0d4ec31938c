use Rattle.std.proofs.Common.{◌≡◌, IfOk, List, ℕ, subst, ◌∙◌}
use Rattle.serde_json.specs.View.{view}
use Rattle.triage_report.specs.json.Objects.{lock_names}
use Rattle.deadlock_report.proofs.json.requests.others_of.Goals as goal

pub returns : goal.returns
returns c =
    let r = c.args.analysis.now in
    subst (λ (ls : List ℕ). IfOk c.names_of.result (λ names. view names ≡ lock_names r ls))
    (c.as_slice.ensures.value ∙ c.in_ok-others.ensures)
    (simp c.indexed.ensures at c.names_of.ensures)
