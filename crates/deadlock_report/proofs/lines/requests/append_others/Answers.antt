use Rattle.std.proofs.Common.{◌++◌, List, ℕ, ap, ◌∙◌}
use Rattle.triage_report.specs.lines.Lines.{lock_lines}
use Rattle.deadlock_report.proofs.lines.requests.append_others.Goals as goal

pub returns : goal.returns
returns c =
    let r = c.args.analysis.now in
    let place = c.args.place.now in
    let old = c.args.out.now.items in
    (simp c.indexed.ensures at c.in_ok-append_locks.ensures)
    ∙ ap (λ (ls : List ℕ). old ++ lock_lines r place ls) (c.as_slice.ensures.value ∙ c.in_ok-others.ensures)
