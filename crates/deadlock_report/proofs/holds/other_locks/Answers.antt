use Rattle.std.proofs.Common.{List, ℕ, filter, ap, ◌∙◌}
use Rattle.std.proofs.lemmas.Result.{IfOk-weaker}
use Rattle.race_triage.proofs.HeldLemmas.{held_locks-is}
use Rattle.deadlock_report.specs.Holds.{is_other}
use Rattle.deadlock_report.proofs.holds.other_locks.Goals as goal

pub returns : goal.returns
returns c =
    let r = c.args.analysis.now in
    let held = c.as_slice.ensures.value ∙ held_locks-is r c.args.request c.in_ok-locks.locks.items c.in_ok-locks.ensures.held in
    IfOk-weaker c.others_in.result _ _ (λ others is. is ∙ ap (λ (ls : List ℕ). filter (is_other c.args.but) ls) held)
    c.others_in.ensures
