use Rattle.std.proofs.Common.{◌≡◌, ◌+◌, ℕ, slice_index, subst, arith}
use Rattle.deadlock_triage.specs.Rows.{AreRows}
use Rattle.deadlock_triage.proofs.RowLemmas.{rows-end}
use Rattle.deadlock_triage.proofs.judge.Judge.visit_all.Goals as goal

pub returns : goal.returns
returns c =
    let j = c.args.self.now in
    let place : ℕ → ℕ = slice_index j.places.now in
    let rows = c.loop-earlier.rows in
    let end : c.loop-earlier.earlier ≡ c.args.later = omega (arith, c.loop-earlier-test.false, c.loop-earlier.auto.earlier-end) in
    rows-end j.analysis.now place j.nested.now j.is_whole c.args.later rows.patterns.keys rows.verdicts.items
    (subst (λ (i : ℕ). AreRows j.analysis.now place j.nested.now j.is_whole i c.args.later rows.patterns.keys rows.verdicts.items) end c.loop-earlier.invariant)
