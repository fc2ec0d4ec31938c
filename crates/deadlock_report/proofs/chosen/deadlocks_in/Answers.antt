use Rattle.std.proofs.Common.{◌≡◌, ℕ, List, cond, count_by, take, subst, sym, arith}
use Rattle.std.proofs.lemmas.List.{take_more}
use Rattle.race_triage.specs.Pieces.{capped}
use Rattle.deadlock_triage.specs.declared.outcomes.Verdict.{Verdict}
use Rattle.deadlock_report.specs.Counts.{is_of}
use Rattle.deadlock_report.specs.declared.kinds.Kind.TheVariants.{Shown}
use Rattle.deadlock_report.proofs.CountLemmas.{one_more}
use Rattle.deadlock_report.proofs.chosen.deadlocks_in.Goals as goal

pub loop-verdict-preserved : goal.loop-verdict-preserved
loop-verdict-preserved c =
    let all : List Verdict = c.args.verdicts.now in
    let i : ℕ = c.loop-verdict.verdict-index in
    let more = one_more (λ v. cond (is_of Shown v) 1 0) (take i all) _ c.loop-verdict.count _ c.one_if.result c.loop-verdict.invariant c.one_if.ensures c.saturating_add-count.ensures in
    subst (λ (vs : List Verdict). c.saturating_add-count.result ≡ capped (count_by (is_of Shown) vs)) (sym (take_more all i _ (omega (arith, c.loop-verdict-test.true)))) more
