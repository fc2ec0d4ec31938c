use Rattle.std.proofs.Common.{◌+◌, List, take, subst, sym, arith}
use Rattle.std.proofs.lemmas.List.{take_more}
use Rattle.deadlock_report.specs.Counts.{AreCounts}
use Rattle.deadlock_triage.specs.declared.outcomes.Verdict.{Verdict}
use Rattle.deadlock_report.proofs.counts.counts_of.Goals as goal

pub loop-verdict-preserved : goal.loop-verdict-preserved
loop-verdict-preserved c =
    let r = c.args.indexed.now in
    let nested = c.args.found.now.nested in
    let is_whole = c.args.found.now.is_whole in
    let i = c.loop-verdict.verdict-index in
    let all = c.deref-verdict-items.result.now in
    let same = c.deref-verdict-items.ensures.value in
    let before = subst (λ (l : List Verdict). AreCounts r nested is_whole (take i l) c.loop-verdict.counts) (sym same) c.loop-verdict.invariant in
    let more =
    subst (λ (l : List Verdict). AreCounts r nested is_whole l c.add.new.self) (sym (take_more all i _ (omega (arith, c.loop-verdict-test.true))))
    (c.add.ensures r nested is_whole (take i all) before) in
    subst (λ (l : List Verdict). AreCounts r nested is_whole (take (i + 1) l) c.add.new.self) same more
