use Rattle.std.proofs.Common.{◌+◌, List, take, subst, sym, arith}
use Rattle.std.proofs.lemmas.List.{take_more}
use Rattle.race_triage.specs.Texts.{AreTotals}
use Rattle.race_triage.specs.declared.verdicts.Verdict.{Verdict}
use Rattle.race_triage.proofs.verdicts.Verdicts.totals.Goals as goal

pub loop-verdict-preserved : goal.loop-verdict-preserved
loop-verdict-preserved c =
    let r = c.args.indexed.now in
    let i = c.loop-verdict.verdict-index in
    let all = c.deref-verdict-items.result.now in
    let same = c.deref-verdict-items.ensures.value in
    let before = subst (λ (l : List Verdict). AreTotals r (take i l) c.loop-verdict.totals) (sym same) c.loop-verdict.invariant in
    let more = subst (λ (l : List Verdict). AreTotals r l c.add.new.self) (sym (take_more all i _ (omega (arith, c.loop-verdict-test.true, same)))) (c.add.ensures r (take i all) before) in
    subst (λ (l : List Verdict). AreTotals r (take (i + 1) l) c.add.new.self) same more
