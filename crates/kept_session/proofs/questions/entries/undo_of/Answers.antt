-- An entry that does not undo it is passed.
use Rattle.std.proofs.Common.{◌≡◌, ◌+◌, ◌-◌, false, length, ap, sym, ◌∙◌, arith}
use Rattle.kept_session.specs.QuestionAnswers.{undoes_at, undoes_in}
use Rattle.kept_session.proofs.QuestionFindLemmas.{find-past}
use Rattle.kept_session.proofs.questions.entries.undo_of.Goals as goal

pub loop-at-preserved : goal.loop-at-preserved
loop-at-preserved c =
    let L = c.args.bench.now.log in
    let k = c.args.number in
    let n = c.loop-at.at in
    let no : undoes_at L k n ≡ false = ap (undoes_in k) c.entry.ensures ∙ sym c.undoes.ensures ∙ c.if-undoes.false in
    c.loop-at.invariant ∙ find-past (undoes_at L k) n (length L - n) (length L - (n + 1)) (omega (arith, c.loop-at-test.true, c.log_len-at-end.ensures.len)) no
