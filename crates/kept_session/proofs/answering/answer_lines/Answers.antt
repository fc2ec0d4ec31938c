use Rattle.std.proofs.Common.{◌∙◌, subst}
use Rattle.rapid_text.specs.Recording.{Recording}
use Rattle.kept_session.specs.Steps.{LineAnswered}
use Rattle.kept_session.proofs.LineLemmas.{parts_lines}
use Rattle.kept_session.proofs.PieceLemmas.{underway-line, underway-more}
use Rattle.kept_session.proofs.answering.answer_lines.Goals as goal

pub answer_line-requires : goal.answer_line-requires
answer_line-requires c = record { line = underway-line _ _ _ _ _ _ _ _ _ _ _ _ _ _ c.loop-raw.invariant.underway c.in-Some.ensures.some (parts_lines c.args.piece.now) }

pub loop-raw-preserved : goal.loop-raw-preserved
loop-raw-preserved c =
    let inv = c.loop-raw.invariant in
    let one = subst
    (λ (t : Recording). LineAnswered t c.args.client c.loop-raw.number c.in-Some.raw.now c.loop-raw.bench.log c.answer_line.new.bench.log c.loop-raw.out.items c.answer_line.new.out.items c.loop-raw.block c.answer_line.new.block)
    inv.trace c.in_ok-answer_line.ensures.answered in
    record {
      trace = c.in_ok-answer_line.ensures.trace ∙ inv.trace;
      underway = underway-more _ _ _ _ _ _ _ _ _ _ _ _ _ _ _ _ _ inv.underway c.in-Some.ensures.some one _ c.saturating_add-number.ensures;
    }
