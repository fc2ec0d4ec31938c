use Rattle.window.proofs.SummaryLemmas.{window_as, window_longest, window_place}
use Rattle.window.proofs.piece.window_after.Goals as goal

pub returns-in-Err-clause-err : goal.returns-in-Err-clause-err
returns-in-Err-clause-err c = c.in-Err.ensures.err c.args.size

pub returns-in-Ok-cut_at-clause-from : goal.returns-in-Ok-cut_at-clause-from
returns-in-Ok-cut_at-clause-from c = window_place c.in-Ok.trace c.args.number c.args.size c.args.most _ c.in-Ok-cut_at.ensures.ok.1

pub returns-in-Ok-cut_at-clause-window : goal.returns-in-Ok-cut_at-clause-window
returns-in-Ok-cut_at-clause-window c front later st whole here all =
    window_as front c.args.head.now c.args.more.now later c.in-Ok.trace c.args.number c.args.size c.args.most _ st whole c.in-Ok.ensures.ok c.raw.ensures.well_formed c.raw.ensures.disciplined all c.requires.size c.requires.number here c.in-Ok-cut_at.ensures.ok.1

pub returns-in-Ok-cut_at-clause-longest : goal.returns-in-Ok-cut_at-clause-longest
returns-in-Ok-cut_at-clause-longest c = window_longest c.args.head.now c.args.more.now c.in-Ok.trace c.args.number c.args.size c.args.most _ c.requires.whole c.in-Ok.ensures.ok c.requires.size c.in-Ok-cut_at.ensures.ok.1

pub returns-in-Ok-cut_at-clause-kept : goal.returns-in-Ok-cut_at-clause-kept
returns-in-Ok-cut_at-clause-kept c = (c.in-Ok.trace, c.in-Ok.ensures.ok, c.raw.ensures.disciplined)
