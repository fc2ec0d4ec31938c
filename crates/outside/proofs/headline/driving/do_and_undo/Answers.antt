use Rattle.std.proofs.Common.{◌≡◌, ◌∙◌, Ok, subst}
use Rattle.rapid_text.specs.Recording.{Recording}
use Rattle.moves.specs.Rows.{Rows}
use Rattle.inverse_log.specs.declared.call.Call.TheVariants.{Undo}
use Rattle.inverse_log.specs.Answer.{Called}
use Rattle.inverse_log.specs.Headline.{IsFoldOfLive}
use Rattle.outside.proofs.headline.HistoryLemmas.{restored_rows}
use Rattle.outside.proofs.headline.driving.do_and_undo.Goals as goal

pub returns-clause-restored : goal.returns-clause-restored
returns-clause-restored c = λ _ W V w v.
    let b = c.args.bench.now in
    let m = c.call.new.self in
    let n = c.call-in-Ok.new.self in
    let undid : Called b.trace m.log c.args.client Undo (Ok c.in-Ok-call.field-0) n.log = subst (λ (T : Recording). Called T m.log c.args.client Undo (Ok c.in-Ok-call.field-0) n.log) c.in-Ok.ensures.trace c.in-Ok-call.ensures.call in
    let there : IsFoldOfLive b.trace n.log V = subst (λ (T : Recording). IsFoldOfLive T n.log V) (c.in-Ok-call.ensures.trace ∙ c.in-Ok.ensures.trace) v in
    restored_rows b.trace b.log m.log n.log c.args.client c.args.command c.in-Ok.field-0 c.in-Ok-call.field-0 c.undo_directly_restores.ensures c.requires.low c.requires.high c.log_len.ensures.legal c.requires.room c.in-Ok.ensures.call undid W V w there
