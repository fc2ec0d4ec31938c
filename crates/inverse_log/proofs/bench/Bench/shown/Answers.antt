use Rattle.std.proofs.Common.{◌≡◌, Ok, Err, subst}
use Rattle.moves.specs.declared.refusal.MoveRefusal.TheVariants.{NoSuchSchedule}
use Rattle.inverse_log.specs.declared.call.Call.TheVariants.{Show}
use Rattle.inverse_log.specs.declared.refusal.Refusal.TheVariants.{Move}
use Rattle.inverse_log.specs.declared.reply.Reply.TheVariants.{Shown}
use Rattle.inverse_log.specs.Answer.{answer_of}
use Rattle.inverse_log.specs.Log.{Benched}
use Rattle.inverse_log.proofs.OtherLemmas.{show_none, show_answer}
use Rattle.inverse_log.proofs.bench.Bench.shown.Goals as goal

pub returns-in-None-clause-none : goal.returns-in-None-clause-none
returns-in-None-clause-none c = λ n.
    subst (λ (v : Benched). answer_of v.trace v.log n (Show c.args.name.now) ≡ Err (Move NoSuchSchedule)) c.self.view_is
    (show_none c.self.inside c.self.invariant n c.args.name.now (rw (c.workspace.ensures) at c.in-None.ensures.none))

pub returns-in-Some-clause-some : goal.returns-in-Some-clause-some
returns-in-Some-clause-some c = λ n.
    subst (λ (v : Benched). answer_of v.trace v.log n (Show c.args.name.now) ≡ Ok (Shown c.events.result.now)) c.self.view_is
    (show_answer c.self.inside c.self.invariant n c.args.name.now c.events.result.now c.in-Some.schedule.now (rw (c.workspace.ensures) at c.in-Some.ensures.some) c.events.ensures.same)
