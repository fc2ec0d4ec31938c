use Rattle.std.proofs.Common.{◌≡◌, ◌∙◌, sym, true, Ok, Err, refl, subst}
use Rattle.moves.specs.declared.refusal.MoveRefusal.TheVariants.{NoSuchSchedule}
use Rattle.inverse_log.specs.declared.call.Call.TheVariants.{Races}
use Rattle.inverse_log.specs.declared.refusal.Refusal.TheVariants.{Move}
use Rattle.inverse_log.specs.declared.reply.Reply.TheVariants.{Shows}
use Rattle.inverse_log.specs.Answer.{may_want, answer_of}
use Rattle.inverse_log.specs.Log.{Benched}
use Rattle.inverse_log.proofs.DoLemmas.{after_ok}
use Rattle.inverse_log.proofs.OtherLemmas.{races_none, races_answer, races_may, races_trace, after_none}
use Rattle.inverse_log.proofs.bench.Bench.races.Goals as goal

pub returns-in_default : goal.returns-in_default
returns-in_default c =
    let s = c.self.inside in (
      subst (λ (v : Benched). answer_of v.trace v.log c.args.client (Races c.args.name.now) ≡ Err (Move NoSuchSchedule)) c.self.view_is (races_none s c.self.invariant c.args.client c.args.name.now (rw (c.workspace.ensures) at c.in_default.ensures.none)),
      refl,
    )

pub shown_pairs-requires : goal.shown_pairs-requires
shown_pairs-requires c = races_trace c.self.inside c.self.invariant c.args.name.now c.in-Some.schedule.now (rw (c.workspace.ensures) at c.in-Some.ensures.some) ∙ sym c.deref.ensures

pub returns-in_default-shown_pairs : goal.returns-in_default-shown_pairs
returns-in_default-shown_pairs c =
    let s = c.self.inside in (
      subst (λ (v : Benched). may_want (answer_of v.trace v.log c.args.client (Races c.args.name.now)) ≡ true) c.self.view_is (races_may s c.self.invariant c.args.client c.args.name.now c.in-Some.schedule.now (rw (c.workspace.ensures) at c.in-Some.ensures.some)),
      refl,
    )

pub returns : goal.returns
returns c =
    let s = c.self.inside in
    let v = c.args.self.now in
    let answer = subst (λ (v : Benched). answer_of v.trace v.log c.args.client (Races c.args.name.now) ≡ Ok (Shows c.in-Ok.pairs)) c.self.view_is
    (races_answer s c.self.invariant c.deref.result.now c.args.client c.args.name.now c.in-Ok.pairs c.in-Some.schedule.now c.deref.ensures (rw (c.workspace.ensures) at c.in-Some.ensures.some) c.in-Ok.ensures) in
    (answer, after_ok v.trace v.log v.log c.args.client (Races c.args.name.now) (Shows c.in-Ok.pairs) answer (after_none v.log))
