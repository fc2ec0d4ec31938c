use Rattle.std.proofs.Common.{◌≡◌, Ok, subst}
use Rattle.inverse_log.specs.declared.call.Call.TheVariants.{List as ListNames}
use Rattle.inverse_log.specs.declared.reply.Reply.TheVariants.{Listing}
use Rattle.inverse_log.specs.Answer.{answer_of}
use Rattle.inverse_log.specs.Log.{Benched}
use Rattle.inverse_log.proofs.DoLemmas.{after_ok}
use Rattle.inverse_log.proofs.OtherLemmas.{list_answer, after_none}
use Rattle.inverse_log.proofs.bench.Bench.list.Goals as goal

pub returns : goal.returns
returns c =
    let s = c.self.inside in
    let v = c.args.self.now in
    let answer = subst (λ (v : Benched). answer_of v.trace v.log c.args.client ListNames ≡ Ok (Listing c.in-Ok.names)) c.self.view_is (list_answer s c.self.invariant c.args.client c.in-Ok.names (rw (c.workspace.ensures) at c.in-Ok.ensures)) in
    (answer, after_ok v.trace v.log v.log c.args.client ListNames (Listing c.in-Ok.names) answer (after_none v.log))
