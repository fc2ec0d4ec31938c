use Rattle.std.proofs.Common.{◌≡◌, ◌∙◌, true, ◌<◌, Ok, Err, sym, ap, subst, arith, length}
use Rattle.inverse_log.specs.declared.call.Call.TheVariants.{Propose}
use Rattle.inverse_log.specs.declared.reply.Reply.TheVariants.{Proposed as ProposedAs}
use Rattle.inverse_log.specs.Answer.{may_want, answer_of, Called}
use Rattle.inverse_log.specs.Kept.{IsJudged}
use Rattle.inverse_log.specs.Log.{Benched, board_of}
use Rattle.inverse_log.proofs.DoLemmas.{after_ok}
use Rattle.inverse_log.proofs.OtherLemmas.{propose_answer, propose_refused, propose_may}
use Rattle.inverse_log.proofs.bench.Bench.propose.Goals as goal

pub returns-in-Err-clause-call : goal.returns-in-Err-clause-call
returns-in-Err-clause-call c =
    let s = c.self.inside in
    let number : c.len-number.result ≡ length s.log.items = omega (arith, c.len-number.ensures) in
    let room : c.len-number.result < 1000000 = omega arith in
    subst (λ (v : Benched). Called v.trace v.log c.args.client (Propose c.args.first c.args.second c.args.events.now) (Err c.in-Err.why) v.log) c.self.view_is
    (propose_refused s c.self.invariant c.deref.result.now c.len-number.result c.args.client c.args.first c.args.second c.args.events.now c.in-Err.why c.deref.ensures number room c.in-Err.ensures)

pub put_proposal-requires-clause-room : goal.put_proposal-requires-clause-room
put_proposal-requires-clause-room c =
    let s = c.self.inside in
    let room : length s.log.items < 1000000 = omega (arith, c.len-number.ensures) in
    subst (λ (v : Benched). length v.log < 1000000) c.self.view_is room

pub put_proposal-requires-clause-judged : goal.put_proposal-requires-clause-judged
put_proposal-requires-clause-judged c = subst (λ T. IsJudged T c.args.first c.args.second c.args.events.now (Ok c.in-Ok.schedule)) (c.deref.ensures ∙ ap (λ (v : Benched). v.trace) c.self.view_is) c.in-Ok.ensures

pub returns-in-Ok-put_proposal-clause-call : goal.returns-in-Ok-put_proposal-clause-call
returns-in-Ok-put_proposal-clause-call c =
    let s = c.self.inside in
    let P = c.args.events.now in
    let p = c.in-Ok-put_proposal.proposal in
    let number : c.len-number.result ≡ length s.log.items = omega (arith, c.len-number.ensures) in
    let room : c.len-number.result < 1000000 = omega arith in
    let board = subst (λ (v : Benched). p ≡ length (board_of v.trace v.log)) (sym c.self.view_is) c.in-Ok-put_proposal.ensures.number ∙ ap length (sym c.self.invariant.kept.board) in
    let done = propose_answer s c.self.invariant c.deref.result.now c.len-number.result p c.args.client c.args.first c.args.second P c.deref.ensures number room board c.in-Ok.ensures.2 c.in-Ok.ensures.3 in
    let answer = subst (λ (v : Benched). answer_of v.trace v.log c.args.client (Propose c.args.first c.args.second P) ≡ Ok (ProposedAs c.len-number.result p)) c.self.view_is done in
    (answer, after_ok _ _ _ c.args.client (Propose c.args.first c.args.second P) (ProposedAs c.len-number.result p) answer c.in-Ok-put_proposal.ensures.ok)

pub returns-in-Err-put_proposal-clause-call : goal.returns-in-Err-put_proposal-clause-call
returns-in-Err-put_proposal-clause-call c =
    let s = c.self.inside in
    let number : c.len-number.result ≡ length s.log.items = omega (arith, c.len-number.ensures) in
    let room : c.len-number.result < 1000000 = omega arith in (
      subst (λ (v : Benched). may_want (answer_of v.trace v.log c.args.client (Propose c.args.first c.args.second c.args.events.now)) ≡ true) c.self.view_is
          (propose_may s c.self.invariant c.len-number.result c.args.client c.args.first c.args.second c.args.events.now number room),
      c.in-Err-put_proposal.ensures.err,
    )
