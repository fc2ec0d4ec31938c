use Rattle.std.proofs.Common.{◌≡◌, true, ◌<◌, ◌++◌, ◌∷◌, [], Ok, Err, subst, refl, arith, length}
use Rattle.inverse_log.specs.declared.call.Call.TheVariants.{Do}
use Rattle.inverse_log.specs.declared.entry.Entry.TheVariants.{Did}
use Rattle.inverse_log.specs.declared.refusal.Refusal.TheVariants.{Move}
use Rattle.inverse_log.specs.declared.reply.Reply.TheVariants.{Done}
use Rattle.inverse_log.specs.Answer.{may_want, answer_of, IsLegal}
use Rattle.inverse_log.specs.Log.{Benched}
use Rattle.inverse_log.proofs.DoLemmas.{after_ok, ok_answer, of_trace, do_refused, do_done, next_legal}
use Rattle.inverse_log.proofs.bench.Bench.perform.Goals as goal

pub check-requires : goal.check-requires
check-requires c = rw c.workspace.ensures (of_trace c.self.inside c.self.invariant c.deref.result.now c.deref.ensures)

pub returns-in-Err-clause-call : goal.returns-in-Err-clause-call
returns-in-Err-clause-call c =
    let s = c.self.inside in
    let number : c.len-number.result ≡ length s.log.items = omega (arith, c.len-number.ensures) in
    let room : c.len-number.result < 1000000 = omega arith in (
      subst (λ (v : Benched). answer_of v.trace v.log c.args.client (Do c.args.command.now) ≡ Err (Move c.in-Err.why)) c.self.view_is
          (do_refused s c.self.invariant c.deref.result.now c.len-number.result c.args.client c.args.command.now c.in-Err.why c.deref.ensures number room (rw (c.workspace.ensures) at c.in-Err.ensures)),
      refl,
    )

pub put-requires-clause-room : goal.put-requires-clause-room
put-requires-clause-room c =
    let s = c.self.inside in
    let room : length s.log.items < 1000000 = omega (arith, c.len-number.ensures) in
    subst (λ (v : Benched). length v.log < 1000000) c.self.view_is room

pub put-requires-clause-legal : goal.put-requires-clause-legal
put-requires-clause-legal c =
    let s = c.self.inside in
    let number : c.len-number.result ≡ length s.log.items = omega (arith, c.len-number.ensures) in
    let room : c.len-number.result < 1000000 = omega arith in
    let answer = do_done s c.self.invariant c.deref.result.now c.len-number.result c.args.client c.args.command.now c.deref.ensures number room (rw (c.workspace.ensures) at c.in_default.ensures) in
    subst (λ (v : Benched). IsLegal v.trace (v.log ++ Did c.args.client c.args.command.now ∷ [])) c.self.view_is
    (next_legal s c.self.invariant _ c.args.client (Do c.args.command.now) (Done c.len-number.result) answer refl c.requires.low c.requires.high)

pub returns-in-Ok-clause-call : goal.returns-in-Ok-clause-call
returns-in-Ok-clause-call c =
    let s = c.self.inside in
    let number : c.len-number.result ≡ length s.log.items = omega (arith, c.len-number.ensures) in
    let room : c.len-number.result < 1000000 = omega arith in
    let done = do_done s c.self.invariant c.deref.result.now c.len-number.result c.args.client c.args.command.now c.deref.ensures number room (rw (c.workspace.ensures) at c.in_default.ensures) in
    let answer = subst (λ (v : Benched). answer_of v.trace v.log c.args.client (Do c.args.command.now) ≡ Ok (Done c.len-number.result)) c.self.view_is done in
    (answer, after_ok _ _ _ c.args.client (Do c.args.command.now) (Done c.len-number.result) answer c.in-Ok.ensures.ok)

pub returns-in-Err-put-clause-call : goal.returns-in-Err-put-clause-call
returns-in-Err-put-clause-call c =
    let s = c.self.inside in
    let number : c.len-number.result ≡ length s.log.items = omega (arith, c.len-number.ensures) in
    let room : c.len-number.result < 1000000 = omega arith in
    let done = do_done s c.self.invariant c.deref.result.now c.len-number.result c.args.client c.args.command.now c.deref.ensures number room (rw (c.workspace.ensures) at c.in_default.ensures) in (
      subst (λ (v : Benched). may_want (answer_of v.trace v.log c.args.client (Do c.args.command.now)) ≡ true) c.self.view_is (ok_answer _ (Done c.len-number.result) done),
      c.in-Err-put.ensures.err,
    )
