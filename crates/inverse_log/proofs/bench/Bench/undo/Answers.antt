use Rattle.std.proofs.Common.{◌≡◌, ◌<◌, Err, subst, refl, arith, length}
use Rattle.inverse_log.specs.declared.call.Call.TheVariants.{Undo}
use Rattle.inverse_log.specs.declared.refusal.Refusal.TheVariants.{NothingToUndo}
use Rattle.inverse_log.specs.Answer.{answer_of}
use Rattle.inverse_log.specs.Log.{Benched}
use Rattle.inverse_log.proofs.UndoneLemmas.{undo_none, last_asked}
use Rattle.inverse_log.proofs.bench.Bench.undo.Goals as goal

pub returns-in_default-clause-call : goal.returns-in_default-clause-call
returns-in_default-clause-call c =
    let s = c.self.inside in
    let number : c.len-number.result ≡ length s.log.items = omega (arith, c.len-number.ensures) in
    let room : c.len-number.result < 1000000 = omega arith in (
      subst (λ (v : Benched). answer_of v.trace v.log c.args.client Undo ≡ Err NothingToUndo) c.self.view_is
          (undo_none s c.self.invariant c.len-number.result c.args.client number room c.in_default.ensures),
      refl,
    )

pub undo_live-requires-clause-room : goal.undo_live-requires-clause-room
undo_live-requires-clause-room c =
    (last_asked c.self.inside c.self.invariant c.args.client c.in-Some.entry c.in-Some.ensures (omega (arith, c.len-number.ensures)) c.requires.low c.requires.high c.args.self.now c.self.view_is).room

pub undo_live-requires-clause-live : goal.undo_live-requires-clause-live
undo_live-requires-clause-live c =
    (last_asked c.self.inside c.self.invariant c.args.client c.in-Some.entry c.in-Some.ensures (omega (arith, c.len-number.ensures)) c.requires.low c.requires.high c.args.self.now c.self.view_is).live

pub undo_live-requires-clause-legal : goal.undo_live-requires-clause-legal
undo_live-requires-clause-legal c =
    (last_asked c.self.inside c.self.invariant c.args.client c.in-Some.entry c.in-Some.ensures (omega (arith, c.len-number.ensures)) c.requires.low c.requires.high c.args.self.now c.self.view_is).legal

pub returns-clause-call : goal.returns-clause-call
returns-clause-call c =
    (last_asked c.self.inside c.self.invariant c.args.client c.in-Some.entry c.in-Some.ensures (omega (arith, c.len-number.ensures)) c.requires.low c.requires.high c.args.self.now c.self.view_is).called c.undo_live.result c.undo_live.new.self.log c.undo_live.ensures.undone
