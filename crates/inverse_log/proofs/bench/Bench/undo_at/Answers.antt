use Rattle.std.proofs.Common.{◌≡◌, ◌<◌, rules, true, false, Err, sym, ◌∙◌, subst, refl, arith, length, slice_get}
use Rattle.inverse_log.specs.declared.call.Call.TheVariants.{UndoAt}
use Rattle.inverse_log.specs.declared.refusal.Refusal.TheVariants.{NoSuchEntry, NotOwn, NotLive}
use Rattle.inverse_log.specs.Answer.{answer_of}
use Rattle.inverse_log.specs.Log.{Benched, is_own}
use Rattle.inverse_log.proofs.UndoneLemmas.{at_asked}
use Rattle.inverse_log.proofs.NumberedLemmas.{at_past, at_other, at_undone}
use Rattle.inverse_log.proofs.bench.Bench.undo_at.Goals as goal

pub returns-then-entry-number-clause-call : goal.returns-then-entry-number-clause-call
returns-then-entry-number-clause-call c =
    let s = c.self.inside in
    let number : c.len-number.result ≡ length s.log.items = omega (arith, c.len-number.ensures) in
    let room : c.len-number.result < 1000000 = omega arith in (
      subst (λ (v : Benched). answer_of v.trace v.log c.args.client (UndoAt c.args.entry) ≡ Err NoSuchEntry) c.self.view_is
          (at_past s c.self.invariant c.len-number.result c.args.client c.args.entry number room (λ within. absurd (omega arith))),
      refl,
    )

pub returns-then-not-is_own-clause-call : goal.returns-then-not-is_own-clause-call
returns-then-not-is_own-clause-call c =
    let s = c.self.inside in
    let number : c.len-number.result ≡ length s.log.items = omega (arith, c.len-number.ensures) in
    let room : c.len-number.result < 1000000 = omega arith in
    let within : c.args.entry < c.len-number.result = omega arith in
    let so : c.is_own.result ≡ false = search rules in
    let none : c.is_own.result ≡ is_own c.args.client (slice_get s.log.items c.args.entry) = rw (← c.deref.ensures.value) c.is_own.ensures in (
      subst (λ (v : Benched). answer_of v.trace v.log c.args.client (UndoAt c.args.entry) ≡ Err NotOwn) c.self.view_is
          (at_other s c.self.invariant c.len-number.result c.args.client c.args.entry number room within (sym so ∙ none)),
      refl,
    )

pub returns-then-not-contains-clause-call : goal.returns-then-not-contains-clause-call
returns-then-not-contains-clause-call c =
    let s = c.self.inside in
    let number : c.len-number.result ≡ length s.log.items = omega (arith, c.len-number.ensures) in
    let room : c.len-number.result < 1000000 = omega arith in
    let within : c.args.entry < c.len-number.result = omega arith in
    let own : c.is_own.result ≡ true = search rules in
    let mine : c.is_own.result ≡ is_own c.args.client (slice_get s.log.items c.args.entry) = rw (← c.deref.ensures.value) c.is_own.ensures in
    let so : c.contains.result ≡ false = search rules in (
      subst (λ (v : Benched). answer_of v.trace v.log c.args.client (UndoAt c.args.entry) ≡ Err NotLive) c.self.view_is
          (at_undone s c.self.invariant c.len-number.result c.args.client c.args.entry number room (sym own ∙ mine) within (sym so ∙ c.contains.ensures)),
      refl,
    )

pub undo_live-requires-clause-room : goal.undo_live-requires-clause-room
undo_live-requires-clause-room c =
    (at_asked c.self.inside c.self.invariant c.args.client c.args.entry c.len-number.result (omega (arith, c.len-number.ensures)) (omega arith) c.deref.result.now c.is_own.result c.contains.result
    c.deref.ensures.value (search rules) c.is_own.ensures (search rules) c.contains.ensures c.requires.low c.requires.high c.args.self.now c.self.view_is).room

pub undo_live-requires-clause-live : goal.undo_live-requires-clause-live
undo_live-requires-clause-live c =
    (at_asked c.self.inside c.self.invariant c.args.client c.args.entry c.len-number.result (omega (arith, c.len-number.ensures)) (omega arith) c.deref.result.now c.is_own.result c.contains.result
    c.deref.ensures.value (search rules) c.is_own.ensures (search rules) c.contains.ensures c.requires.low c.requires.high c.args.self.now c.self.view_is).live

pub undo_live-requires-clause-legal : goal.undo_live-requires-clause-legal
undo_live-requires-clause-legal c =
    (at_asked c.self.inside c.self.invariant c.args.client c.args.entry c.len-number.result (omega (arith, c.len-number.ensures)) (omega arith) c.deref.result.now c.is_own.result c.contains.result
    c.deref.ensures.value (search rules) c.is_own.ensures (search rules) c.contains.ensures c.requires.low c.requires.high c.args.self.now c.self.view_is).legal

pub returns-clause-call : goal.returns-clause-call
returns-clause-call c =
    (at_asked c.self.inside c.self.invariant c.args.client c.args.entry c.len-number.result (omega (arith, c.len-number.ensures)) (omega arith) c.deref.result.now c.is_own.result c.contains.result
    c.deref.ensures.value (search rules) c.is_own.ensures (search rules) c.contains.ensures c.requires.low c.requires.high c.args.self.now c.self.view_is).called c.undo_live.result c.undo_live.new.self.log c.undo_live.ensures.undone
