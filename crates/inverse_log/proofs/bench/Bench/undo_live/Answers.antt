use Rattle.std.proofs.Common.{◌≡◌, ◌∙◌, Ok, Err, None, ap, subst, refl, sym, arith, length}
use Rattle.std.specs.Result.{IsOk}
use Rattle.inverse_log.specs.declared.refusal.Refusal.TheVariants.{RestsOn}
use Rattle.inverse_log.specs.declared.reply.Reply.TheVariants.{Undone}
use Rattle.inverse_log.specs.Answer.{undone_or}
use Rattle.inverse_log.specs.Kept.{live_there, IsUnblocked}
use Rattle.inverse_log.specs.Log.{Benched, commands_at, blocker_of}
use Rattle.inverse_log.specs.Steps.{single_at}
use Rattle.inverse_log.proofs.UndoneLemmas.{undo_rests, undo_free_in, free_answers}
use Rattle.inverse_log.proofs.bench.Bench.undo_live.Goals as goal

pub commands_at-commands-requires : goal.commands_at-commands-requires
commands_at-commands-requires c =
    c.single_at-single.ensures ∙ ap (λ L. single_at L c.args.entry) (c.deref.ensures.value ∙ sym c.deref-2.ensures.value)

pub take_back-requires-clause-single : goal.take_back-requires-clause-single
take_back-requires-clause-single c =
    c.single_at-single.ensures ∙ ap (λ L. single_at L c.args.entry) c.deref.ensures.value ∙ ap (λ (v : Benched). single_at v.log c.args.entry) c.self.view_is

pub returns-in-Some-clause-undone : goal.returns-in-Some-clause-undone
returns-in-Some-clause-undone c =
    let s = c.self.inside in
    let D = c.commands_at-commands.result.now in
    let is : D ≡ commands_at s.log.items c.args.entry = rw (← c.deref-2.ensures.value) c.commands_at-commands.ensures in (
      subst (λ (v : Benched). undone_or (length v.log) (live_there v.log c.args.client c.args.entry) (blocker_of v.log (live_there v.log c.args.client c.args.entry)) ≡ Err (RestsOn c.in-Some.rests.0 c.in-Some.rests.1)) c.self.view_is
          (undo_rests s c.self.invariant c.args.client c.args.entry c.in-Some.rests.0 c.in-Some.rests.1 D is c.in-Some.ensures),
      refl,
    )

pub take_back-requires-clause-free : goal.take_back-requires-clause-free
take_back-requires-clause-free c =
    let s = c.self.inside in
    let free = undo_free_in s c.self.invariant c.args.client c.args.entry _ _ _ c.self.view_is c.requires.live c.deref-2.ensures.value c.commands_at-commands.ensures c.in_default.ensures in
    subst (λ (v : Benched). IsUnblocked v.log (live_there v.log c.args.client c.args.entry)) c.self.view_is free

pub take_back-requires-clause-legal : goal.take_back-requires-clause-legal
take_back-requires-clause-legal c =
    let s = c.self.inside in
    let free = undo_free_in s c.self.invariant c.args.client c.args.entry _ _ _ c.self.view_is c.requires.live c.deref-2.ensures.value c.commands_at-commands.ensures c.in_default.ensures in
    c.requires.legal (subst (λ (v : Benched). blocker_of v.log (live_there v.log c.args.client c.args.entry) ≡ None) c.self.view_is free.free)

pub returns-in_default-take_back-clause-undone : goal.returns-in_default-take_back-clause-undone
returns-in_default-take_back-clause-undone c =
    let s = c.self.inside in
    let free = undo_free_in s c.self.invariant c.args.client c.args.entry _ _ _ c.self.view_is c.requires.live c.deref-2.ensures.value c.commands_at-commands.ensures c.in_default.ensures in
    let number : c.len-number.result ≡ length s.log.items = omega (arith, c.len-number.ensures) in
    let answer = free_answers s c.self.invariant c.args.client c.args.entry c.len-number.result number free in (
      subst (λ (v : Benched). IsOk (undone_or (length v.log) (live_there v.log c.args.client c.args.entry) (blocker_of v.log (live_there v.log c.args.client c.args.entry)))) c.self.view_is (rw answer refl),
      c.in_default-take_back.ensures.err,
    )

pub returns-clause-undone : goal.returns-clause-undone
returns-clause-undone c =
    let s = c.self.inside in
    let free = undo_free_in s c.self.invariant c.args.client c.args.entry _ _ _ c.self.view_is c.requires.live c.deref-2.ensures.value c.commands_at-commands.ensures c.in_default.ensures in
    let number : c.len-number.result ≡ length s.log.items = omega (arith, c.len-number.ensures) in (
      subst (λ (v : Benched). undone_or (length v.log) (live_there v.log c.args.client c.args.entry) (blocker_of v.log (live_there v.log c.args.client c.args.entry)) ≡ Ok (Undone c.len-number.result c.args.entry)) c.self.view_is
          (free_answers s c.self.invariant c.args.client c.args.entry c.len-number.result number free),
      c.in-Ok.ensures.ok,
    )
