use Rattle.std.proofs.Common.{◌≡◌, ◌<◌, ◌++◌, ◌∷◌, [], Some, arith, length, slice_get, set, refl, sym, ap, ◌∙◌, subst, List, ℕ}
use Rattle.moves.specs.declared.command.Command.{Command}
use Rattle.inverse_log.specs.declared.bench.Bench.TheInside.{Inside}
use Rattle.inverse_log.specs.declared.entry.Entry.{Entry}
use Rattle.inverse_log.specs.declared.entry.Entry.TheVariants.{Undid}
use Rattle.inverse_log.specs.declared.kept.Held.{Held}
use Rattle.inverse_log.specs.declared.kept.Held.TheVariants.{Nothing}
use Rattle.inverse_log.specs.Answer.{IsLegal}
use Rattle.inverse_log.specs.Kept.{IsUnblocked, live_there}
use Rattle.inverse_log.specs.Log.{Benched, commands_at}
use Rattle.inverse_log.specs.Steps.{single_at}
use Rattle.inverse_log.proofs.DoLemmas.{of_trace, edits_low}
use Rattle.inverse_log.proofs.Inner.{benched}
use Rattle.inverse_log.proofs.UndoneLemmas.{take_within, take_can, take_of, take_few, take_whole, took_bench, back_bench}
use Rattle.inverse_log.proofs.bench.Bench.take_back.Goals as goal

-- nothing blocks the entry of the log that the bench keeps
free_in : (s : Inside) (v : Benched) (c k : ℕ) → benched s ≡ v → IsUnblocked v.log (live_there v.log c k) → IsUnblocked s.log.items (live_there s.log.items c k)
free_in s v c k is free = subst (λ (v : Benched). IsUnblocked v.log (live_there v.log c k)) (sym is) free

-- room was made for more: what was taken out for the entry, and its commands, are those that the bench had
had : (s : Inside) (k : ℕ) (log seen : List Entry) (steps : List Held) (h : Held) (D : List Command) → log ≡ s.log.items → seen ≡ log → steps ≡ s.steps.items → D ≡ commands_at seen k → slice_get steps k ≡ Some h → (slice_get s.steps.items k ≡ Some h) × (D ≡ commands_at s.log.items k)
had s k log seen steps h D same see kept is taken = (subst (λ S. slice_get S k ≡ Some h) kept taken, is ∙ ap (λ X. commands_at X k) (see ∙ same))

pub take_out-held-requires : goal.take_out-held-requires
take_out-held-requires c =
    take_within c.self.inside c.self.invariant c.args.client c.args.entry (free_in c.self.inside _ _ _ c.self.view_is c.requires.free) _ (omega (arith, c.make_room.ensures.steps_len))

pub commands_at-commands-requires : goal.commands_at-commands-requires
commands_at-commands-requires c =
    c.requires.single ∙ ap (λ (v : Benched). single_at v.log c.args.entry) (sym c.self.view_is)
    ∙ ap (λ L. single_at L c.args.entry) (sym (c.deref.ensures.value ∙ c.in-Ok.ensures.log))

pub take_back-requires-clause-of_trace : goal.take_back-requires-clause-of_trace
take_back-requires-clause-of_trace c = of_trace c.self.inside c.self.invariant c.deref-2.result.now c.deref-2.ensures

pub take_back-requires-clause-steps : goal.take_back-requires-clause-steps
take_back-requires-clause-steps c =
    let s = c.self.inside in
    let k = c.args.entry in
    let free = free_in s _ _ _ c.self.view_is c.requires.free in
    let is = had s k _ _ _ _ _ c.in-Ok.ensures.log c.deref.ensures.value c.in-Ok.ensures.steps c.commands_at-commands.ensures c.take_out-held.ensures.taken in
    take_of s c.self.invariant c.args.client k free _ is.0 _ is.1 c.deref-2.result.now c.deref-2.ensures

pub take_back-requires-clause-fits : goal.take_back-requires-clause-fits
take_back-requires-clause-fits c =
    let s = c.self.inside in
    let k = c.args.entry in
    let free = free_in s _ _ _ c.self.view_is c.requires.free in
    let is = had s k _ _ _ _ _ c.in-Ok.ensures.log c.deref.ensures.value c.in-Ok.ensures.steps c.commands_at-commands.ensures c.take_out-held.ensures.taken in
    take_can s c.self.invariant c.args.client k free _ is.0 _ is.1

pub take_back-requires-clause-few : goal.take_back-requires-clause-few
take_back-requires-clause-few c =
    let s = c.self.inside in
    edits_low s c.self.invariant (length s.log.items) refl (subst (λ (v : Benched). length v.log < 1000000) (sym c.self.view_is) c.requires.room)

pub take_back-requires-clause-short : goal.take_back-requires-clause-short
take_back-requires-clause-short c =
    let s = c.self.inside in
    let k = c.args.entry in
    let free = free_in s _ _ _ c.self.view_is c.requires.free in
    let is = had s k _ _ _ _ _ c.in-Ok.ensures.log c.deref.ensures.value c.in-Ok.ensures.steps c.commands_at-commands.ensures c.take_out-held.ensures.taken in
    take_few s c.self.invariant c.args.client k free _ is.0 _ is.1

pub take_back-requires-clause-whole : goal.take_back-requires-clause-whole
take_back-requires-clause-whole c =
    let s = c.self.inside in
    let k = c.args.entry in
    let free = free_in s _ _ _ c.self.view_is c.requires.free in
    let is = had s k _ _ _ _ _ c.in-Ok.ensures.log c.deref.ensures.value c.in-Ok.ensures.steps c.commands_at-commands.ensures c.take_out-held.ensures.taken in
    take_whole s c.self.invariant c.args.client k free _ is.0 _ is.1

pub invariant_of-self-in_default-take_back : goal.invariant_of-self-in_default-take_back
invariant_of-self-in_default-take_back c =
    let s = c.self.inside in
    let k = c.args.entry in
    let free = free_in s _ _ _ c.self.view_is c.requires.free in
    let is = had s k _ _ _ _ _ c.in-Ok.ensures.log c.deref.ensures.value c.in-Ok.ensures.steps c.commands_at-commands.ensures c.take_out-held.ensures.taken in
    let legal = subst (λ (v : Benched). IsLegal v.trace (v.log ++ Undid c.args.client k ∷ [])) (sym c.self.view_is) c.requires.legal in
    let later : c.add_nothing.new.steps.items ≡ set s.steps.items k Nothing ++ Nothing ∷ [] = rw (c.take_out-held.ensures.items, c.in-Ok.ensures.steps) at c.add_nothing.ensures in
    let log : c.add_entry.new.log.items ≡ s.log.items ++ Undid c.args.client k ∷ [] = rw (c.in-Ok.ensures.log) at c.add_entry.ensures in
    took_bench s c.self.invariant c.args.client k free _ is.0 _ is.1
    c.add_entry.new.log.items c.take_back.new.self.rows c.add_nothing.new.steps.items c.leave.new.touches c.leave.new.clients c.take_back.new.self.edits c.in_default-take_back.ensures.ok later log c.leave.ensures.names c.leave.ensures.clients c.in_default-take_back.ensures.counted legal

pub put_back-requires-clause-entry : goal.put_back-requires-clause-entry
put_back-requires-clause-entry c =
    take_within c.self.inside c.self.invariant c.args.client c.args.entry (free_in c.self.inside _ _ _ c.self.view_is c.requires.free) _ (omega (arith, c.make_room.ensures.steps_len, c.take_out-held.ensures.len))

pub invariant_of-self-2 : goal.invariant_of-self-2
invariant_of-self-2 c =
    let s = c.self.inside in
    let k = c.args.entry in
    let free = free_in s _ _ _ c.self.view_is c.requires.free in
    let taken : slice_get s.steps.items k ≡ Some c.take_out-held.result = rw (c.in-Ok.ensures.steps) at c.take_out-held.ensures.taken in
    let later : c.put_back.new.steps.items ≡ set (set s.steps.items k Nothing) k c.in-Err.held = rw (c.take_out-held.ensures.items, c.in-Ok.ensures.steps) at c.put_back.ensures in
    back_bench s c.self.invariant c.args.client k free
    c.make_room.new.log.items c.take_back.new.self.rows c.take_out-held.result c.in-Err.held c.put_back.new.steps.items c.take_back.new.self.edits taken c.in-Err.ensures.err c.in-Err.ensures.back later c.in-Ok.ensures.log c.in-Err.ensures.same
