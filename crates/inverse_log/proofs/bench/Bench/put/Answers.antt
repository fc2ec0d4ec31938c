use Rattle.std.proofs.Common.{◌≡◌, ◌<◌, ◌++◌, ◌∷◌, [], sym, ap, subst, refl, arith, length}
use Rattle.std.proofs.lemmas.List.Elements.{All-nil, All-cons}
use Rattle.dependence.specs.Lists.{of_client, PushedAll}
use Rattle.moves.specs.Ages.{age}
use Rattle.moves.specs.Commands.{writes}
use Rattle.moves.specs.Inverses.{IsStepOf}
use Rattle.moves.specs.declared.inverse.Inverse.{Inverse}
use Rattle.moves.proofs.CallerLemmas.{refused_same}
use Rattle.inverse_log.specs.declared.entry.Entry.TheVariants.{Did}
use Rattle.inverse_log.specs.declared.kept.Held.TheVariants.{One}
use Rattle.inverse_log.specs.Answer.{IsLegal}
use Rattle.inverse_log.specs.Log.{Benched}
use Rattle.inverse_log.proofs.DoLemmas.{bench_same, names_below, clients_below, left_same, of_trace, board_is_of, short, edits_low, one_runs, done_bench}
use Rattle.inverse_log.proofs.KeptLemmas.{stays_below}
use Rattle.inverse_log.proofs.bench.Bench.put.Goals as goal

pub enter-requires-clause-names : goal.enter-requires-clause-names
enter-requires-clause-names c = names_below c.self.inside c.self.invariant c.len-number.result (omega (arith, c.len-number.ensures))

pub enter-requires-clause-clients : goal.enter-requires-clause-clients
enter-requires-clause-clients c = clients_below c.self.inside c.self.invariant c.len-number.result c.args.client (omega (arith, c.len-number.ensures))

pub invariant_of-self-in_default-enter : goal.invariant_of-self-in_default-enter
invariant_of-self-in_default-enter c =
    let s = c.self.inside in
    let same = c.in_default-enter.ensures.err in
    bench_same s c.self.invariant c.make_room.new.log.items s.rows.rows c.make_room.new.steps.items c.enter.new.touches c.enter.new.clients s.rows.edits c.in-Ok.ensures.log refl c.in-Ok.ensures.steps same.0 (λ a. ap (λ X. of_client X a) same.1) refl

pub apply-requires-clause-of_trace : goal.apply-requires-clause-of_trace
apply-requires-clause-of_trace c = of_trace c.self.inside c.self.invariant c.deref.result.now c.deref.ensures

pub apply-requires-clause-board : goal.apply-requires-clause-board
apply-requires-clause-board c = board_is_of c.self.inside c.self.invariant c.deref.result.now c.deref.ensures

pub apply-requires-clause-late : goal.apply-requires-clause-late
apply-requires-clause-late c =
    let s = c.self.inside in
    stays_below _ s.log.items s.rows.rows s.board s.steps.items c.self.invariant.kept (short s c.self.invariant) c.len-number.result (omega (arith, c.len-number.ensures))

pub apply-requires-clause-few : goal.apply-requires-clause-few
apply-requires-clause-few c =
    let s = c.self.inside in
    edits_low s c.self.invariant (length s.log.items) refl (subst (λ (v : Benched). length v.log < 1000000) (sym c.self.view_is) c.requires.room)

pub invariant_of-self-in_default-apply : goal.invariant_of-self-in_default-apply
invariant_of-self-in_default-apply c =
    let s = c.self.inside in
    let number : c.len-number.result ≡ length s.log.items = omega (arith, c.len-number.ensures) in
    let entered = c.in-Ok-enter.ensures.ok in
    let same = left_same s c.self.invariant c.len-number.result c.args.client c.from_ref-commands.result.now c.enter.new.touches c.leave.new.touches c.enter.new.clients c.leave.new.clients number entered.0 entered.1 c.leave.ensures.names c.leave.ensures.clients in
    let rows = refused_same c.deref.result.now s.board (age c.len-number.result 0) c.args.command.now s.rows.rows c.apply.new.self.rows c.in_default-apply.field-0 c.in_default-apply.ensures.applied in
    bench_same s c.self.invariant c.make_room.new.log.items c.apply.new.self.rows c.make_room.new.steps.items c.leave.new.touches c.leave.new.clients c.apply.new.self.edits
    c.in-Ok.ensures.log rows c.in-Ok.ensures.steps same.0 same.1 c.in_default-apply.ensures.same

pub invariant_of-self-2 : goal.invariant_of-self-2
invariant_of-self-2 c =
    let s = c.self.inside in
    let number : c.len-number.result ≡ length s.log.items = omega (arith, c.len-number.ensures) in
    let d = c.args.command.now in
    let i = c.in-Ok-apply.inverse in
    let entered = c.in-Ok-enter.ensures.ok in
    let log : c.add_entry.new.log.items ≡ s.log.items ++ Did c.args.client d ∷ [] = rw (c.in-Ok.ensures.log, c.in-Ok-of.ensures) at c.add_entry.ensures in
    let runs = one_runs s c.self.invariant c.deref.result.now (age c.len-number.result 0) c.len-number.result d c.apply.new.self.rows i number refl c.in-Ok-apply.ensures.applied in
    let legal = subst (λ (v : Benched). IsLegal v.trace (v.log ++ Did c.args.client d ∷ [])) (sym c.self.view_is) c.requires.legal in
    done_bench s c.self.invariant c.add_entry.new.log.items c.deref.result.now c.len-number.result c.args.client (Did c.args.client d) (d ∷ []) c.apply.new.self.rows (record { name = writes d; step = i.step } ∷ []) (One i.step)
    c.add_held.new.steps.items c.enter.new.touches c.enter.new.clients c.apply.new.self.edits c.deref.ensures number refl (omega arith) runs refl
    (All-cons (λ (j : Inverse). IsStepOf c.deref.result.now j.step) (record { name = writes d; step = i.step }) [] c.in-Ok-apply.ensures.step (All-nil (λ (j : Inverse). IsStepOf c.deref.result.now j.step)))
    (rw (c.in-Ok.ensures.steps) at c.add_held.ensures) log (subst (λ D. PushedAll c.len-number.result D s.touches c.enter.new.touches) c.from_ref-commands.ensures.value entered.0) entered.1 c.in-Ok-apply.ensures.counted
    (rw log legal)
