use Rattle.std.proofs.Common.{◌≡◌, true, ◌<◌, ◌∙◌, ◌++◌, ◌∷◌, [], Ok, Err, sym, ap, subst, refl, arith, length}
use Rattle.std.specs.Arc.{arc_value}
use Rattle.dependence.specs.Lists.{of_client}
use Rattle.moves.specs.Ages.{age}
use Rattle.moves.specs.Batches.{IsAppliedAll}
use Rattle.inverse_log.specs.declared.call.Call.TheVariants.{Batch as DoAll}
use Rattle.inverse_log.specs.declared.entry.Entry.TheVariants.{Batch}
use Rattle.inverse_log.specs.declared.kept.Held.TheVariants.{Many}
use Rattle.inverse_log.specs.declared.reply.Reply.TheVariants.{Done}
use Rattle.inverse_log.specs.Answer.{may_want, answer_of, log_after, Called}
use Rattle.inverse_log.specs.Log.{Benched}
use Rattle.inverse_log.proofs.DoLemmas.{after_ok, bench_same, names_below, clients_below, left_same, of_trace, board_is_of, short, edits_low, batch_may, batch_refused, batch_answer, done_bench, next_legal, failed_rows}
use Rattle.inverse_log.proofs.KeptLemmas.{stays_below}
use Rattle.inverse_log.proofs.SizeLemmas.{batch_short}
use Rattle.inverse_log.proofs.bench.Bench.put_batch.Goals as goal

pub returns-in_default-clause-call : goal.returns-in_default-clause-call
returns-in_default-clause-call c =
    let s = c.self.inside in
    let within : length s.log.items < 1000000 = subst (λ (v : Benched). length v.log < 1000000) (sym c.self.view_is) c.requires.room in
    let sizes = c.requires.sizes in (
      subst (λ (v : Benched). may_want (answer_of v.trace v.log c.args.client (DoAll c.args.kept)) ≡ true) c.self.view_is (batch_may s c.self.invariant (arc_value s.indexed) (length s.log.items) c.args.client c.args.kept refl refl within sizes),
      c.in_default.ensures.log ∙ ap (λ (v : Benched). v.log) c.self.view_is,
    )

pub enter-requires-clause-names : goal.enter-requires-clause-names
enter-requires-clause-names c = names_below c.self.inside c.self.invariant c.len-number.result (omega (arith, c.len-number.ensures))

pub enter-requires-clause-clients : goal.enter-requires-clause-clients
enter-requires-clause-clients c = clients_below c.self.inside c.self.invariant c.len-number.result c.args.client (omega (arith, c.len-number.ensures))

pub invariant_of-self-in_default-enter : goal.invariant_of-self-in_default-enter
invariant_of-self-in_default-enter c =
    let s = c.self.inside in
    let same = c.in_default-enter.ensures.err in
    bench_same s c.self.invariant c.make_room.new.log.items s.rows.rows c.make_room.new.steps.items c.enter.new.touches c.enter.new.clients s.rows.edits c.in-Ok.ensures.log refl c.in-Ok.ensures.steps same.0 (λ a. ap (λ X. of_client X a) same.1) refl

pub returns-in_default-enter-clause-call : goal.returns-in_default-enter-clause-call
returns-in_default-enter-clause-call c =
    let s = c.self.inside in
    let within : length s.log.items < 1000000 = subst (λ (v : Benched). length v.log < 1000000) (sym c.self.view_is) c.requires.room in
    let sizes = c.requires.sizes in (
      subst (λ (v : Benched). may_want (answer_of v.trace v.log c.args.client (DoAll c.args.kept)) ≡ true) c.self.view_is (batch_may s c.self.invariant (arc_value s.indexed) (length s.log.items) c.args.client c.args.kept refl refl within sizes),
      c.in-Ok.ensures.log ∙ ap (λ (v : Benched). v.log) c.self.view_is,
    )

pub apply_all-requires-clause-of_trace : goal.apply_all-requires-clause-of_trace
apply_all-requires-clause-of_trace c = of_trace c.self.inside c.self.invariant c.deref.result.now c.deref.ensures

pub apply_all-requires-clause-board : goal.apply_all-requires-clause-board
apply_all-requires-clause-board c = board_is_of c.self.inside c.self.invariant c.deref.result.now c.deref.ensures

pub apply_all-requires-clause-late : goal.apply_all-requires-clause-late
apply_all-requires-clause-late c =
    let s = c.self.inside in
    stays_below _ s.log.items s.rows.rows s.board s.steps.items c.self.invariant.kept (short s c.self.invariant) c.len-number.result (omega (arith, c.len-number.ensures))

pub apply_all-requires-clause-few : goal.apply_all-requires-clause-few
apply_all-requires-clause-few c =
    let s = c.self.inside in
    edits_low s c.self.invariant (length s.log.items) refl (subst (λ (v : Benched). length v.log < 1000000) (sym c.self.view_is) c.requires.room)

pub apply_all-requires-clause-short : goal.apply_all-requires-clause-short
apply_all-requires-clause-short c = rw c.items-commands.ensures (batch_short c.args.kept c.requires.sizes).1

pub invariant_of-self-in-Err : goal.invariant_of-self-in-Err
invariant_of-self-in-Err c =
    let s = c.self.inside in
    let number : c.len-number.result ≡ length s.log.items = omega (arith, c.len-number.ensures) in
    let entered = c.in-Ok-enter.ensures.ok in
    let same = left_same s c.self.invariant c.len-number.result c.args.client c.items-commands.result.now c.enter.new.touches c.leave.new.touches c.enter.new.clients c.leave.new.clients number entered.0 entered.1 c.leave.ensures.names c.leave.ensures.clients in
    let rows = failed_rows c.deref.result.now s.board (age c.len-number.result 0) c.items-commands.result.now s.rows.rows c.apply_all.new.self.rows c.in-Err.why c.in-Err.ensures.applied in
    bench_same s c.self.invariant c.make_room.new.log.items c.apply_all.new.self.rows c.make_room.new.steps.items c.leave.new.touches c.leave.new.clients c.apply_all.new.self.edits
    c.in-Ok.ensures.log rows c.in-Ok.ensures.steps same.0 same.1 c.in-Err.ensures.same

pub returns-in-Err-clause-call : goal.returns-in-Err-clause-call
returns-in-Err-clause-call c =
    let s = c.self.inside in
    let number : c.len-number.result ≡ length s.log.items = omega (arith, c.len-number.ensures) in
    let within : length s.log.items < 1000000 = subst (λ (v : Benched). length v.log < 1000000) (sym c.self.view_is) c.requires.room in
    let room : c.len-number.result < 1000000 = omega (arith, number, within) in
    let sizes = c.requires.sizes in
    let called = batch_refused s c.self.invariant c.deref.result.now c.len-number.result c.args.client c.args.kept c.deref.ensures number room sizes c.apply_all.new.self.rows c.in-Err.why
    (subst (λ D. IsAppliedAll c.deref.result.now s.board (age c.len-number.result 0) D s.rows.rows c.apply_all.new.self.rows (Err c.in-Err.why)) c.items-commands.ensures c.in-Err.ensures.applied) in
    let told = subst (λ why. Called (arc_value s.indexed) s.log.items c.args.client (DoAll c.args.kept) (Err why) s.log.items) (sym c.refused.ensures) called in
    subst (λ (v : Benched). Called v.trace v.log c.args.client (DoAll c.args.kept) (Err c.refused.result) c.make_room.new.log.items) c.self.view_is
    (subst (λ M. Called (arc_value s.indexed) s.log.items c.args.client (DoAll c.args.kept) (Err c.refused.result) M) (sym c.in-Ok.ensures.log) told)

pub invariant_of-self-2 : goal.invariant_of-self-2
invariant_of-self-2 c =
    let s = c.self.inside in
    let D = c.args.kept in
    let number : c.len-number.result ≡ length s.log.items = omega (arith, c.len-number.ensures) in
    let within : length s.log.items < 1000000 = subst (λ (v : Benched). length v.log < 1000000) (sym c.self.view_is) c.requires.room in
    let room : c.len-number.result < 1000000 = omega (arith, number, within) in
    let sizes = c.requires.sizes in
    let entered = c.in-Ok-enter.ensures.ok in
    let done = rw (c.items-commands.ensures) at c.in-Ok-apply_all.ensures.applied in
    let log : c.add_entry.new.log.items ≡ s.log.items ++ Batch c.args.client D ∷ [] = rw (c.in-Ok.ensures.log) at c.add_entry.ensures in
    let answer = batch_answer s c.self.invariant c.deref.result.now c.len-number.result c.args.client D c.deref.ensures number room sizes c.apply_all.new.self.rows c.in-Ok-apply_all.inverses done in
    done_bench s c.self.invariant c.add_entry.new.log.items c.deref.result.now c.len-number.result c.args.client (Batch c.args.client D) D c.apply_all.new.self.rows c.in-Ok-apply_all.inverses (Many c.in-Ok-apply_all.inverses)
    c.add_held.new.steps.items c.enter.new.touches c.enter.new.clients c.apply_all.new.self.edits c.deref.ensures number refl (batch_short D sizes).1 done.1 refl c.in-Ok-apply_all.ensures.steps
    (rw (c.in-Ok.ensures.steps) at c.add_held.ensures) log (rw (c.items-commands.ensures) at entered.0) entered.1 (rw (c.items-commands.ensures) at c.in-Ok-apply_all.ensures.counted)
    (next_legal s c.self.invariant c.add_entry.new.log.items c.args.client (DoAll D) (Done c.len-number.result) answer log c.requires.low c.requires.high)

pub returns-clause-call : goal.returns-clause-call
returns-clause-call c =
    let s = c.self.inside in
    let D = c.args.kept in
    let number : c.len-number.result ≡ length s.log.items = omega (arith, c.len-number.ensures) in
    let within : length s.log.items < 1000000 = subst (λ (v : Benched). length v.log < 1000000) (sym c.self.view_is) c.requires.room in
    let room : c.len-number.result < 1000000 = omega (arith, number, within) in
    let sizes = c.requires.sizes in
    let done = rw (c.items-commands.ensures) at c.in-Ok-apply_all.ensures.applied in
    let log : c.add_entry.new.log.items ≡ s.log.items ++ Batch c.args.client D ∷ [] = rw (c.in-Ok.ensures.log) at c.add_entry.ensures in
    let answer = batch_answer s c.self.invariant c.deref.result.now c.len-number.result c.args.client D c.deref.ensures number room sizes c.apply_all.new.self.rows c.in-Ok-apply_all.inverses done in (
      subst (λ (v : Benched). answer_of v.trace v.log c.args.client (DoAll D) ≡ Ok (Done c.len-number.result)) c.self.view_is answer,
      subst (λ (v : Benched). c.add_entry.new.log.items ≡ log_after v.trace v.log c.args.client (DoAll D)) c.self.view_is
          (after_ok (arc_value s.indexed) s.log.items c.add_entry.new.log.items c.args.client (DoAll D) (Done c.len-number.result) answer log),
    )
