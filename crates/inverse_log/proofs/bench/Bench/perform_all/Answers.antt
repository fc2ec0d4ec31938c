use Rattle.std.proofs.Common.{◌≡◌, ◌<◌, rules, true, false, Err, sym, ◌∙◌, subst, refl, arith, length}
use Rattle.std.specs.Arc.{arc_value}
use Rattle.inverse_log.specs.declared.call.Call.TheVariants.{Batch as DoAll}
use Rattle.inverse_log.specs.declared.refusal.Refusal.TheVariants.{BadBatch}
use Rattle.inverse_log.specs.Answer.{answer_of, may_want, is_batch, Called}
use Rattle.inverse_log.specs.Log.{Benched}
use Rattle.inverse_log.proofs.DoLemmas.{batch_bad, batch_may}
use Rattle.inverse_log.proofs.bench.Bench.perform_all.Goals as goal

pub returns-then-not-is_batch-clause-call : goal.returns-then-not-is_batch-clause-call
returns-then-not-is_batch-clause-call c =
    let s = c.self.inside in
    let number : c.len-number.result ≡ length s.log.items = omega (arith, c.len-number.ensures) in
    let room : c.len-number.result < 1000000 = omega arith in
    let so : c.is_batch.result ≡ false = search rules in (
      subst (λ (v : Benched). answer_of v.trace v.log c.args.client (DoAll c.args.commands.now) ≡ Err BadBatch) c.self.view_is
          (batch_bad s c.self.invariant (arc_value s.indexed) c.len-number.result c.args.client c.args.commands.now refl number room (sym c.is_batch.ensures ∙ so)),
      refl,
    )

pub put_batch-requires-clause-room : goal.put_batch-requires-clause-room
put_batch-requires-clause-room c =
    let s = c.self.inside in
    let room : length s.log.items < 1000000 = omega (arith, c.len-number.ensures) in
    subst (λ (v : Benched). length v.log < 1000000) c.self.view_is room

pub put_batch-requires-clause-sizes : goal.put_batch-requires-clause-sizes
put_batch-requires-clause-sizes c = let so : c.is_batch.result ≡ true = search rules in subst (λ D. is_batch D ≡ true) (sym c.in-Ok.ensures) (sym c.is_batch.ensures ∙ so)

pub returns-in-Ok-clause-call : goal.returns-in-Ok-clause-call
returns-in-Ok-clause-call c = subst (λ D. Called c.args.self.now.trace c.args.self.now.log c.args.client (DoAll D) c.put_batch.result c.put_batch.new.self.log) c.in-Ok.ensures c.put_batch.ensures.call

pub returns-in-Err-clause-call : goal.returns-in-Err-clause-call
returns-in-Err-clause-call c =
    let s = c.self.inside in
    let number : c.len-number.result ≡ length s.log.items = omega (arith, c.len-number.ensures) in
    let room : c.len-number.result < 1000000 = omega arith in
    let so : c.is_batch.result ≡ true = search rules in (
      subst (λ (v : Benched). may_want (answer_of v.trace v.log c.args.client (DoAll c.args.commands.now)) ≡ true) c.self.view_is
          (batch_may s c.self.invariant (arc_value s.indexed) c.len-number.result c.args.client c.args.commands.now refl number room (sym c.is_batch.ensures ∙ so)),
      refl,
    )
