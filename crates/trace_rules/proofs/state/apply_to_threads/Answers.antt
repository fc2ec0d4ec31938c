use Rattle.std.proofs.Common.{◌<◌, ◌==◌, true, false, length, sym, ap, ◌∙◌, subst, refl, arith, length-set}
use Rattle.std.proofs.lemmas.Bool.{and_right}
use Rattle.std.proofs.lemmas.Option.{slice_get_read}
use Rattle.rapid_text.specs.Operations.{is_fork, is_join}
use Rattle.rapid_text.specs.Recording.{IsNamedOp}
use Rattle.std.proofs.Math.Bool.{and-true}
use Rattle.trace_rules.proofs.LifeLemmas.{IsMarked-event, IsMarked-fork, IsMarked-join, AreLivesOf-plain, AreLivesOf-marked}
use Rattle.trace_rules.proofs.TableLemmas.{take-event, IsForkless-rest}
use Rattle.trace_rules.proofs.state.apply_to_threads.Goals as goal

pub returns-in-Fork-clause-tables : goal.returns-in-Fork-clause-tables
returns-in-Fork-clause-tables c =
    let e = c.event-event.ensures in
    let u = c.in-Fork.thread in
    let own : c.event-event.result.thread < length c.args.lives.now.items = omega (arith, e.named.0, c.requires.threads) in
    let same = length-set c.args.lives.now.items c.event-event.result.thread _ ∙ c.requires.threads in
    let within : u < length c.args.raw.now.threads = subst (IsNamedOp c.args.raw.now) c.in-Fork.is e.named.1 in
    rw (take-event _ _ _ e.found)
    (AreLivesOf-marked _ _ _ c.requires.tables _ _ own (slice_get_read _ _ _ _ (sym c.requires.threads) e.named.0 c.index_mut.ensures.value)
    (IsMarked-event _) u _ _ true false (omega (arith, same, within)) (slice_get_read _ _ _ _ (sym same) within c.index_mut-in-Fork.ensures.value) (IsMarked-fork _)
    (λ t. (ap (is_fork t) c.in-Fork.is ∙ sym (and-true (u == t)), ap (is_join t) c.in-Fork.is ∙ sym (and_right (u == t) false refl))))

pub returns-in-Join-clause-tables : goal.returns-in-Join-clause-tables
returns-in-Join-clause-tables c =
    let e = c.event-event.ensures in
    let u = c.in-Join.thread in
    let own : c.event-event.result.thread < length c.args.lives.now.items = omega (arith, e.named.0, c.requires.threads) in
    let same = length-set c.args.lives.now.items c.event-event.result.thread _ ∙ c.requires.threads in
    let within : u < length c.args.raw.now.threads = subst (IsNamedOp c.args.raw.now) c.in-Join.is e.named.1 in
    rw (take-event _ _ _ e.found)
    (AreLivesOf-marked _ _ _ c.requires.tables _ _ own (slice_get_read _ _ _ _ (sym c.requires.threads) e.named.0 c.index_mut.ensures.value)
    (IsMarked-event _) u _ _ false true (omega (arith, same, within)) (slice_get_read _ _ _ _ (sym same) within c.index_mut-in-Join.ensures.value) (IsMarked-join _)
    (λ t. (ap (is_fork t) c.in-Join.is ∙ sym (and_right (u == t) false refl), ap (is_join t) c.in-Join.is ∙ sym (and-true (u == t)))))

pub returns-in-Read-clause-tables : goal.returns-in-Read-clause-tables
returns-in-Read-clause-tables c =
    let e = c.event-event.ensures in
    let own : c.event-event.result.thread < length c.args.lives.now.items = omega (arith, e.named.0, c.requires.threads) in
    rw (take-event _ _ _ e.found)
    (AreLivesOf-plain _ _ _ c.requires.tables _ _ own (slice_get_read _ _ _ _ (sym c.requires.threads) e.named.0 c.index_mut.ensures.value)
    (IsMarked-event _) (IsForkless-rest _ c.in-Read.is))
