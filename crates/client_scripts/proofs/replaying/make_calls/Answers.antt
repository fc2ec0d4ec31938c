use Rattle.std.proofs.Common.{◌≡◌, ◌+◌, ◌≤◌, cond, length, refl, ap, ◌∙◌, subst, arith, is_ok, Err, rules}
use Rattle.inverse_log.specs.Answer.{answer_of}
use Rattle.client_scripts.specs.Steps.{MakesCall}
use Rattle.client_scripts.specs.declared.fault.ReplayFault.TheVariants.{Write, OutOfMemory}
use Rattle.client_scripts.proofs.RunLemmas.{underway-part, underway-more, called-part, ended-part, ended-whole, replies-ended, tally-ended, from_bool-cond, cond-one, run-memory, run-write}
use Rattle.client_scripts.proofs.replaying.make_calls.Goals as goal

pub returns-in_err-is_reply-clause-run : goal.returns-in_err-is_reply-clause-run
returns-in_err-is_reply-clause-run g c =
    let stopped : c.from_residual.result ≡ Err OutOfMemory = search rules in
    run-memory c.args.bench.now.trace c.args.script.now _ _ _ stopped (underway-part _ _ _ _ _ _ _ _ c.loop-at.invariant.underway)

pub returns-in_err-write_if_full-clause-run : goal.returns-in_err-write_if_full-clause-run
returns-in_err-write_if_full-clause-run g c =
    let inv = c.loop-at.invariant in
    let made = subst (λ T. MakesCall T c.args.script.now c.loop-at.at c.loop-at.bench.log c.in_ok-is_reply.is_reply c.loop-at.kept.items c.make_call_at.new.bench.log c.make_call_at.new.out.items) inv.trace c.in_ok-is_reply.ensures.made in
    let stopped : c.from_residual-in_err-write_if_full.result ≡ Err Write = search rules in
    run-write c.args.bench.now.trace c.args.script.now _ _ _ stopped (called-part _ _ _ _ _ _ _ _ inv.underway made.asked made.there _ _ made.text c.in_err-write_if_full.ensures.err)

pub loop-at-preserved : goal.loop-at-preserved
loop-at-preserved g c =
    let inv = c.loop-at.invariant in
    let made = subst (λ T. MakesCall T c.args.script.now c.loop-at.at c.loop-at.bench.log c.in_ok-is_reply.is_reply c.loop-at.kept.items c.make_call_at.new.bench.log c.make_call_at.new.out.items) inv.trace c.in_ok-is_reply.ensures.made in
    let wrote = c.in_ok-write_if_full.ensures in
    let is_reply = is_ok (answer_of c.args.bench.now.trace c.loop-at.bench.log made.asked.0 made.asked.1) in
    let one : c.from-accepted.result ≡ cond is_reply 1 0 = c.from-accepted.ensures ∙ from_bool-cond c.in_ok-is_reply.is_reply ∙ ap (λ b. cond b 1 0) made.reply in
    let few : c.from-accepted.result ≤ 1 = omega (arith, one, cond-one is_reply) in
    record {
      working = wrote.failed;
      trace = c.in_ok-is_reply.ensures.trace ∙ inv.trace;
      few = omega (arith, inv.few, few);
      underway = underway-more _ _ _ _ _ _ _ _ inv.underway made.asked made.there _ _ _ _ _ made.text wrote.ok made.logged (ap (λ n. c.loop-at.accepted + n) one);
    }

pub returns-in_err-write_out-clause-run : goal.returns-in_err-write_out-clause-run
returns-in_err-write_out-clause-run g c =
    let all : length c.args.script.now ≤ c.loop-at.at = omega (arith, c.loop-at-test.false, c.len-at-end.ensures) in
    let stopped : c.from_residual-in_err-write_out.result ≡ Err Write = search rules in
    run-write c.args.bench.now.trace c.args.script.now _ _ _ stopped (ended-part _ _ _ _ _ _ _ _ c.loop-at.invariant.underway all _ c.in_err-write_out.ensures.err)

pub returns-clause-run : goal.returns-clause-run
returns-clause-run g c =
    let h = c.loop-at.invariant.underway in
    let all : length c.args.script.now ≤ c.loop-at.at = omega (arith, c.loop-at-test.false, c.len-at-end.ensures) in (
      ended-whole _ _ _ _ _ _ _ _ h all _ c.in_ok-write_out.ensures.ok,
      tally-ended c.args.bench.now.trace c.args.script.now _ _ _ c.len-calls.ensures (replies-ended _ _ _ _ _ _ _ _ h all) refl,
    )
