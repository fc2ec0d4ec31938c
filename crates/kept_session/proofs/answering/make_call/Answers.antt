use Rattle.std.proofs.Common.{◌≡◌, ◌≢◌, [], ◌∷◌, ◌++◌, Ok, Err, length, sym, ap, ◌∙◌, append-nil, rules, arith}
use Rattle.rapid_text.specs.Recording.{Recording}
use Rattle.report.specs.Refusals.{refusal_text}
use Rattle.kept_session.proofs.LogLemmas.{says_log, refused_log, called_more}
use Rattle.kept_session.proofs.answering.make_call.Goals as goal

pub returns-in_ok-keep_line-in-Ok-clause-made : goal.returns-in_ok-keep_line-in-Ok-clause-made
returns-in_ok-keep_line-in-Ok-clause-made c =
    let kept = c.in_ok-keep_line-in-Ok.ensures in
    let called = c.in-Ok.ensures.call in
    let longer : length c.call.new.self.log ≢ length c.args.bench.now.log = search (rules, arith) in
    let says = says_log c.args.bench.now.trace c.args.bench.now.log c.args.client c.args.call.now c.in-Ok.reply kept.0 called.0 kept.2 ∙ sym called.1 in
    record {
      answer = Ok c.in-Ok.reply;
      lines = kept.0 ∷ [];
      called = called;
      told = c.in_ok-reply-in-Ok.ensures.ok;
      kept = kept.1;
      gained = says;
      logged = (ap length says ∙ called_more c.args.bench.now.trace c.args.bench.now.log _ c.args.client c.args.call.now c.in-Ok.reply called longer, tt);
    }

pub returns-in_ok-refusal-in-Err-clause-made : goal.returns-in_ok-refusal-in-Err-clause-made
returns-in_ok-refusal-in-Err-clause-made c =
    let called = c.in-Err.ensures.call in
    let trace : c.indexed.result.now ≡ c.args.bench.now.trace = c.indexed.ensures ∙ c.in-Err.ensures.trace in
    record {
      answer = Err c.in-Err.why;
      lines = [];
      called = called;
      told = c.in_ok-refusal-in-Err.ensures.ok ∙ ap (λ (t : Recording). c.args.out.now.items ++ refusal_text t c.in-Err.why) trace;
      kept = sym (append-nil c.args.block.now);
      gained = sym (refused_log c.args.bench.now.trace c.args.bench.now.log _ c.args.client c.args.call.now c.in-Err.why called);
      logged = tt;
    }
