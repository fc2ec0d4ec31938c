use Rattle.std.proofs.Common.{◌≡◌, ◌++◌, Ok, is_ok, sym, ap, ◌∙◌}
use Rattle.inverse_log.specs.declared.reply.Reply.TheVariants.{Shown}
use Rattle.inverse_log.specs.Answer.{answer_of}
use Rattle.client_scripts.specs.Replay.{answer_text}
use Rattle.client_scripts.proofs.replaying.make_plain.Goals as goal

pub returns-in-Some-shown-clause-text : goal.returns-in-Some-shown-clause-text
returns-in-Some-shown-clause-text c =
    let v = c.args.bench.now in
    let answer : answer_of v.trace v.log c.args.client c.args.call.now ≡ Ok (Shown c.in-Some-shown.events.now) =
    ap (λ d. answer_of v.trace v.log c.args.client d) c.in-Some.ensures.some ∙ c.in-Some-shown.ensures.some c.args.client in
    c.in_ok-shown.ensures.ok ∙ ap (λ a. c.args.out.now.items ++ answer_text v.trace a) (sym answer)

pub returns-in-Some-shown-clause-accepted : goal.returns-in-Some-shown-clause-accepted
returns-in-Some-shown-clause-accepted c =
    let v = c.args.bench.now in
    let answer : answer_of v.trace v.log c.args.client c.args.call.now ≡ Ok (Shown c.in-Some-shown.events.now) =
    ap (λ d. answer_of v.trace v.log c.args.client d) c.in-Some.ensures.some ∙ c.in-Some-shown.ensures.some c.args.client in
    ap is_ok (sym answer)
