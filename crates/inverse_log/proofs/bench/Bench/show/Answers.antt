use Rattle.std.proofs.Common.{◌≡◌, ◌∙◌, Ok, refl, sym, ap}
use Rattle.inverse_log.specs.declared.call.Call.TheVariants.{Show}
use Rattle.inverse_log.specs.declared.reply.Reply.TheVariants.{Shown}
use Rattle.inverse_log.specs.Answer.{may_want, answer_of}
use Rattle.inverse_log.proofs.DoLemmas.{after_ok}
use Rattle.inverse_log.proofs.OtherLemmas.{after_none}
use Rattle.inverse_log.proofs.bench.Bench.show.Goals as goal

pub returns-in_default : goal.returns-in_default
returns-in_default c = (c.in_default.ensures.none c.args.client, refl)

pub returns-in_default-of : goal.returns-in_default-of
returns-in_default-of c = (ap may_want (c.in-Some.ensures.some c.args.client), refl)

pub returns : goal.returns
returns c =
    let v = c.args.self.now in
    let answer : answer_of v.trace v.log c.args.client (Show c.args.name.now) ≡ Ok (Shown c.in-Ok.events) =
    c.in-Some.ensures.some c.args.client ∙ ap (λ P. Ok (Shown P)) (sym c.in-Ok.ensures) in
    (answer, after_ok v.trace v.log v.log c.args.client (Show c.args.name.now) (Shown c.in-Ok.events) answer (after_none v.log))
