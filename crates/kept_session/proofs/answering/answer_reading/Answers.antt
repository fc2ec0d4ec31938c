use Rattle.std.proofs.Common.{◌≡◌, [], Ok, None, rules, refl, sym, subst, append-nil}
use Rattle.script_language.specs.Scripts.{script_line_reading}
use Rattle.kept_session.specs.Lines.{line_for}
use Rattle.kept_session.specs.Sessions.{IsAnswered}
use Rattle.kept_session.proofs.answering.answer_reading.Goals as goal

pub returns-in-Ok-None-clause-answered : goal.returns-in-Ok-None-clause-answered
returns-in-Ok-None-clause-answered c =
    let reads : script_line_reading (line_for c.args.client c.args.raw.now) ≡ Ok None = search rules in
    record {
      text = [];
      lines = [];
      answered = subst (λ r. IsAnswered c.args.bench.now.trace c.args.number r c.args.bench.now.log [] c.args.bench.now.log) (sym reads) (refl, refl);
      told = sym (append-nil c.args.out.now.items);
      kept = sym (append-nil c.args.block.now);
      gained = refl;
      logged = tt;
    }
