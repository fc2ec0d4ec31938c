use Rattle.std.proofs.Common.{◌≡◌, ◌∙◌, Err, rules, ap, sym, subst}
use Rattle.std.specs.Result.{IfErr}
use Rattle.rapid_text.specs.Recording.{Recording}
use Rattle.script_language.specs.Scripts.{script_line_reading}
use Rattle.kept_log.specs.Lines.{kept_lines}
use Rattle.kept_session.specs.Sessions.{IsLogged, log_by}
use Rattle.kept_session.specs.Faults.{IsLineFault, IsLinesFault}
use Rattle.kept_session.proofs.CatchingLemmas.{catching-more, catching-fault}
use Rattle.kept_session.proofs.catching.make_all.Goals as goal

pub loop-line-preserved : goal.loop-line-preserved
loop-line-preserved c =
    let inv = c.loop-line.invariant in
    let one = c.in_ok-make_kept.ensures in
    let next : c.make_kept.new.bench.log ≡ log_by c.args.bench.now.trace c.loop-line.bench.log (script_line_reading c.in-Some.line.now) =
    one.log ∙ ap (λ (t : Recording). log_by t c.loop-line.bench.log (script_line_reading c.in-Some.line.now)) inv.trace in
    record {
      trace = one.trace ∙ inv.trace;
      underway = catching-more _ _ _ _ _ _ _ _ inv.underway c.in-Some.ensures.lines (subst (λ (t : Recording). IsLogged t c.loop-line.bench.log c.in-Some.line.now) inv.trace one.logged) next;
    }

pub returns-in_err-make_kept-clause-refused : goal.returns-in_err-make_kept-clause-refused
returns-in_err-make_kept-clause-refused c =
    let inv = c.loop-line.invariant in
    let fault = c.in_err-make_kept.field-0.0 in
    let same : c.from_residual.result ≡ Err fault = search rules in
    let told : IsLinesFault c.args.bench.now.trace c.args.bench.now.log (kept_lines c.args.text.now) fault =
    catching-fault _ _ _ _ _ _ _ fault inv.underway c.in-Some.ensures.lines (subst (λ (t : Recording). IsLineFault t c.loop-line.bench.log c.in-Some.line.now fault) inv.trace c.in_err-make_kept.ensures.refused) in
    subst (λ r. IfErr r (IsLinesFault c.args.bench.now.trace c.args.bench.now.log (kept_lines c.args.text.now))) (sym same) told
