use Rattle.std.proofs.Common.{◌≡◌, rules, Err}
use Rattle.client_scripts.specs.declared.fault.ReplayFault.{ReplayFault}
use Rattle.kept_session.specs.declared.fault.SessionFault.TheVariants.{Replay}
use Rattle.kept_session.proofs.HeadLemmas.{headless}
use Rattle.kept_session.proofs.PrintLemmas.{answered_long}
use Rattle.kept_session.proofs.printing.print_log.Goals as goal

pub returns-in_default-clause-refused : goal.returns-in_default-clause-refused
returns-in_default-clause-refused g c = λ _. headless _ _ _ c.in_ok-bytes.ensures.input.1 c.deref.ensures.value c.in_default.ensures.none

pub returns-in_err-bytes-clause-too_long : goal.returns-in_err-bytes-clause-too_long
returns-in_err-bytes-clause-too_long g c =
    let fault : ReplayFault = c.in_err-bytes.field-0.0 in
    let same : c.from_residual.result ≡ Err (Replay fault) = search rules in
    λ is. answered_long (g.S.Source.rest c.args.reader.now) fault c.from_residual.result c.in_err-bytes.ensures.input same is
