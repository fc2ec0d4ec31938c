use Rattle.std.proofs.Common.{Err, ap, inl, inr, ⊎_elim}
use Rattle.trace_rules.specs.Rules.{first_breach}
use Rattle.client_scripts.proofs.LoadingLemmas.{trace_checked-refused}
use Rattle.client_scripts.proofs.loading.check_trace.Goals as goal

pub returns-in-Err : goal.returns-in-Err
returns-in-Err c =
    ⊎_elim
    (λ h. inl (ap Err h))
    (λ h. inr h)
    (trace_checked-refused c.args.raw (first_breach c.args.raw.events) c.in-Err.refusal c.from.result c.from.ensures c.in-Err.ensures.refused)
