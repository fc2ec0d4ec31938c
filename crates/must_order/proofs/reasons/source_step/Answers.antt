use Rattle.std.proofs.Common.{refl, sym}
use Rattle.must_order.proofs.BegunLemmas.{Link-source}
use Rattle.must_order.proofs.OrderLemmas.{Link-earlier}
use Rattle.must_order.proofs.reasons.source_step.Goals as goal

pub returns-clause-some : goal.returns-clause-some
returns-clause-some c =
    let T = c.args.indexed.now.events in
    let is = sym c.in_ok-source.ensures.source in (
      is,
      refl,
      Link-earlier T c.source_at.ensures.rules c.in_ok-source.source c.args.event (Link-source T c.args.event c.in_ok-source.source is),
    )
