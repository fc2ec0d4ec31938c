use Rattle.std.proofs.Common.{sym}
use Rattle.moves.proofs.StepLemmas.{step_regains, step_exchanges_back}
use Rattle.moves.proofs.inverse.turn_schedule.Goals as goal

pub returns-in-Some-clause-back : goal.returns-in-Some-clause-back
returns-in-Some-clause-back c =
    step_regains c.retract.new.self c.args.schedule.now (sym c.in-Some.ensures.trace) c.in-Some.event c.in-Some.ensures.taken c.events-events.ensures.reordering

pub returns-in-Ok-swap-clause-back : goal.returns-in-Ok-swap-clause-back
returns-in-Ok-swap-clause-back c =
    step_exchanges_back c.args.schedule.now c.swap.new.self c.in-Ok-swap.ensures.trace c.in-Exchanges.place c.in-Ok-swap.ensures.ok c.in-Ok-swap.ensures.none
