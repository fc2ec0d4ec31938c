use Rattle.lock_waits.proofs.HeldLemmas.{Decides-shows}
use Rattle.lock_waits.proofs.showing.shows.Goals as goal

pub returns : goal.returns
returns c = record {
  shows =
      Decides-shows c.args.schedule.now.trace c.args.analysis.now c.requires c.args.schedule.now.events c.args.requests.now c.events-events.ensures.reordering
      (c.is_cycle.ensures.cycle.0 c.if-not-is_cycle.false) c.are_held_back.result c.are_held_back.ensures;
}
