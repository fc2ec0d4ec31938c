use Rattle.moves.proofs.JudgeLemmas.{schedule_trace}
use Rattle.moves.proofs.listing.Listing.schedule_of.Goals as goal

pub returns-clause-trace : goal.returns-clause-trace
returns-clause-trace c = schedule_trace c.args.indexed.now c.args.self.now c.args.name.now c.in_ok-schedule.schedule.now c.requires c.in_ok-schedule.ensures.some
