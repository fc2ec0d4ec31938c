use Rattle.std.proofs.Common.{sym, subst}
use Rattle.race_groups.proofs.OrderCutLemmas.{thread_named}
use Rattle.race_groups.specs.least_pairs.Reach.{IsOrdered}
use Rattle.race_groups.proofs.least_pairs.LaneFacts.{at_place, places_rise}
use Rattle.race_groups.proofs.least_pairs.WindowLemmas.{thread_of_lane}
use Rattle.race_groups.proofs.least_pairs.leasts.Search.seen.Goals as goal

pub known_end-requires-clause-thread : goal.known_end-requires-clause-thread
known_end-requires-clause-thread c =
    let s = c.args.self.now in
    let lane = c.args.window.lane.now in
    let are = c.requires.window.lanes in
    thread_named s.indexed.now c.requires.sound.formed (at_place lane 0) lane.thread (thread_of_lane s lane c.args.window.later are 0 are.some)

pub reach-requires-in-Opens-clause-ordered : goal.reach-requires-in-Opens-clause-ordered
reach-requires-in-Opens-clause-ordered c =
    let s = c.args.self.now in
    let w = c.args.window in
    subst IsOrdered (sym c.as_slice-in-Opens.ensures.value)
    (places_rise s.indexed.now.events s.classes.now.numbers.items w.later.variable w.lane.now c.requires.window.lanes.begun.plain)
