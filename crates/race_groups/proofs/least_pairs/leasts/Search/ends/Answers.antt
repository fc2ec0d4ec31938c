use Rattle.race_groups.proofs.OrderCutLemmas.{thread_named}
use Rattle.race_groups.proofs.least_pairs.LaneFacts.{at_place}
use Rattle.race_groups.proofs.least_pairs.WindowLemmas.{later_within, thread_of_lane}
use Rattle.race_groups.proofs.least_pairs.leasts.Search.ends.Goals as goal

pub known_end-requires-clause-thread : goal.known_end-requires-clause-thread
known_end-requires-clause-thread c =
    let s = c.args.self.now in
    let lane = c.args.lane.now in
    thread_named s.indexed.now c.requires.sound.formed (at_place lane 0) lane.thread (thread_of_lane s lane c.args.later c.requires.lanes 0 c.requires.lanes.some)

pub forced_end-requires-clause-event : goal.forced_end-requires-clause-event
forced_end-requires-clause-event c = later_within c.args.self.now c.args.lane.now c.args.later c.requires.lanes

pub forced_end-requires-clause-thread : goal.forced_end-requires-clause-thread
forced_end-requires-clause-thread c =
    let s = c.args.self.now in
    let lane = c.args.lane.now in
    thread_named s.indexed.now c.requires.sound.formed (at_place lane 0) lane.thread (thread_of_lane s lane c.args.later c.requires.lanes 0 c.requires.lanes.some)
