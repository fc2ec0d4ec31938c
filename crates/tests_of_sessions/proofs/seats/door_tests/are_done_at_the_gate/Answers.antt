use denote.Param.Send.{sendable}
use Rattle.std.proofs.Crossing.{crosses}
use Rattle.workspace_lock.proofs.SendLemmas.{seat_send}
use Rattle.tests_of_sessions.proofs.seats.door_tests.are_done_at_the_gate.Goals as goal

pub map_vec-requires-send-J : goal.map_vec-requires-send-J
map_vec-requires-send-J g c κs within = search (seat_send, sendable, crosses) depth 20
