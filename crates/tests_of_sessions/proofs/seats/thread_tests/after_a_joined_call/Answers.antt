use denote.Param.Send.{sendable}
use Rattle.std.proofs.Crossing.{crosses}
use Rattle.inverse_log.proofs.call.Call.TheSendSync as CallSend
use Rattle.workspace_lock.proofs.SendLemmas.{seat_send}
use Rattle.tests_of_sessions.proofs.seats.thread_tests.after_a_joined_call.Goals as goal

pub join-is_done-requires-send-F : goal.join-is_done-requires-send-F
join-is_done-requires-send-F g c κs within = search (seat_send, CallSend.the_sync, sendable, crosses) depth 20
