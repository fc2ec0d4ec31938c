use denote.Param.Send.{sendable}
use Rattle.std.proofs.Crossing.{crosses}
use Rattle.inverse_log.proofs.call.Call.TheSendSync as CallSend
use Rattle.workspace_lock.proofs.SendLemmas.{seat_send}
use Rattle.tests_of_sessions.proofs.seats.thread_tests.Signals.TheSendSync as SignalsSend
use Rattle.tests_of_sessions.proofs.seats.thread_tests.is_turn_held.Goals as goal

pub join-is_gate_right-requires-send-F : goal.join-is_gate_right-requires-send-F
join-is_gate_right-requires-send-F g c κs within = search (seat_send, CallSend.the_sync, SignalsSend.the_sync, sendable, crosses) depth 20
