use denote.Param.Send.{IsSend, IsSync, sendable, param_send}
use contract.Lifetimes.{Lfts}
use Rattle.calls.proofs.beside.run_both.Given.{Over}
use Rattle.calls.proofs.beside.run_both.Lts as lts
use Rattle.std.proofs.Crossing.{crosses}
use Rattle.event_index.proofs.indexed.Indexed.TheSendSync as IndexedSend
use Rattle.workspace_lock.proofs.SendLemmas.{seat_send}
use Rattle.calls.proofs.SendLemmas.{script_send}
use Rattle.calls.proofs.beside.run_both.Goals as goal

-- What the scripts' thread takes along may go to it.
taken_send : (g : Over) (κs : Lfts 11) → IsSync g.row.R → IsSend (lts.arg-0-1 g.row.R g.R.laws g.R.Threads-dict g.R.Wait-dict κs)
taken_send g κs shared = search (seat_send, script_send, IndexedSend.the_sync, sendable, crosses) depth 20

pub join-requires-send-F : goal.join-requires-send-F
join-requires-send-F g c κs within = param_send 1 (lts.arg-0-1 g.row.R g.R.laws g.R.Threads-dict g.R.Wait-dict κs) (taken_send g κs (record { shared = c.type_bounds.sync-R.shared }))

pub join-requires-send-A : goal.join-requires-send-A
join-requires-send-A g c κs within = search (seat_send, sendable, crosses) depth 20
