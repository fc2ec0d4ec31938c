use denote.Param.Send.{sendable}
use Rattle.std.proofs.Crossing.{crosses}
use Rattle.workspace_lock.proofs.SendLemmas.{seat_send}
use Rattle.calls.proofs.JobLemmas.{jobs_answered}
use Rattle.calls.proofs.SendLemmas.{script_send}
use Rattle.calls.proofs.seating.run_all.Goals as goal

pub map_vec-requires-send-J : goal.map_vec-requires-send-J
map_vec-requires-send-J g c κs within = search (seat_send, script_send, sendable, crosses) depth 20

pub map_vec-requires-send-X : goal.map_vec-requires-send-X
map_vec-requires-send-X g c κs within = search (seat_send, sendable, crosses) depth 20

pub returns-clause-told : goal.returns-clause-told
returns-clause-told g c =
    jobs_answered _ _ c.args.indexed.now c.args.jobs c.map_vec.result c.map_vec.ensures.len c.map_vec.ensures.each (λ job t met. met.1)
