-- The tasks that arguments can name. All notions here are this project's own.
use Rattle.std.specs.Prelude.{◌<◌, ◌≤◌, IfSome, vec_len, ⊤}
use Rattle.program_words.specs.declared.task.CutTask.{CutTask}
use Rattle.program_words.specs.declared.task.DeadlocksTask.{DeadlocksTask}
use Rattle.program_words.specs.declared.task.Limits.{Limits}
use Rattle.program_words.specs.declared.task.SessionTask.{SessionTask}
use Rattle.program_words.specs.declared.task.ThreadsTask.{ThreadsTask}
use Rattle.program_words.specs.declared.task.TriageTask.{TriageTask}
use Rattle.program_words.specs.declared.task.Task.{Task}
use Rattle.program_words.specs.declared.task.Task.TheVariants.{Joint, Info, Replay, Session, Log, Threads, Triage, Deadlocks, Explain, Witness, Uses, Cut, Merge}

-- the client, if there is one, is from 1 to the limit
abbrev pub IsSessionWithin : Limits → SessionTask → Type 0
IsSessionWithin limits task = IfSome task.client (λ client. (1 ≤ client) × (client ≤ limits.clients))

-- there is at least one script, and no more workers than the limit
abbrev pub IsThreadsWithin : Limits → ThreadsTask → Type 0
IsThreadsWithin limits task = (1 < vec_len task.paths) × (task.workers ≤ limits.workers)

-- there are no more tries and workers than the limits
abbrev pub IsTriageWithin : Limits → TriageTask → Type 0
IsTriageWithin limits task = (task.tries ≤ limits.tries) × (task.workers ≤ limits.workers)

-- there are no more tries than the limit
abbrev pub IsDeadlocksWithin : Limits → DeadlocksTask → Type 0
IsDeadlocksWithin limits task = task.tries ≤ limits.tries

-- a window has at least one event
abbrev pub IsCutWithin : CutTask → Type 0
IsCutWithin task = 0 < task.most

-- a task whose numbers are within the limits
abbrev pub IsWithin : Limits → Task → Type 0
IsWithin limits Joint = ⊤
IsWithin limits (Info trace) = ⊤
IsWithin limits (Replay trace script) = ⊤
IsWithin limits (Session task) = IsSessionWithin limits task
IsWithin limits (Log log) = ⊤
IsWithin limits (Threads task) = IsThreadsWithin limits task
IsWithin limits (Triage task) = IsTriageWithin limits task
IsWithin limits (Deadlocks task) = IsDeadlocksWithin limits task
IsWithin limits (Explain pair all) = ⊤
IsWithin limits (Witness pair form) = ⊤
IsWithin limits (Uses pair) = ⊤
IsWithin limits (Cut task) = IsCutWithin task
IsWithin limits (Merge task) = ⊤
