-- What a thread is given and gives back. No public clause cites this module.
use Rattle.std.specs.Prelude.{◌≡◌, ℕ, suc, ◌<◌, ◌+◌, ◌-◌, List, [], ◌∷◌, ◌++◌, length, map, flat_map, replicate, slice_get, slice_set, slice_index_or, All, Option, Some, None, Result, Ok, Err, IfOk, IfErr, IsOk, Vec, vec_len}
use Rattle.std.specs.declared.alloc.Global.{Global}
use Rattle.rapid_text.specs.Recording.{Recording}
use Rattle.rapid_text.specs.declared.memory.OutOfMemory.{OutOfMemory}
use Rattle.workspace_lock.specs.Seating.{Site, SeatView, SeatsView, Closes, fresh_rows}
use Rattle.script_language.specs.Scripts.{Asked}
use Rattle.inverse_log.specs.Log.{Benched}
use Rattle.report.specs.Log.{log_text}
use Rattle.client_scripts.specs.Seats.{RunsScript}
use Rattle.client_scripts.specs.declared.fault.ReplayFault.TheVariants.{OutOfMemory as NoMemory}
use Rattle.calls.specs.declared.fault.BenchFault.{BenchFault}
use Rattle.calls.specs.declared.fault.BenchFault.TheVariants.{Replay}
use Rattle.calls.specs.Told.{client_text}

-- a seat, and the script whose calls are made there
abbrev pub Job : Type 0
Job = SeatView × List Asked

-- the seat, and the lines of the answers where there was memory for each
abbrev pub Told : Type 0
Told = SeatView × Result (Vec ℕ Global) OutOfMemory

-- the lines, or none where memory was wanted
abbrev pub lines_of : Result (Vec ℕ Global) OutOfMemory → List ℕ
lines_of (Ok lines) = lines.items
lines_of (Err refused) = []

-- what is printed of what each was told, in order
abbrev pub told_text : List Told → List ℕ
told_text told = flat_map (λ t. client_text t.0.number (lines_of t.1)) told

-- the script's calls were made through the seat, and these are the lines of their answers
abbrev pub AnswersJob : Recording → Job → Told → Type 0
AnswersJob trace job told =
    (told.0.site ≡ job.0.site)
    × (told.0.number ≡ job.0.number)
    × IfOk told.1 (λ lines. RunsScript trace job.1 job.0 [] told.0 lines.items)

-- so it was with each
abbrev pub AnswerJobs : Recording → List Job → List Told → Type 0
AnswerJobs trace jobs told =
    (length told ≡ length jobs)
    × ((i : ℕ) (d : Told) (e : Job) → i < length jobs → AnswersJob trace (slice_index_or jobs i e) (slice_index_or told i d))

-- each script has the seat of its client, at this site
abbrev pub AreSeated : Site → List (List Asked) → List Job → Type 0
AreSeated site scripts jobs = (map (λ (j : Job). j.1) jobs ≡ scripts) × (map (λ (j : Job). Some j.0) jobs ≡ fresh_rows site 1 (length jobs))

-- n seats from client 1 on are in, and none has made a call
abbrev pub AreAllFresh : SeatsView → ℕ → Type 0
AreAllFresh seats n = seats.rows ≡ fresh_rows seats.site 1 n

-- with such seats, each script gets its client's seat, and the seats after those are still in
abbrev pub SeatsEach : SeatsView → SeatsView → Vec (List Asked) Global → Result (Vec Job Global) BenchFault → Type 0
SeatsEach old new scripts result =
    (more : ℕ) → AreAllFresh old (vec_len scripts + more)
    → IfOk result (λ jobs. AreSeated old.site scripts.items jobs.items
    × (new.rows ≡ replicate (length jobs.items) None ++ fresh_rows old.site (suc (length jobs.items)) more))

-- with such seats, only memory can be wanting
abbrev pub LacksMemory : SeatsView → Vec (List Asked) Global → Result (Vec Job Global) BenchFault → Type 0
LacksMemory old scripts result =
    (more : ℕ) → AreAllFresh old (vec_len scripts + more) → IfErr result (λ fault. fault ≡ Replay NoMemory)

-- the client's lines are there, and are appended
abbrev pub AppendsLines : ℕ → Result (Vec ℕ Global) OutOfMemory → List ℕ → List ℕ → Type 0
AppendsLines client lines old new = IsOk lines × (new ≡ old ++ client_text client (lines_of lines))

-- the seat is in, if its place was empty
abbrev pub GivesBack : SeatsView → SeatsView → SeatView → Type 0
GivesBack old new seat = slice_get old.rows (seat.number - 1) ≡ Some None → new.rows ≡ slice_set old.rows (seat.number - 1) (Some seat)

-- these are of the clients from n on
abbrev pub Numbered : ℕ → List Told → Type 0
Numbered n [] = Unit {0}
Numbered n (t ∷ told) = (t.0.number ≡ n) × Numbered (suc n) told

-- each has its lines
abbrev pub AllLines : List Told → Type 0
AllLines [] = Unit {0}
AllLines (t ∷ told) = IsOk t.1 × AllLines told

-- each has its lines, and all are appended
abbrev pub AppendsAll : List Told → List ℕ → List ℕ → Type 0
AppendsAll told old new = AllLines told × (new ≡ old ++ told_text told)

-- if no seat of `told` was in, and each has its number, all are in
abbrev pub PutsAllBack : SeatsView → SeatsView → List Told → Type 0
PutsAllBack old new told =
    (rest : List (Option SeatView)) → Numbered 1 told → old.rows ≡ replicate (length told) None ++ rest
    → new.rows ≡ map (λ (t : Told). Some t.0) told ++ rest

-- the seats are closed, and the log of their bench is appended
abbrev pub AppendsLog : SeatsView → List ℕ → List ℕ → Type 0
AppendsLog seats old new = (bench : Benched) × Closes seats bench × (new ≡ old ++ log_text bench.log)
