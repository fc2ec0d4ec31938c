-- What several scripts that ran at once were told, and what is printed of that. All notions here are this project's own.
use Rattle.std.specs.Prelude.{◌≡◌, ℕ, suc, ◌+◌, List, [], ◌∷◌, ◌++◌, length, codes, decimal, ⊤}
use Rattle.rapid_text.specs.Recording.{Recording}
use Rattle.inverse_log.specs.declared.entry.Entry.{Entry}
use Rattle.inverse_log.specs.Log.{Benched}
use Rattle.workspace_lock.specs.Turns.{Sees}
use Rattle.workspace_lock.specs.Seating.{Site, SeatView, mark_in, fresh_seat}
use Rattle.report.specs.Log.{log_text}
use Rattle.script_language.specs.Scripts.{Asked}
use Rattle.client_scripts.specs.Seats.{RunsScript}
use Rattle.calls.specs.Searches.{IsSearched, further_clients}

-- the line of a client's number, and then the lines of its answers
abbrev pub client_text : ℕ → List ℕ → List ℕ
client_text number lines = codes "client " ++ decimal number ++ codes "\n" ++ lines

-- the same of each client from this number on, with its seat as it was at the end
abbrev pub clients_text : ℕ → List (SeatView × List ℕ) → List ℕ
clients_text n [] = []
clients_text n (t ∷ told) = client_text n t.1 ++ clients_text (suc n) told

-- The calls of each script, from this client on, were made through a seat of the client's own, and these are the lines of their
-- answers. The log has all that the seat has seen, and no other entries of the client.
abbrev pub AreAnswered : Recording → Site → List Entry → ℕ → List (List Asked) → List (SeatView × List ℕ) → Type 0
AreAnswered trace site log n [] [] = ⊤
AreAnswered trace site log n [] (t ∷ told) = ⊥
AreAnswered trace site log n (script ∷ scripts) [] = ⊥
AreAnswered trace site log n (script ∷ scripts) (t ∷ told) =
    RunsScript trace script (fresh_seat site n) [] t.0 t.1 × Sees (mark_in t.0) log × AreAnswered trace site log (suc n) scripts told

-- a bench of the trace with an empty log
abbrev pub fresh_bench : Recording → Benched
fresh_bench trace = record { trace = trace; log = [] }

-- The text of scripts that ran at once, script i as client i's, with `workers` workers: each client's answers, in order, and the one
-- log. All clients, and the client that proposes what the workers find, have built the log from the empty one on.
pub record AreTold (trace : Recording) (scripts : List (List Asked)) (workers : ℕ) (text : List ℕ) : Type 0 where
  pub site : Site
  pub log : List Entry
  pub told : List (SeatView × List ℕ)
  pub start : site.start ≡ fresh_bench trace
  pub clients : site.clients ≡ length scripts + further_clients workers
  pub each : AreAnswered trace site log 1 scripts told
  pub searched : IsSearched workers trace site log (suc (length scripts))
  pub printed : text ≡ clients_text 1 told ++ log_text log
