-- What a script does through a seat: it makes its calls one after another, and appends the lines of their answers.
-- This project's own.
use Rattle.std.specs.Prelude.{◌≡◌, ℕ, ◌+◌, ◌<◌, List, [], ◌∷◌, ◌++◌, length, map, take, flat_map, Result, Ok, Err}
use Rattle.rapid_text.specs.Recording.{Recording}
use Rattle.inverse_log.specs.declared.call.Call.{Call}
use Rattle.inverse_log.specs.declared.reply.Reply.{Reply}
use Rattle.inverse_log.specs.declared.refusal.SeatRefusal.{SeatRefusal}
use Rattle.workspace_lock.specs.Seating.{SeatView}
use Rattle.workspace_lock.specs.Runs.{Runs}
use Rattle.report.specs.Replies.{reply_text}
use Rattle.report.specs.Seats.{seat_refusal_text}
use Rattle.script_language.specs.Scripts.{Asked}

-- the line of an answer that came through a seat
abbrev pub seat_text : Recording → Result Reply SeatRefusal → List ℕ
seat_text trace (Ok reply) = reply_text reply
seat_text trace (Err why) = seat_refusal_text trace why

-- the lines of the answers, in order
abbrev pub seat_texts : Recording → List (Result Reply SeatRefusal) → List ℕ
seat_texts trace answers = flat_map (seat_text trace) answers

-- the calls of a script, or of a part of it, without their clients
abbrev pub calls_asked : List Asked → List Call
calls_asked asked = map (λ a. a.call) asked

-- The script's calls were made through the seat s, which became n, and the lines of their answers were appended.
pub record RunsScript (trace : Recording) (script : List Asked) (s : SeatView) (old : List ℕ) (n : SeatView) (new : List ℕ) : Type 0 where
  pub answers : List (Result Reply SeatRefusal)
  pub run : Runs s (calls_asked script) answers n
  pub text : new ≡ old ++ seat_texts trace answers

-- Memory ran out for a line. The first calls of the script were made, and the lines of all their answers but the last
-- were appended. The last answer has no line.
pub record StopsInScript (trace : Recording) (script : List Asked) (s : SeatView) (old : List ℕ) (n : SeatView) (new : List ℕ) : Type 0 where
  pub told : List (Result Reply SeatRefusal)
  pub untold : Result Reply SeatRefusal
  pub run : Runs s (calls_asked (take (length told + 1) script)) (told ++ untold ∷ []) n
  pub text : new ≡ old ++ seat_texts trace told
  pub made : length told < length script
