-- The log that the lines of a file give, what a session answers, and when its bench and its file are in step. All
-- notions here are this project's own. `T` is the trace.
use Rattle.std.specs.Prelude.{◌≡◌, ◌≢◌, ◌⊎◌, ℕ, ◌+◌, ◌-◌, ◌^◌, min, List, [], ◌∷◌, ◌++◌, Option, Some, None, Result, Ok, Err, codes, decimal, length, take, unwrap_or, ⊤}
use Rattle.rapid_text.specs.Recording.{Recording}
use Rattle.inverse_log.specs.declared.call.Call.{Call}
use Rattle.inverse_log.specs.declared.entry.Entry.{Entry}
use Rattle.inverse_log.specs.declared.reply.Reply.{Reply}
use Rattle.inverse_log.specs.declared.refusal.Refusal.{Refusal}
use Rattle.inverse_log.specs.Answer.{log_after, Called}
use Rattle.inverse_log.specs.Log.{Benched}
use Rattle.script_language.specs.Questions.{question_reading}
use Rattle.script_language.specs.Scripts.{script_line_reading}
use Rattle.script_language.specs.declared.question.Question.{Question}
use Rattle.script_language.specs.declared.refusal.ScriptCause.{ScriptCause}
use Rattle.client_scripts.specs.FaultTexts.{script_cause_words}
use Rattle.client_scripts.specs.Replay.{answer_text}
use Rattle.kept_log.specs.Device.{AfterOthers}
use Rattle.kept_log.specs.Moments.{LeavesOnly}
use Rattle.kept_log.specs.Log.{StandsFor, IsOldOrNew, BeginsWith, HasTurn, IsAtRest, IsLeft, head_of, lines_of, lines_behind}
use Rattle.kept_log.specs.declared.device.Device.{Ghosts}
use Rattle.kept_log.specs.declared.log.KeptLog.{KeptLog}
use Rattle.kept_session.specs.QuestionAnswers.{IsAnswer}
use Rattle.kept_session.specs.Lines.{line_for}

-- the log after the call that a line reads as
abbrev pub log_by : Recording → List Entry → Result (Option (ℕ × Call)) ScriptCause → List Entry
log_by T L (Ok (Some (client, call))) = log_after T L client call
log_by T L reading = L

-- the log after the call of this line
abbrev pub log_with : Recording → List Entry → List ℕ → List Entry
log_with T L line = log_by T L (script_line_reading line)

-- the log after the calls of the lines, made one after another from L on
abbrev pub log_behind : Recording → List Entry → List (List ℕ) → List Entry
log_behind T L [] = L
log_behind T L (line ∷ lines) = log_behind T (log_by T L (script_line_reading line)) lines

-- The log that the lines of a file give: the log after their replay. So the lines determine the log.
abbrev pub log_of : Recording → List (List ℕ) → List Entry
log_of T lines = log_behind T [] lines

-- the call of this line adds an entry to the log L
abbrev pub IsLogged : Recording → List Entry → List ℕ → Type 0
IsLogged T L line = length (log_by T L (script_line_reading line)) ≡ length L + 1

-- The call of each line adds an entry to the log after the lines before it. So there is a line for each entry.
abbrev pub AreLogged : Recording → List Entry → List (List ℕ) → Type 0
AreLogged T L [] = ⊤
AreLogged T L (line ∷ lines) = IsLogged T L line × AreLogged T (log_by T L (script_line_reading line)) lines

-- the answer to a line that is not a script line
abbrev pub line_fault : ℕ → ScriptCause → List ℕ
line_fault number why = codes "line " ++ decimal number ++ codes ": " ++ unwrap_or (script_cause_words why) [] ++ codes "\n"

-- the number after this one; the last number stays the same
abbrev pub number_after : ℕ → ℕ
number_after n = min (n + 1) (2 ^ 64 - 1)

-- the number of the line after the given lines, if the first given line has number n
abbrev pub number_behind : ℕ → List (List ℕ) → ℕ
number_behind n [] = n
number_behind n (raw ∷ more) = number_behind (number_after n) more

-- The line with this number, read in this way, has the answer `text` and leaves the log M. An empty line has no
-- answer. As in `Called`, the answer may be that memory ran out, and then the log stays the same.
abbrev pub IsAnswered : Recording → ℕ → Result (Option (ℕ × Call)) ScriptCause → List Entry → List ℕ → List Entry → Type 0
IsAnswered T number (Ok None) L text M = (text ≡ []) × (M ≡ L)
IsAnswered T number (Err why) L text M = (text ≡ line_fault number why) × (M ≡ L)
IsAnswered T number (Ok (Some (client, call))) L text M =
    (answer : Result Reply Refusal) × Called T L client call answer M × (text ≡ answer_text T answer)

-- the answer to a question with a fault
abbrev pub question_fault : ℕ → List ℕ
question_fault number = codes "line " ++ decimal number ++ codes ": 87 bad question\n"

-- A question has this answer after the log L, or has a fault. It changes nothing.
abbrev pub IsAsked : Recording → List Entry → ℕ → Result Question ScriptCause → List ℕ → Type 0
IsAsked T L number (Ok question) text = IsAnswer T L question text
IsAsked T L number (Err why) text = text ≡ question_fault number

-- the same on this bench
abbrev pub IsAskedOf : Benched → ℕ → Result Question ScriptCause → List ℕ → Type 0
IsAskedOf bench number asked text = IsAsked bench.trace bench.log number asked text

abbrev pub IsAnsweredAs : Recording → ℕ → Option (Result Question ScriptCause) → Result (Option (ℕ × Call)) ScriptCause → List Entry → List ℕ → List Entry → Type 0
IsAnsweredAs T number None reading L text M = IsAnswered T number reading L text M
IsAnsweredAs T number (Some asked) reading L text M = IsAsked T L number asked text × (M ≡ L)

-- The line with this number has the answer `text` and leaves the log M. It is a question, or else a line of a script.
abbrev pub IsLineAnswered : Recording → Option ℕ → ℕ → List ℕ → List Entry → List ℕ → List Entry → Type 0
IsLineAnswered T client number raw L text M = IsAnsweredAs T number (question_reading raw) (script_line_reading (line_for client raw)) L text M

-- These lines are answered one after another from the log L on, and leave the log M. `text` has their answers, and
-- `number` is the number of the first line.
abbrev pub AreAnswered : Recording → Option ℕ → ℕ → List (List ℕ) → List Entry → List ℕ → List Entry → Type 0
AreAnswered T client number [] L text M = (text ≡ []) × (M ≡ L)
AreAnswered T client number (raw ∷ more) L text M =
    (first : List ℕ) × (rest : List ℕ) × (K : List Entry)
    × IsLineAnswered T client number raw L first K
    × AreAnswered T client (number_after number) more K rest M
    × (text ≡ first ++ rest)

-- The session is between two turns. Each line of the log added an entry, and the lines give the log L of the bench.
pub record IsInStep {D : Type 0} (disk : Ghosts D) (T : Recording) (log : KeptLog D) (L : List Entry) : Type 0 where
  pub left : IsLeft disk log
  pub says : log_of T (lines_of disk log) ≡ L
  pub logged : AreLogged T [] (lines_of disk log)

-- The lock is held, and the file is at rest. Each line added an entry, and the lines give the log L of the bench.
pub record IsAtWork {D : Type 0} (disk : Ghosts D) (T : Recording) (log : KeptLog D) (L : List Entry) : Type 0 where
  pub at_rest : IsAtRest disk log
  pub says : log_of T (lines_of disk log) ≡ L
  pub logged : AreLogged T [] (lines_of disk log)

-- Lines were answered under one lock. The file had the lines `before` when it was last known, and `stood` when the
-- lock was taken, because other processes had added lines. All answers belong to the log that `stood` gives. The file
-- still has these lines, and after them the lines of the calls that the log gained.
pub record IsTurn (T : Recording) (client : Option ℕ) (first : ℕ) (raws before stood after : List (List ℕ)) (M : List Entry) (out_old out_new : List ℕ) : Type 0 where
  pub others : List (List ℕ)
  pub gained : List (List ℕ)
  pub text : List ℕ
  pub known : stood ≡ before ++ others
  pub lines : after ≡ stood ++ gained
  pub answered : AreAnswered T client first raws (log_of T stood) text M
  pub told : out_new ≡ out_old ++ text

-- The log L gains these lines from all calls of a piece. The lines of the piece are answered one after another from L
-- on.
abbrev pub AreGained : Recording → Option ℕ → ℕ → List (List ℕ) → List Entry → List (List ℕ) → Type 0
AreGained T client first raws L gained =
    (text : List ℕ) × (M : List Entry) × AreAnswered T client first raws L text M × (log_behind T L gained ≡ M) × AreLogged T L gained

-- A piece counts whole or not at all. `mid` is the log when the lock was taken and the lines of the file were on the
-- disk. From then on a crash at any moment leaves these lines, alone or with `gained` after them, and then perhaps
-- lines of other processes. `gained` has the lines of all calls of the piece, or is empty. The file that is seen in
-- the end is of this kind too.
pub record IsAllOrNone {D : Type 0} (disk : Ghosts D)
    (T : Recording) (client : Option ℕ) (first : ℕ) (raws : List (List ℕ)) (old new : KeptLog D) : Type 0 where
  pub mid : KeptLog D
  pub gained : List (List ℕ)
  pub calls : (gained ≡ []) ⊎ AreGained T client first raws (log_of T (lines_of disk mid)) gained
  pub at_rest : IsAtRest disk mid
  pub turn : HasTurn disk old mid []
  pub until : LeavesOnly disk old.device mid.device (BeginsWith (head_of disk old) (lines_of disk old))
  pub since : LeavesOnly disk mid.device new.device
      (λ c. StandsFor (head_of disk mid) (lines_of disk mid) c ⊎ BeginsWith (head_of disk mid) (lines_of disk mid ++ gained) c)
  pub shown : IsOldOrNew (head_of disk mid) (lines_of disk mid) gained (disk.seen new.device)

-- what a crash may leave while a call waits for the file's lock
abbrev pub BeforeLock : {D : Type 0} → Ghosts D → D → List ℕ → Type 0
BeforeLock disk old c = disk.may_leave old c ⊎ AfterOthers 0 (disk.may_leave old) c

-- The lock was not taken. A crash at any moment leaves what it may leave while a call waits for the lock.
pub record IsUntaken {D : Type 0} (disk : Ghosts D)
    (old new : D) : Type 0 where
  pub none : disk.found new ≡ disk.found old
  pub moments : LeavesOnly disk old new (BeforeLock disk old)

-- The lock was taken once, and `mid` is the device at that time. From then on a crash at any moment leaves what it
-- might have left then. Or it leaves a file that has the relation P to the file at that time.
pub record IsTaken {D : Type 0} (disk : Ghosts D)
    (P : List ℕ → List ℕ → Type 0) (old new : D) : Type 0 where
  pub mid : D
  pub once : disk.found mid ≡ Some (disk.seen mid) ∷ disk.found old
  pub last : disk.found new ≡ disk.found mid
  pub until : LeavesOnly disk old mid (BeforeLock disk old)
  pub since : LeavesOnly disk mid new (λ c. disk.may_leave mid c ⊎ P (disk.seen mid) c)

-- the lock was not taken, or it was taken once and P holds as above
abbrev pub MayTake : {D : Type 0} → Ghosts D → (List ℕ → List ℕ → Type 0) → D → D → Type 0
MayTake disk P old new = IsUntaken disk old new ⊎ IsTaken disk P old new

-- the file is not empty, and is what the lock found when it was taken once
abbrev pub FindsMore : {D : Type 0} → Ghosts D → D → D → Type 0
FindsMore disk old new = (disk.seen new ≢ []) × (disk.found new ≡ Some (disk.seen new) ∷ disk.found old)

-- the file begins with the head and the lines that were after it
abbrev pub KeepsLines : List ℕ → List ℕ → List ℕ → Type 0
KeepsLines head file c = BeginsWith head (lines_behind (length head) file) c

-- the file was empty, and there is no line after the head, no matter what the head is
abbrev pub HasNoLines : List ℕ → List ℕ → List ℕ → Type 0
HasNoLines head file c = (file ≡ []) × (lines_behind (length head) c ≡ [])

-- The lock was not taken. Or it was taken once, and a file that was not empty then is as it was.
abbrev pub IsLeftAlone : {D : Type 0} → Ghosts D → D → D → Type 0
IsLeftAlone disk old new =
    (disk.found new ≡ disk.found old)
    ⊎ ((file : List ℕ) × (disk.found new ≡ Some file ∷ disk.found old) × (file ≢ [] → disk.seen new ≡ file))

-- The lock was taken once, and `file` is what the file had then. It begins with the head, and its lines are those of
-- the log.
pub record IsOpened {D : Type 0} (disk : Ghosts D) (head : List ℕ) (device : D) (log : KeptLog D) : Type 0 where
  pub file : List ℕ
  pub once : disk.found log.device ≡ Some file ∷ disk.found device
  pub begins : take (length head) file ≡ head
  pub lines : lines_of disk log ≡ lines_behind (length head) file

-- If the file began with the head, it still has at least the same lines. Otherwise it is as it was.
pub record IsSpared (head file seen : List ℕ) : Type 0 where
  pub stranger : take (length head) file ≢ head → seen ≡ file
  pub lines : take (length head) file ≡ head → StandsFor head (lines_behind (length head) file) seen

-- A device that is returned. Its lock was not taken; or it was taken once, and the file found then is spared.
abbrev pub IsHandedBack : {D : Type 0} → Ghosts D → List ℕ → D → D → Type 0
IsHandedBack disk head old new = (disk.found new ≡ disk.found old) ⊎ ((file : List ℕ) × (disk.found new ≡ Some file ∷ disk.found old) × IsSpared head file (disk.seen new))
