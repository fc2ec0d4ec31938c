-- What the log promises, as statements. `T` is the trace, `L` is the log before a call.
use Rattle.std.specs.Prelude.{◌≡◌, ◌≢◌, ◌↔◌, ℕ, ◌+◌, ◌<◌, ◌≤◌, true, List, [], ◌∷◌, ◌++◌, Some, Result, Ok, Err, All, Contains, find, length}
use Rattle.dependence.specs.Limits.{client_limit}
use Rattle.std.specs.List.{list_any}
use Rattle.rapid_text.specs.Recording.{Recording}
use Rattle.trace_rules.specs.Rules.{IsDisciplined}
use Rattle.schedule.specs.Faults.{IsFirstFault}
use Rattle.schedule.specs.Reordering.{IsCorrectReordering}
use Rattle.schedule.specs.Shows.{Shows}
use Rattle.moves.specs.declared.board.Proposal.{Proposal}
use Rattle.moves.specs.declared.command.Command.{Command}
use Rattle.moves.specs.Commands.{touches_any}
use Rattle.moves.specs.Fold.{fold_of}
use Rattle.moves.specs.Moves.{applied}
use Rattle.moves.specs.Rows.{Rows, IsListing, AreReorderings}
use Rattle.inverse_log.specs.declared.call.Call.{Call}
use Rattle.inverse_log.specs.declared.call.Call.TheVariants.{Do, Batch, Undo, UndoAt, Propose}
use Rattle.inverse_log.specs.declared.entry.Entry.{Entry}
use Rattle.inverse_log.specs.declared.entry.Entry.TheVariants.{Undid}
use Rattle.inverse_log.specs.declared.refusal.Refusal.{Refusal}
use Rattle.inverse_log.specs.declared.refusal.Refusal.TheVariants.{RestsOn, NotReordering, NotShown}
use Rattle.inverse_log.specs.declared.reply.Reply.{Reply}
use Rattle.inverse_log.specs.declared.reply.Reply.TheVariants.{Done, Undone, Proposed}
use Rattle.inverse_log.specs.Answer.{answer_of, log_after, IsLegal, Called, IsAlone}
use Rattle.inverse_log.specs.Limits.{entry_limit}
use Rattle.inverse_log.specs.Log.{Live, written, steps_of, live_of, live_at, commands_at, board_of, rows_of, last_live, edits_of}

-- The rows are what the commands of the live entries, in their order, make of the empty workspace. None of the commands
-- is refused there. Names differ and births rise, and each row's list is a correct reordering of the trace.
pub record IsFoldOfLive (T : Recording) (L : List Entry) (W : Rows) : Type 0 where
  pub fold : fold_of T (board_of T L) (steps_of (live_of L)) ≡ Some W
  pub listing : IsListing W
  pub reorderings : AreReorderings T W

-- a correct reordering of the trace that shows its pair
pub record IsSound (T : Recording) (p : Proposal) : Type 0 where
  pub trace : p.schedule.trace ≡ T
  pub reordering : IsCorrectReordering T.events p.schedule.events
  pub shows : Shows T.events p.schedule.events p.first p.second

-- after every legal log there are such rows, and each proposal is sound
abbrev pub RowsAreTheFold : Type 0
RowsAreTheFold =
    (T : Recording) (L : List Entry)
    → IsDisciplined T.events
    → IsLegal T L
    → IsFoldOfLive T L (rows_of T L) × All (IsSound T) (board_of T L)

-- b is later than e, and touches a name that e wrote
abbrev pub Blocks : Live → Live → Type 0
Blocks e b = (e.number < b.number) × (list_any (touches_any b.commands) (written e) ≡ true)

-- the least live entry that blocks e has the number k, and x is the first name that e wrote and that entry touches
pub record IsLeastBlocker (L : List Entry) (e : Live) (k : ℕ) (x : List ℕ) : Type 0 where
  pub blocker : Live
  pub number : blocker.number ≡ k
  pub live : Contains (live_of L) blocker
  pub blocks : Blocks e blocker
  pub least : All (λ (b : Live). Blocks e b → k ≤ b.number) (live_of L)
  pub name : find (touches_any blocker.commands) (written e) ≡ Some x

-- An undo takes back the client's greatest live entry e. It is refused exactly if a live entry blocks e. The refusal
-- then names the least such entry, and the first name that e wrote and that entry touches. Otherwise it is accepted,
-- whenever e was made.
abbrev pub UndoIsRefusedExactly : Type 0
UndoIsRefusedExactly =
    (T : Recording) (L : List Entry) (c : ℕ) (e : Live)
    → length L < entry_limit
    → last_live L c ≡ Some e
    → ((k : ℕ) (x : List ℕ) → (answer_of T L c Undo ≡ Err (RestsOn k x)) ↔ IsLeastBlocker L e k x)
    × ((answer_of T L c Undo ≡ Ok (Undone (length L) e.number)) ↔ All (λ (b : Live). ¬ Blocks e b) (live_of L))

-- An undo by number takes back the client's live entry e with that number, whenever it was made. It has the same
-- refusals.
abbrev pub UndoAtIsRefusedExactly : Type 0
UndoAtIsRefusedExactly =
    (T : Recording) (L : List Entry) (c k : ℕ) (e : Live)
    → length L < entry_limit
    → live_at L k ≡ Some e
    → e.client ≡ c
    → ((j : ℕ) (x : List ℕ) → (answer_of T L c (UndoAt k) ≡ Err (RestsOn j x)) ↔ IsLeastBlocker L e j x)
    × ((answer_of T L c (UndoAt k) ≡ Ok (Undone (length L) k)) ↔ All (λ (b : Live). ¬ Blocks e b) (live_of L))

-- An undo by the number of the client's latest live entry is the undo without a number. So the law of an undo directly
-- after its entry holds for both.
abbrev pub UndoAtOfLatestIsUndo : Type 0
UndoAtOfLatestIsUndo =
    (T : Recording) (L : List Entry) (c : ℕ) (e : Live)
    → last_live L c ≡ Some e
    → (answer_of T L c (UndoAt e.number) ≡ answer_of T L c Undo) × (log_after T L c (UndoAt e.number) ≡ log_after T L c Undo)

-- If the log has room, an undo directly after a command or a batch is answered Undone, and the rows are again those
-- before it.
abbrev pub UndoDirectlyRestores : Type 0
UndoDirectlyRestores =
    (T : Recording) (L M : List Entry) (c n : ℕ) (call : Call)
    → 1 ≤ c → c ≤ client_limit
    → IsLegal T L
    → Called T L c call (Ok (Done n)) M
    → n + 1 < entry_limit
    → (answer_of T M c Undo ≡ Ok (Undone (n + 1) n)) × (rows_of T (log_after T M c Undo) ≡ rows_of T L)

-- If a legal log ends with an undo of the entry before it, the rows are those of the log before both.
abbrev pub UndoOfTheLastRestores : Type 0
UndoOfTheLastRestores =
    (T : Recording) (L : List Entry) (e : Entry) (c : ℕ)
    → IsLegal T (L ++ e ∷ Undid c (length L) ∷ [])
    → rows_of T (L ++ e ∷ Undid c (length L) ∷ []) ≡ rows_of T L

-- A proposal is refused at index p exactly if its list is a correct reordering before p, but not up to p. It is refused
-- as not shown exactly if the list is a correct reordering and does not show the pair. It is put on the board exactly
-- if the list is a correct reordering and shows the pair.
abbrev pub ProposalsAreJudgedExactly : Type 0
ProposalsAreJudgedExactly =
    (T : Recording) (L : List Entry) (c a b : ℕ) (P : List ℕ)
    → IsDisciplined T.events
    → length L < entry_limit
    → ((p : ℕ) → (answer_of T L c (Propose a b P) ≡ Err (NotReordering p)) ↔ IsFirstFault T.events P p)
    × ((answer_of T L c (Propose a b P) ≡ Err NotShown) ↔ (IsCorrectReordering T.events P × ¬ Shows T.events P a b))
    × ((answer_of T L c (Propose a b P) ≡ Ok (Proposed (length L) (length (board_of T L)))) ↔ (IsCorrectReordering T.events P × Shows T.events P a b))

-- if all entries of the log are one client's, its undo is never refused for a later entry
abbrev pub OneClientIsNeverBlocked : Type 0
OneClientIsNeverBlocked =
    (T : Recording) (L : List Entry) (c k : ℕ) (x : List ℕ) → IsAlone c L → answer_of T L c Undo ≢ Err (RestsOn k x)

-- a longer board accepts what was accepted, with the same rows
abbrev pub LongerBoardsAcceptTheSame : Type 0
LongerBoardsAcceptTheSame =
    (T : Recording) (B C : List Proposal) (n : ℕ) (d : Command) (W V : Rows)
    → applied T B n d W ≡ Ok V
    → applied T (B ++ C) n d W ≡ Ok V

-- how many commands a call has
abbrev pub commands_of : Call → ℕ
commands_of (Do d) = 1
commands_of (Batch D) = length D
commands_of call = 0

-- how many changes of rows a call made, by its result
abbrev pub changes_of : List Entry → Call → Result Reply Refusal → ℕ
changes_of L call (Ok (Done n)) = commands_of call
changes_of L call (Ok (Undone n k)) = length (commands_at L k)
changes_of L call result = 0

-- the count of changes grows by one for each command that was applied or taken back, and not otherwise
abbrev pub EditsCountChanges : Type 0
EditsCountChanges =
    (T : Recording) (L M : List Entry) (c : ℕ) (call : Call) (r : Result Reply Refusal)
    → Called T L c call r M
    → edits_of M ≡ edits_of L + changes_of L call r
