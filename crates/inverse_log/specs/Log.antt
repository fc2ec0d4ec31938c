-- A log: which of its entries are live, and its board and rows. All notions here are this project's own. `T` is the
-- trace, `L` is the log; entries are numbered from 0.
use Rattle.std.specs.Prelude.{◌+◌, ◌==◌, ◌&&◌, ℕ, Bool, false, List, [], ◌∷◌, ◌++◌, Option, Some, None, nat_lt, length, slice_get, drop, reverse, find, map, flat_map, filter, filter_map, unwrap_or}
use Rattle.std.specs.List.{list_any, range_with_len}
use Rattle.rapid_text.specs.Recording.{Recording}
use Rattle.moves.specs.declared.command.Command.{Command}
use Rattle.moves.specs.declared.board.Proposal.{Proposal}
use Rattle.moves.specs.Commands.{writes, touches_any}
use Rattle.moves.specs.Ages.{age}
use Rattle.moves.specs.Fold.{Numbered, numbered, fold_of}
use Rattle.moves.specs.Rows.{Rows}
use Rattle.inverse_log.specs.declared.entry.Entry.{Entry}
use Rattle.inverse_log.specs.declared.entry.Entry.TheVariants.{Did, Batch, Undid, Proposed}

-- What a contract sees of a bench: its trace and its log, which determine everything else.
pub record Benched : Type 0 where
  pub trace : Recording
  pub log : List Entry

-- the client of the entry
abbrev pub client_of : Entry → ℕ
client_of (Did c d) = c
client_of (Batch c D) = c
client_of (Undid c k) = c
client_of (Proposed c a b P) = c

-- the entries of one client, in order
abbrev pub own_entries : List Entry → ℕ → List Entry
own_entries L c = filter (λ e. client_of e == c) L

-- the commands that an entry did, and their client; a single command is a list of one
abbrev pub done_by : Entry → Option (ℕ × List Command)
done_by (Did c d) = Some (c, d ∷ [])
done_by (Batch c D) = Some (c, D)
done_by e = None

abbrev pub done_in : Option Entry → Option (ℕ × List Command)
done_in None = None
done_in (Some e) = done_by e

abbrev pub commands_in : Option (ℕ × List Command) → List Command
commands_in None = []
commands_in (Some p) = p.1

-- the commands that entry k did, if it did some
abbrev pub commands_at : List Entry → ℕ → List Command
commands_at L k = commands_in (done_in (slice_get L k))

abbrev pub is_client : ℕ → Option (ℕ × List Command) → Bool
is_client c None = false
is_client c (Some p) = p.0 == c

-- whether there is such an entry, and it did commands of this client
abbrev pub is_own : ℕ → Option Entry → Bool
is_own c e = is_client c (done_in e)

-- whether an entry undoes entry k
abbrev pub undoes : ℕ → Entry → Bool
undoes k (Undid c j) = j == k
undoes k e = false

-- whether an entry after entry k undoes it
abbrev pub is_undone : List Entry → ℕ → Bool
is_undone L k = list_any (undoes k) (drop (k + 1) L)

-- A live entry: its number, its client, and its commands.
pub record Live : Type 0 where
  pub number : ℕ
  pub client : ℕ
  pub commands : List Command

abbrev pub live : ℕ → ℕ → List Command → Live
live k c D = record { number = k; client = c; commands = D }

abbrev pub live_by : ℕ → Bool → Option (ℕ × List Command) → Option Live
live_by k false (Some p) = Some (live k p.0 p.1)
live_by k undone p = None

-- entry k, if it is live: it did commands, and no later entry undoes it
abbrev pub live_at : List Entry → ℕ → Option Live
live_at L k = live_by k (is_undone L k) (done_in (slice_get L k))

-- the live entries, in order
abbrev pub live_of : List Entry → List Live
live_of L = filter_map (live_at L) (range_with_len 0 (length L))

-- The commands of an entry as the workspace takes them. The birth of what a command makes is the entry and the
-- command's index in it.
abbrev pub births_of : Live → List Numbered
births_of e = numbered (age e.number 0) e.commands

abbrev pub steps_of : List Live → List Numbered
steps_of E = flat_map births_of E

-- the list that an entry proposes, as a schedule of the trace, with the pair that it shows
abbrev pub proposal_of : Recording → Entry → Option Proposal
proposal_of T (Proposed c a b P) = Some (record { first = a; second = b; schedule = record { trace = T; events = P } })
proposal_of T e = None

-- the proposals, in order
abbrev pub board_of : Recording → List Entry → List Proposal
board_of T L = filter_map (proposal_of T) L

-- The rows: what the commands of the live entries make of the empty workspace, in their order. A law of legal logs says
-- that none of them is refused there.
abbrev pub rows_of : Recording → List Entry → Rows
rows_of T L = unwrap_or (fold_of T (board_of T L) (steps_of (live_of L))) []

abbrev pub is_by : ℕ → Live → Bool
is_by c e = e.client == c

-- the client's greatest live entry
abbrev pub last_live : List Entry → ℕ → Option Live
last_live L c = find (is_by c) (reverse (live_of L))

-- the names that an entry's commands write, in their order
abbrev pub written : Live → List (List ℕ)
written e = map writes e.commands

-- b blocks an undo of e: it is later, and touches a name that e wrote
abbrev pub blocks : Live → Live → Bool
blocks e b = nat_lt e.number b.number && list_any (touches_any b.commands) (written e)

-- the least live entry that blocks e
abbrev pub blocker_of : List Entry → Live → Option Live
blocker_of L e = find (blocks e) (live_of L)

-- the first name that e wrote and b touches, if there is one
abbrev pub rests_on : Live → Live → List ℕ
rests_on e b = unwrap_or (find (touches_any b.commands) (written e)) []

-- How often an entry changed, added, removed or replaced a row, after the entries L: once for each command that it did,
-- and once for each command of the entry that it undid.
abbrev pub changes_by : List Entry → Entry → ℕ
changes_by L (Did c d) = 1
changes_by L (Batch c D) = length D
changes_by L (Undid c k) = length (commands_at L k)
changes_by L (Proposed c a b P) = 0

-- the same for all of the entries M, after the entries L
abbrev pub edits_after : List Entry → List Entry → ℕ
edits_after L [] = 0
edits_after L (e ∷ M) = changes_by L e + edits_after (L ++ e ∷ []) M

-- how often a row was changed, added, removed or replaced
abbrev pub edits_of : List Entry → ℕ
edits_of L = edits_after [] L
