-- The text of a log: the number of its entries, and a line for each.
use Rattle.std.specs.Prelude.{ℕ, List, [], ◌++◌, length, flat_map, slice_get, Option, Some, None, codes, decimal}
use Rattle.std.specs.List.{range_with_len}
use Rattle.inverse_log.specs.declared.entry.Entry.{Entry}
use Rattle.inverse_log.specs.declared.entry.Entry.TheVariants.{Did, Batch, Undid, Proposed}
use Rattle.inverse_log.specs.Log.{client_of}
use Rattle.report.specs.Commands.{command_words, commands_words}
use Rattle.report.specs.Info.{count_line}
use Rattle.report.specs.Pieces.{spaced}

-- the text of a proposal
abbrev pub proposed_words : ℕ → ℕ → List ℕ → List ℕ
proposed_words first second events =
    codes "propose " ++ decimal first ++ codes " " ++ decimal second ++ spaced events

-- what the client did
abbrev pub entry_words : Entry → List ℕ
entry_words (Did client command) = command_words command
entry_words (Batch client commands) = codes "batch " ++ commands_words commands
entry_words (Undid client entry) = codes "undo " ++ decimal entry
entry_words (Proposed client first second events) = proposed_words first second events

-- the line of an entry: its number, its client, and what the client did
abbrev pub entry_line : ℕ → Entry → List ℕ
entry_line number entry =
    decimal number ++ codes " " ++ decimal (client_of entry) ++ codes " " ++ entry_words entry ++ codes "\n"

abbrev pub line_of : ℕ → Option Entry → List ℕ
line_of number None = []
line_of number (Some entry) = entry_line number entry

-- the line of the log entry with this number
abbrev pub line_at : List Entry → ℕ → List ℕ
line_at log number = line_of number (slice_get log number)

-- the lines of the first n entries
abbrev pub entry_lines : List Entry → ℕ → List ℕ
entry_lines log n = flat_map (line_at log) (range_with_len 0 n)

-- the number of entries, and a line for each
unfoldable pub log_text : List Entry → List ℕ
log_text log = count_line (codes "log") (length log) ++ entry_lines log (length log)
