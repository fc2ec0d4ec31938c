-- The text of the numbers of events, threads, variables and locks in a trace.
use Rattle.std.specs.Prelude.{ℕ, List, ◌++◌, length, flat_map, codes, decimal}
use Rattle.std.specs.List.{range_with_len}
use Rattle.rapid_text.specs.Canonical.{name_at}
use Rattle.rapid_text.specs.Recording.{Recording}
use Rattle.event_index.specs.Lookups.{events_of}

-- a line with a word and a number
abbrev pub count_line : List ℕ → ℕ → List ℕ
count_line word n = word ++ codes " " ++ decimal n ++ codes "\n"

-- the numbers of events, threads, variables and locks
abbrev pub counts_text : Recording → List ℕ
counts_text r =
    count_line (codes "events") (length r.events)
    ++ count_line (codes "threads") (length r.threads)
    ++ count_line (codes "variables") (length r.variables)
    ++ count_line (codes "locks") (length r.locks)

-- the line of a thread: its number, its name, and the number of its events
abbrev pub thread_line : Recording → ℕ → List ℕ
thread_line r t =
    codes "thread " ++ decimal t ++ codes " " ++ name_at r.threads t ++ codes " " ++ decimal (length (events_of r.events t)) ++ codes "\n"

-- the lines of the first n threads
abbrev pub thread_lines : Recording → ℕ → List ℕ
thread_lines r n = flat_map (thread_line r) (range_with_len 0 n)

-- the four numbers, and a line for each thread in the order of their numbers
unfoldable pub info_text : Recording → List ℕ
info_text r = counts_text r ++ thread_lines r (length r.threads)
