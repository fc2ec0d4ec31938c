-- The table of counts at the end of a page: the counts of the whole trace. All notions here are this project's own.
use Rattle.std.specs.Prelude.{ℕ, List, ◌++◌, codes, decimal}
use Rattle.race_triage.specs.declared.totals.Totals.{Totals}

-- how a line of the table begins: its word
abbrev pub word_text : List ℕ → List ℕ
word_text word = codes "<tr><th scope=\"row\">" ++ word ++ codes "</th><td class=\"number\">"

-- how it ends: what its number means
abbrev pub meaning_text : List ℕ → List ℕ
meaning_text meaning = codes "</td><td>" ++ meaning ++ codes "</td></tr>\n"

-- a line of the table: a word, its number, and what it means
abbrev pub count_line : List ℕ → ℕ → List ℕ → List ℕ
count_line word number meaning = word_text word ++ decimal number ++ meaning_text meaning

-- the lines on the trace
abbrev pub trace_lines : Totals → List ℕ
trace_lines t = count_line (codes "events") t.events (codes "lines of the trace") ++ count_line (codes "threads") t.threads (codes "threads of the trace")

-- the lines on the kinds of pairs of events
abbrev pub kind_lines : Totals → List ℕ
kind_lines t =
    count_line (codes "candidates") t.candidates (codes "pairs that no lock, fork, join or read in the trace keeps apart: a schedule shows each")
    ++ count_line (codes "open") t.open_pairs (codes "pairs that only the order of critical sections keeps apart: the search tries some of them")
    ++ count_line (codes "guarded") t.guarded (codes "pairs whose two threads hold one lock: no schedule shows them")
    ++ count_line (codes "forced") t.forced (codes "pairs whose order every schedule keeps: no schedule shows them")

-- the lines on pairs of events
abbrev pub pair_lines : Totals → List ℕ
pair_lines t =
    count_line (codes "pairs") t.pairs (codes "pairs of events that conflict: two threads access one variable, and one of them writes")
    ++ kind_lines t

-- the lines on pairs of places
abbrev pub place_lines : Totals → List ℕ
place_lines t =
    count_line (codes "places") t.places (codes "pairs of places where a pair of events has its two accesses")
    ++ count_line (codes "races") t.races (codes "pairs of places for which a schedule was found")
    ++ count_line (codes "undecided") t.undecided (codes "pairs of places that the search left open")
    ++ count_line (codes "apart") t.apart (codes "pairs of places whose pairs of events are all guarded or forced")

-- the whole table
abbrev pub counts_text : Totals → List ℕ
counts_text t =
    codes "<section>\n<h2>Counts</h2>\n<table>\n<thead>\n<tr><th scope=\"col\">What</th><th scope=\"col\">How many</th><th scope=\"col\">Meaning</th></tr>\n</thead>\n<tbody>\n"
    ++ trace_lines t ++ pair_lines t ++ place_lines t ++ codes "</tbody>\n</table>\n</section>\n"
