-- The text that replaces what was read of a trace: it describes the state of some of the trace's threads.
use Rattle.std.specs.Prelude.{◌≡◌, ◌++◌, not, if◌then◌else◌, ℕ, List, [], flat_map, get_or, codes}
use Rattle.std.specs.List.{position_or_len}
use Rattle.window.specs.Streams.{Past, is_named, read_name}

-- the line `thread|word(name)|`
abbrev pub said_line : List ℕ → List ℕ → List ℕ → List ℕ
said_line thread word name = thread ++ (codes "|" ++ (word ++ (codes "(" ++ (name ++ codes ")|\n"))))

-- a line for each noted name
abbrev pub noted_lines : (List ℕ → List ℕ) → List (List ℕ) → List (List ℕ) → List ℕ
noted_lines line noted names = flat_map (λ name. if is_named noted name then line name else []) names

-- none of the names is noted, so there is no line
abbrev pub NoneNoted : List (List ℕ) → List (List ℕ) → Type 0
NoneNoted noted names = (line : List ℕ → List ℕ) → noted_lines line noted names ≡ []

-- names of threads; for each list the text says which names were forked, have an event, or were joined
pub record Told : Type 0 where
  pub forked : List (List ℕ)
  pub seen : List (List ℕ)
  pub joined : List (List ℕ)

-- all three for each name of the list
abbrev pub all_of : List (List ℕ) → Told
all_of names = record { forked = names; seen = names; joined = names }

-- all three for each name in the summary
abbrev pub all_kept : Past → Told
all_kept past = record { forked = past.forked; seen = past.seen; joined = past.joined }

-- the first of the names, or the empty text if there are no names
abbrev pub first_name : List (List ℕ) → List ℕ
first_name names = get_or names 0 []

-- the place of the first of the names that is not among the others; the number of names if each is
abbrev pub place_outside : List (List ℕ) → List (List ℕ) → ℕ
place_outside names others = position_or_len (λ name. not (is_named others name)) names

-- the first of the names that is not among the others; the first of all if each is
abbrev pub first_outside : List (List ℕ) → List (List ℕ) → List ℕ
first_outside names others = get_or names (place_outside names others) (first_name names)

-- The text with the summary of the names. The first thread that has an event forks those that were forked. Each thread
-- that has an event reads. Then come acquires for the locks that are held. Last, a thread that was not joined joins
-- those that were.
abbrev pub head_text : Past → Told → List ℕ
head_text past told =
    noted_lines (λ name. said_line (first_name past.seen) (codes "fork") name) past.forked told.forked
    ++ (noted_lines (λ name. said_line name (codes "r") read_name) past.seen told.seen
    ++ (past.held ++ noted_lines (λ name. said_line (first_outside past.seen past.joined) (codes "join") name) past.joined told.joined))

-- the same for each thread of the summary
abbrev pub whole_head_text : Past → List ℕ
whole_head_text past = head_text past (all_kept past)
