-- The summary of what was read, as levels of names. No public clause cites this module.
use Rattle.std.specs.Prelude.{◌≡◌, ◌++◌, ◌∷◌, ◌||◌, if◌then◌else◌, ℕ, Bool, List, [], flat_map, length, map, take, codes, Ok, Vec}
use Rattle.std.specs.HashSet.{HashSet}
use Rattle.rapid_text.specs.Reading.{reading_of}
use Rattle.rapid_text.specs.Recording.{Recording}
use Rattle.window.specs.HeadText.{first_outside, noted_lines, said_line}
use Rattle.window.specs.Streams.{Past, Stands, is_named, read_name, said_in}
use Rattle.window.specs.declared.known.Known.{Known}
use Rattle.window.specs.declared.levels.Grown.{Grown}
use Rattle.window.specs.declared.levels.Levels.{Levels}

-- the names in a table, in order
abbrev pub names_of : {A S : Type 0} → HashSet (Vec ℕ A) S → List (List ℕ)
names_of s = map (λ name. name.items) s.keys

-- the names of all levels
abbrev pub level_names : Levels → List (List ℕ)
level_names names = flat_map names_of names.levels.items

-- the names of the levels that stay, and those of the level after them
abbrev pub grown_names : Levels → Grown → List (List ℕ)
grown_names names grown = flat_map names_of (take grown.keep names.levels.items) ++ names_of grown.level

-- the names of all levels, and then those of the table
abbrev pub both_names : {A S : Type 0} → Levels → HashSet (Vec ℕ A) S → List (List ℕ)
both_names levels names = level_names levels ++ names_of names

-- the names with this one at the end, if it is new
abbrev pub with_new : List (List ℕ) → List ℕ → List (List ℕ)
with_new names name = if is_named names name then names else names ++ name ∷ []

-- both lists have the same names, in any order
abbrev pub HaveSame : List (List ℕ) → List (List ℕ) → Type 0
HaveSame A B = (name : List ℕ) → is_named A name ≡ is_named B name

-- the new value has the names of the old one, and those that pass the test
abbrev pub HasMore : {X : Type 0} → (X → List (List ℕ)) → X → X → (List ℕ → Bool) → Type 0
HasMore names old new test = (name : List ℕ) → is_named (names new) name ≡ (is_named (names old) name || test name)

-- the same of the levels and their update
abbrev pub Grows : Levels → Grown → (List ℕ → Bool) → Type 0
Grows names grown test =
    (name : List ℕ) → is_named (grown_names names grown) name ≡ (is_named (level_names names) name || test name)

-- these are the threads of the summary
abbrev pub AreThreadsOf : Past → List (List ℕ) → Type 0
AreThreadsOf past names =
    (name : List ℕ)
    → is_named names name
    ≡ ((is_named past.seen name || is_named past.forked name) || is_named past.joined name)

-- for each of the names that is in the levels, the line in which the thread forks or joins it, by this word
abbrev pub calls : List ℕ → List ℕ → Levels → List (List ℕ) → List ℕ
calls thread word noted names = noted_lines (λ name. said_line thread word name) (level_names noted) names

-- the same for each name in the levels
abbrev pub all_calls : List ℕ → List ℕ → Levels → List ℕ
all_calls thread word noted = calls thread word noted (level_names noted)

-- the same for one name
abbrev pub call_if : List ℕ → List ℕ → Levels → List ℕ → List ℕ
call_if thread word noted name = if is_named (level_names noted) name then said_line thread word name else []

-- a read by each of the names that is in the levels
abbrev pub read_lines : Levels → List (List ℕ) → List ℕ
read_lines noted names = noted_lines (λ name. said_line name (codes "r") read_name) (level_names noted) names

-- the same for one name
abbrev pub read_if : Levels → List ℕ → List ℕ
read_if noted name = if is_named (level_names noted) name then said_line name (codes "r") read_name else []

-- for each of the names that was joined, the line in which the first thread that was not joined joins it
abbrev pub join_lines : Levels → Levels → List (List ℕ) → List ℕ
join_lines seen joined names = calls (first_outside (level_names seen) (level_names joined)) (codes "join") joined names

-- the summary in these fields
abbrev pub past_of : Known → Past
past_of known =
    record {
      forked = level_names known.forked;
      seen = level_names known.seen;
      joined = level_names known.joined;
      held = known.held.items;
    }

-- The recording is that of a text that replaces what was read, with `from` events, and of the piece after it.
abbrev pub IsReadAfter : List ℕ → List ℕ → Recording → ℕ → Type 0
IsReadAfter read more r from =
    (head : List ℕ) × Stands read head more × (reading_of (head ++ more) ≡ Ok r) × (from ≡ length (said_in head))
