-- What an entry of a triage file says about a race, from its TOML value. All notions here are this project's own.
use Rattle.std.specs.Prelude.{◌≡◌, ℕ, ℤ, ◌+◌, ◌*◌, ◌==◌, ◌&&◌, ◌||◌, nat_lt, not, Bool, true, false, cond, List, [], ◌∷◌, length, Option, Some, None, is_none, is_some, option_and_then, option_map, unwrap_or, codes, bytes_eq}
use Rattle.std.specs.List.{list_all, list_any}
use Rattle.toml.specs.Data.{Data, Items, no_items, item, Members, no_members, member, as_array, as_datetime, as_integer, as_str, as_table, at, get}
use Rattle.toml_datetime.specs.declared.datetime.Date.{Date}
use Rattle.toml_datetime.specs.declared.datetime.Datetime.{Datetime}
use Rattle.triage_file.specs.declared.mistakes.Mistake.{Mistake}
use Rattle.triage_file.specs.declared.mistakes.Mistake.TheVariants.{NoTable, Unknown, Paths, Functions, Variables, Lines, Verdict, Reason, Author, Expires}

-- the items of an array, and the keys of a table
abbrev pub items_in : Items → List Data
items_in no_items = []
items_in (item d ds) = d ∷ items_in ds

abbrev pub keys_in : Members → List (List ℕ)
keys_in no_members = []
keys_in (member k d ms) = k ∷ keys_in ms

-- the items of a member that is an array; empty if it is not an array
abbrev pub items_by : Option Items → List Data
items_by None = []
items_by (Some ds) = items_in ds

abbrev pub list_of : List ℕ → Data → List Data
list_of name d = items_by (option_and_then as_array (get name d))

-- the item at this index of a member's array
abbrev pub item_of : List ℕ → ℕ → Data → Option Data
item_of name place d = option_and_then (at place) (get name d)

-- a text or a number at this index
abbrev pub text_at : List ℕ → ℕ → Data → Option (List ℕ)
text_at name place d = option_and_then as_str (item_of name place d)

abbrev pub number_at : List ℕ → ℕ → Data → Option ℤ
number_at name place d = option_and_then as_integer (item_of name place d)

-- the text at this index; empty if the item is missing or is no text
abbrev pub said_at : List ℕ → ℕ → Data → List ℕ
said_at name place d = unwrap_or (text_at name place d) []

-- the text of a member; empty if the member is missing or is no text
abbrev pub said_text : List ℕ → Data → List ℕ
said_text name d = unwrap_or (option_and_then as_str (get name d)) []

abbrev pub has : List ℕ → Data → Bool
has name d = is_some (get name d)

abbrev pub is_text : Data → Bool
is_text d = is_some (as_str d)

-- the member is missing, or passes the test
abbrev pub may : (List ℕ → Data → Bool) → List ℕ → Data → Bool
may test name d = not (has name d) || test name d

-- an array of two texts, and of two numbers
abbrev pub are_two_texts : List ℕ → Data → Bool
are_two_texts name d = is_some (text_at name 0 d) && (is_some (text_at name 1 d) && is_none (item_of name 2 d))

abbrev pub are_two_numbers : List ℕ → Data → Bool
are_two_numbers name d = is_some (number_at name 0 d) && (is_some (number_at name 1 d) && is_none (item_of name 2 d))

-- an array of one or more texts
abbrev pub are_texts : List ℕ → Data → Bool
are_texts name d = is_some (item_of name 0 d) && list_all is_text (list_of name d)

abbrev pub is_said : List ℕ → Data → Bool
is_said name d = is_some (option_and_then as_str (get name d))

-- the four verdicts
abbrev pub is_verdict : List ℕ → Bool
is_verdict word =
    bytes_eq word (codes "known") || (bytes_eq word (codes "benign") || (bytes_eq word (codes "false") || bytes_eq word (codes "fixed")))

-- a date as a number that rises with the days: the digits of the year, the month and the day
abbrev pub day_of : Date → ℕ
day_of date = date.year * 10000 + date.month * 100 + date.day

-- a date without a time
abbrev pub day_by : Datetime → Option ℕ
day_by dt = cond (is_none dt.time && is_none dt.offset) (option_map day_of dt.date) None

abbrev pub day_at : List ℕ → Data → Option ℕ
day_at name d = option_and_then day_by (option_and_then as_datetime (get name d))

abbrev pub is_day : List ℕ → Data → Bool
is_day name d = is_some (day_at name d)

-- the keys of an entry
abbrev pub is_key : List ℕ → Bool
is_key key =
    bytes_eq key (codes "paths") || (bytes_eq key (codes "functions") || (bytes_eq key (codes "variables") || (bytes_eq key (codes "lines")
    || (bytes_eq key (codes "verdict") || (bytes_eq key (codes "reason") || (bytes_eq key (codes "author") || bytes_eq key (codes "expires")))))))

abbrev pub keys_by : Option Members → List (List ℕ)
keys_by None = []
keys_by (Some ms) = keys_in ms

abbrev pub keys_of : Data → List (List ℕ)
keys_of d = keys_by (as_table d)

-- the first mistake in the members of the decision; None if they are right
abbrev pub decision_mistake : Data → Option Mistake
decision_mistake d =
    cond (not (is_verdict (said_text (codes "verdict") d))) (Some Verdict)
    (cond (not (may is_said (codes "reason") d)) (Some Reason)
    (cond (not (may is_said (codes "author") d)) (Some Author)
    (cond (not (may is_day (codes "expires") d)) (Some Expires) None)))

-- the same, after the members that name the race
abbrev pub place_mistake : Data → Option Mistake
place_mistake d =
    cond (not (are_two_texts (codes "paths") d)) (Some Paths)
    (cond (not (may are_two_texts (codes "functions") d)) (Some Functions)
    (cond (not (may are_texts (codes "variables") d)) (Some Variables)
    (cond (not (may are_two_numbers (codes "lines") d)) (Some Lines) (decision_mistake d))))

-- the first mistake of an entry; None if it is right
abbrev pub mistake_of : Data → Option Mistake
mistake_of d = cond (is_none (as_table d)) (Some NoTable) (cond (not (list_all is_key (keys_of d))) (Some Unknown) (place_mistake d))

-- the key that a mistake is about; the brackets of a header if no known key is
abbrev pub key_of : Mistake → List ℕ
key_of NoTable = codes "[["
key_of Unknown = codes "[["
key_of Paths = codes "paths"
key_of Functions = codes "functions"
key_of Variables = codes "variables"
key_of Lines = codes "lines"
key_of Verdict = codes "verdict"
key_of Reason = codes "reason"
key_of Author = codes "author"
key_of Expires = codes "expires"

abbrev pub is_past : ℕ → Option ℕ → Bool
is_past today None = false
is_past today (Some day) = nat_lt day today

-- the entry's last day is before today
abbrev pub is_expired : ℕ → Data → Bool
is_expired today d = is_past today (day_at (codes "expires") d)

-- the entry leaves its race out: its verdict is not `fixed`
abbrev pub hides : Data → Bool
hides d = not (bytes_eq (said_text (codes "verdict") d) (codes "fixed"))
