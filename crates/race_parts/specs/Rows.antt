-- The lines of a part: the counts, and a row for each race, each undecided pair of locations and each apart pair. All
-- notions here are this project's own.
use Rattle.std.specs.Prelude.{◌≡◌, ℕ, ◌+◌, nat_eq, Bool, ◌&&◌, ◌||◌, not, false, cond, List, [], ◌∷◌, length, map, count_by, position, Option, Some, None, is_some, option_and_then, codes, bytes_eq}
use Rattle.serde_json.specs.Data.{Data}
use Rattle.serde_json.specs.Find.{as_array, get}
use Rattle.race_parts.specs.Members.{access_in, find_number, has_number, has_text, is_kind, said_number, said_text}
use Rattle.race_parts.specs.declared.rows.Mark.{Mark}

-- whether the line is the object of the counts
abbrev pub is_counts : Data → Bool
is_counts d =
    is_kind (codes "counts") d
    && has_number (codes "events") d && has_number (codes "races") d && has_number (codes "undecided") d && has_number (codes "apart") d

-- whether the value has a member `version` that is not 1
abbrev pub is_version : Option ℕ → Bool
is_version None = false
is_version (Some n) = nat_eq n 1

abbrev pub is_other_version : Data → Bool
is_other_version d = is_some (get (codes "version") d) && not (is_version (find_number (codes "version") d))

abbrev pub has_list : Data → Bool
has_list d = is_some (option_and_then as_array (get (codes "holds") d))

-- whether the value is an access with all its members
abbrev pub is_access : Option Data → Bool
is_access None = false
is_access (Some d) =
    has_number (codes "event") d
    && has_text (codes "thread") d && has_text (codes "operation") d && has_text (codes "variable") d && has_text (codes "location") d
    && has_list d

abbrev pub has_access : ℕ → Data → Bool
has_access place d = is_access (access_in place d)

abbrev pub has_accesses : Data → Bool
has_accesses d = has_access 0 d && has_access 1 d && has_number (codes "pairs") d

abbrev pub is_how : List ℕ → Bool
is_how word = bytes_eq word (codes "candidate") || bytes_eq word (codes "beyond") || bytes_eq word (codes "turned")

abbrev pub is_race : Data → Bool
is_race d =
    is_kind (codes "race") d
    && has_accesses d && is_how (said_text (codes "how") d)
    && has_number (codes "variables") d && has_number (codes "events") d && has_number (codes "threads") d

abbrev pub is_undecided : Data → Bool
is_undecided d = is_kind (codes "undecided") d && has_accesses d && has_number (codes "variables") d && has_number (codes "tried") d

abbrev pub is_apart : Data → Bool
is_apart d = is_kind (codes "apart") d && has_accesses d

abbrev pub is_row : Data → Bool
is_row d = is_race d || is_undecided d || is_apart d

-- the kind of a line in a part
abbrev pub mark_of : Data → Mark
mark_of d = record {
  is_row = is_row d;
  is_race = is_kind (codes "race") d;
  is_undecided = is_kind (codes "undecided") d;
  is_apart = is_kind (codes "apart") d;
}

-- the mark is that of a value of which P holds
abbrev pub HasMark : (Data → Type 0) → Mark → Type 0
HasMark P mark = (d : Data) × P d × (mark ≡ mark_of d)

-- The counts agree with these numbers of rows. If there are no apart rows, any count of apart rows is right.
abbrev pub is_whole : Data → ℕ → ℕ → ℕ → Bool
is_whole d races undecided apart =
    nat_eq (said_number (codes "races") d) races
    && nat_eq (said_number (codes "undecided") d) undecided
    && (nat_eq apart 0 || nat_eq (said_number (codes "apart") d) apart)

-- the number of rows of each kind agrees with the counts
abbrev pub are_whole : Data → List Mark → Bool
are_whole d ms = is_whole d (count_by (λ m. m.is_race) ms) (count_by (λ m. m.is_undecided) ms) (count_by (λ m. m.is_apart) ms)

abbrev pub wrong_behind : Data → List Mark → Option ℕ → Option ℕ
wrong_behind d ms (Some at) = Some (at + 1)
wrong_behind d ms None = cond (are_whole d ms) None (Some (length ms + 1))

-- the index of the first line that does not fit into a part; None if the lines are a part
abbrev pub wrong_line : List Data → Option ℕ
wrong_line [] = Some 0
wrong_line (d ∷ ds) = cond (is_counts d) (wrong_behind d (map mark_of ds) (position (λ m. not m.is_row) (map mark_of ds))) (Some 0)
