-- Which text is a triage file, and why another text is refused. All notions here are this project's own, except those
-- of TOML.
use Rattle.std.specs.Prelude.{◌≡◌, ◌≤◌, ℕ, ◌+◌, ◌&&◌, Bool, true, false, List, [], ◌∷◌, length, position, Option, Some, None, is_some, option_and_then, codes, cond, bytes_eq, IsUtf8, ⊤}
use Rattle.std.specs.List.{list_all}
use Rattle.toml.specs.Data.{Data, Members, as_array, get_member}
use Rattle.toml.specs.Parse.{parse_document}
use Rattle.triage_file.specs.Entries.{is_expired, items_by, key_of, keys_in, mistake_of}
use Rattle.triage_file.specs.Spots.{headers_before, HasNoKey, IsHeader, IsKeySpot, IsNameSpot, IsSpot}
use Rattle.triage_file.specs.declared.files.Refusal.{Refusal}
use Rattle.triage_file.specs.declared.files.Refusal.TheVariants.{Toml, Top, Entry, Expired, OutOfMemory}
use Rattle.triage_file.specs.declared.mistakes.Mistake.{Mistake}
use Rattle.triage_file.specs.declared.spots.Spot.{Spot}

abbrev pub race_key : List ℕ
race_key = codes "race"

-- the entries of a file
abbrev pub races_in : Members → List Data
races_in ms = items_by (option_and_then as_array (get_member race_key ms))

abbrev pub is_list_by : Option Data → Bool
is_list_by None = true
is_list_by (Some d) = is_some (as_array d)

abbrev pub is_race_key : List ℕ → Bool
is_race_key key = bytes_eq key race_key

-- at its top a file has at most one key, an array `race`
abbrev pub is_top : Members → Bool
is_top ms = list_all is_race_key (keys_in ms) && is_list_by (get_member race_key ms)

-- the first key that is not `race`; `race` if every key is `race`
abbrev pub other_key : List (List ℕ) → List ℕ
other_key [] = race_key
other_key (key ∷ keys) = cond (is_race_key key) (other_key keys) key

abbrev pub or_mistaken : ℕ → Option Mistake → Option (ℕ × Mistake) → Option (ℕ × Mistake)
or_mistaken n None later = later
or_mistaken n (Some mistake) later = Some (n, mistake)

-- the first entry with a mistake, and its mistake; the first entry of the list has number n
abbrev pub mistaken_from : ℕ → List Data → Option (ℕ × Mistake)
mistaken_from n [] = None
mistaken_from n (d ∷ ds) = or_mistaken n (mistake_of d) (mistaken_from (n + 1) ds)

-- the first entry whose last day is before today
abbrev pub first_expired : ℕ → List Data → Option ℕ
first_expired today ds = position (is_expired today) ds

-- The text is the TOML of this document.
pub record IsDocument (text : List ℕ) (ms : Members) : Type 0 where
  pub utf8 : IsUtf8 text
  pub value : parse_document text ≡ Some ms

-- The text is a triage file, none of whose entries has expired.
pub record IsTaken (text : List ℕ) (today : ℕ) (ms : Members) : Type 0 where
  pub document : IsDocument text ms
  pub top : is_top ms ≡ true
  pub right : mistaken_from 0 (races_in ms) ≡ None
  pub current : first_expired today (races_in ms) ≡ None

-- Where a mistake about a key of entry k is reported: at the entry's first line with the key. If the entry has no such
-- line, at its header. If it has no header, at the beginning of the text.
pub data IsKeyPlace (text : List ℕ) (k : ℕ) (key : List ℕ) : ℕ → Type 0 where
  at_key : (start n : ℕ) → IsHeader text k start → IsKeySpot key text start n → IsKeyPlace text k key n
  at_header : (start : ℕ) → IsHeader text k start → HasNoKey key text start → IsKeyPlace text k key start
  at_beginning : headers_before text (length text) ≤ k → IsKeyPlace text k key 0

abbrev pub IsKeyReport : List ℕ → ℕ → List ℕ → Spot → Type 0
IsKeyReport text k key spot = (n : ℕ) × IsKeyPlace text k key n × IsSpot text n spot

-- Entry k of the document has this mistake, and no earlier entry has one.
pub record IsMistaken (text : List ℕ) (spot : Spot) (number : ℕ) (mistake : Mistake) : Type 0 where
  pub ms : Members
  pub k : ℕ
  pub document : IsDocument text ms
  pub top : is_top ms ≡ true
  pub first : mistaken_from 0 (races_in ms) ≡ Some (k, mistake)
  pub number_is : number ≡ k + 1
  pub place : IsKeyReport text k (key_of mistake) spot

-- The entry with this number, counted from 1, has expired, and no earlier entry has.
pub record IsOutdated (text : List ℕ) (today : ℕ) (ds : List Data) (spot : Spot) (number : ℕ) : Type 0 where
  pub k : ℕ
  pub first : first_expired today ds ≡ Some k
  pub number_is : number ≡ k + 1
  pub place : IsKeyReport text k (codes "expires") spot

-- the refusal is that of an expired entry
abbrev pub IsOver : List ℕ → ℕ → List Data → Refusal → Type 0
IsOver text today ds (Expired spot number) = IsOutdated text today ds spot number
IsOver text today ds refusal = ⊥

-- the reason why a text is refused
abbrev pub IsRefusal : List ℕ → ℕ → Refusal → Type 0
IsRefusal text today (Toml spot) = (IsUtf8 text → parse_document text ≡ None) × ((n : ℕ) × (n ≤ length text) × IsSpot text n spot)
IsRefusal text today (Top spot) =
    (ms : Members) × IsDocument text ms × (is_top ms ≡ false) × IsNameSpot (other_key (keys_in ms)) text spot
IsRefusal text today (Entry spot number mistake) = IsMistaken text spot number mistake
IsRefusal text today (Expired spot number) =
    (ms : Members) × IsDocument text ms × (is_top ms ≡ true) × (mistaken_from 0 (races_in ms) ≡ None) × IsOutdated text today (races_in ms) spot number
IsRefusal text today OutOfMemory = ⊤
