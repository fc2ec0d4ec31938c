-- Which texts `record/confirm` writes, and why another text is refused. All notions here are this project's own.
use Rattle.std.specs.Prelude.{◌≡◌, ◌≢◌, ◌≤◌, ◌<◌, ◌+◌, ◌⊎◌, ℕ, true, List, [], ◌∷◌, ◌++◌, length, Some, IsUtf8, slice_index, ⊤}
use Rattle.serde_json.specs.Data.{Data}
use Rattle.serde_json.specs.Read.{read}
use Rattle.followed_races.specs.Entries.{is_entry, IsSaid}
use Rattle.followed_races.specs.declared.entries.Followed.{Followed}
use Rattle.followed_races.specs.declared.lines.FollowedRefusal.{FollowedRefusal}
use Rattle.followed_races.specs.declared.lines.FollowedRefusal.TheVariants.{Line, OutOfMemory}

-- the most lines of a text
abbrev pub line_count_limit : ℕ
line_count_limit = 16384

-- the most bytes of a line, without its line feed
abbrev pub line_limit : ℕ
line_limit = 65536

-- no byte is a line feed
abbrev pub HasNoFeed : List ℕ → Type 0
HasNoFeed bytes = (k : ℕ) → k < length bytes → slice_index bytes k ≢ 10

-- the bytes are the JSON text of a value that has what a line must have
pub record IsEntryOf (bytes : List ℕ) (d : Data) : Type 0 where
  pub short : length bytes ≤ line_limit
  pub utf8 : IsUtf8 bytes
  pub value : read bytes ≡ Some d
  pub entry : is_entry d ≡ true

-- the line has the values of the entry
abbrev pub Tells : List ℕ → Followed → Type 0
Tells bytes f = (d : Data) × IsEntryOf bytes d × IsSaid d f

-- The text is lines with the values of these entries, one after another. Each line ends with a line feed.
pub data AreLines : List ℕ → List Followed → Type 0 where
  none : AreLines [] []
  another : (done bytes : List ℕ) (fs : List Followed) (f : Followed) → AreLines done fs → HasNoFeed bytes → Tells bytes f → AreLines (done ++ bytes ++ 10 ∷ []) (fs ++ f ∷ [])

-- the rest does not begin with a further line: it has no line feed, or its first line has no entry, or there are too
-- many lines
abbrev pub IsNoLine : ℕ → List ℕ → Type 0
IsNoLine before rest =
    HasNoFeed rest
    ⊎ ((line_count_limit ≤ before)
    ⊎ ((bytes behind : List ℕ) × (rest ≡ bytes ++ 10 ∷ behind) × HasNoFeed bytes × ¬ ((d : Data) × IsEntryOf bytes d)))

-- The text is refused at this line, counted from 1. The lines before it have entries, more text follows, and that text
-- does not begin with a further line.
pub record IsRefusedAt (text : List ℕ) (line : ℕ) : Type 0 where
  pub done : List ℕ
  pub rest : List ℕ
  pub before : List Followed
  pub all : text ≡ done ++ rest
  pub read : AreLines done before
  pub more : rest ≢ []
  pub line_is : line ≡ length before + 1
  pub wrong : IsNoLine (length before) rest

-- the reason why a text is refused
abbrev pub IsRefusal : List ℕ → FollowedRefusal → Type 0
IsRefusal text (Line line) = IsRefusedAt text line
IsRefusal text OutOfMemory = ⊤

-- The first line of a text was read after these entries, and its entry was added.
pub record IsReadOn (before : List Followed) (text behind : List ℕ) (after : List Followed) : Type 0 where
  pub bytes : List ℕ
  pub entry : Followed
  pub cut : text ≡ bytes ++ 10 ∷ behind
  pub one : HasNoFeed bytes
  pub tells : Tells bytes entry
  pub more : after ≡ before ++ entry ∷ []

-- the reason why the next line cannot be read, after this many entries
abbrev pub IsStopped : ℕ → List ℕ → FollowedRefusal → Type 0
IsStopped before text (Line line) = (line ≡ before + 1) × IsNoLine before text
IsStopped before text OutOfMemory = ⊤
