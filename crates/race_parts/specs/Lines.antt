-- Texts that are lines of JSON values, and the line at which another text stops. All notions here are this project's
-- own.
use Rattle.std.specs.Prelude.{◌≡◌, ◌≢◌, ◌≤◌, ◌<◌, ◌⊎◌, ℕ, List, [], ◌∷◌, ◌++◌, length, cond, nat_eq, Some, None, IsUtf8, slice_index, ⊤}
use Rattle.serde_json.specs.Data.{Data}
use Rattle.serde_json.specs.Read.{read}
use Rattle.race_parts.specs.declared.lines.PartRefusal.{PartRefusal}
use Rattle.race_parts.specs.declared.lines.PartRefusal.TheVariants.{Line, Version, Clash, OutOfMemory}

-- the most lines of a text
abbrev pub line_count_limit : ℕ
line_count_limit = 4194304

-- no byte is a line feed
abbrev pub HasNoFeed : List ℕ → Type 0
HasNoFeed bytes = (k : ℕ) → k < length bytes → slice_index bytes k ≢ 10

-- the bytes are JSON for this value
abbrev pub Tells : List ℕ → Data → Type 0
Tells bytes d = IsUtf8 bytes × (read bytes ≡ Some d)

-- The lines of the text are these values, in order. Each line ends with a line feed.
pub data AreLines : List ℕ → List Data → Type 0 where
  none : AreLines [] []
  another : (done bytes : List ℕ) (ds : List Data) (d : Data) → AreLines done ds → HasNoFeed bytes → Tells bytes d → AreLines (done ++ bytes ++ 10 ∷ []) (ds ++ d ∷ [])

-- rest does not begin with a further line: it has no line feed, or its first line is not JSON, or the limit of lines
-- is reached
abbrev pub IsNoLine : ℕ → List ℕ → Type 0
IsNoLine before rest =
    HasNoFeed rest
    ⊎ ((line_count_limit ≤ before)
    ⊎ ((bytes behind : List ℕ) × (rest ≡ bytes ++ 10 ∷ behind) × HasNoFeed bytes × (IsUtf8 bytes → read bytes ≡ None)))

-- The text stops at the line with this 0-based index. The lines before it are JSON values, more text follows, and
-- that text does not begin with a further line.
pub record StopsAt (text : List ℕ) (line : ℕ) : Type 0 where
  pub done : List ℕ
  pub rest : List ℕ
  pub before : List Data
  pub all : text ≡ done ++ rest
  pub read : AreLines done before
  pub more : rest ≢ []
  pub line_is : line ≡ length before
  pub wrong : IsNoLine (length before) rest

-- the text begins with this line, and `behind` is what follows its line feed
abbrev pub IsLineCut : List ℕ → List ℕ → List ℕ → Type 0
IsLineCut text line behind = (text ≡ line ++ 10 ∷ behind) × HasNoFeed line

-- the reason why the lines of a text cannot be read
abbrev pub IsUnread : List ℕ → PartRefusal → Type 0
IsUnread text (Line line) = StopsAt text line
IsUnread text Version = ⊥
IsUnread text (Clash file) = ⊥
IsUnread text OutOfMemory = ⊤

-- The first line of the text is this value, and `behind` is the text after that line.
pub record IsReadOn (text behind : List ℕ) (d : Data) : Type 0 where
  pub bytes : List ℕ
  pub cut : text ≡ bytes ++ 10 ∷ behind
  pub one : HasNoFeed bytes
  pub tells : Tells bytes d

-- the reason why the next line cannot be read, after this many lines
abbrev pub IsStopped : ℕ → List ℕ → PartRefusal → Type 0
IsStopped before text (Line line) = (line ≡ before) × IsNoLine before text
IsStopped before text Version = ⊥
IsStopped before text (Clash file) = ⊥
IsStopped before text OutOfMemory = ⊤

-- adds a byte in front of the first line; drops it if there is no line
abbrev pub begin_line : ℕ → List (List ℕ) → List (List ℕ)
begin_line b [] = []
begin_line b (l ∷ ls) = (b ∷ l) ∷ ls

-- the lines of a text, without their line feeds
unfoldable pub lines_of : List ℕ → List (List ℕ)
lines_of [] = []
lines_of (b ∷ bs) = cond (nat_eq b 10) ([] ∷ lines_of bs) (begin_line b (lines_of bs))
