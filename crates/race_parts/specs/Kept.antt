-- What a part keeps of its rows, besides its text. All notions here are this project's own.
use Rattle.std.specs.Prelude.{◌≡◌, ℕ, List, ◌++◌, ◌∷◌, map, drop, take, Vec, Option, IfSome}
use Rattle.std.specs.declared.alloc.Global.{Global}
use Rattle.race_parts.specs.Lines.{HasNoFeed, lines_of}
use Rattle.race_parts.specs.Said.{Said, known_said, said_in}
use Rattle.race_parts.specs.declared.kept.KeptRow.{KeptRow}
use Rattle.race_parts.specs.declared.kept.Piece.{Piece}
use Rattle.race_parts.specs.declared.scan.Known.{Known}

-- the bytes of a piece of the text
abbrev pub piece_in : List ℕ → Piece → List ℕ
piece_in text p = take p.len (drop p.from text)

-- the row that a kept row describes
abbrev pub kept_said : List ℕ → List ℕ → KeptRow → Said
kept_said name text k = record {
  part = name;
  line = piece_in text k.line;
  one = piece_in text k.one;
  other = piece_in text k.other;
  rank = k.rank;
  size = k.size;
  later = k.later;
  earlier = k.earlier;
}

-- the kept row describes the row in this line
abbrev pub IsKeptOf : List ℕ → List ℕ → KeptRow → Type 0
IsKeptOf text line k = (name : List ℕ) → kept_said name text k ≡ said_in name line

-- the kept row describes the row in this line, for which these facts are known
abbrev pub HasKnown : List ℕ → List ℕ → Known → KeptRow → Type 0
HasKnown text line known k = (name : List ℕ) → kept_said name text k ≡ known_said name line known

-- The kept row describes the first line of `rest`, and `behind` is the text after that line.
pub record IsRowOn (text rest behind : List ℕ) (k : KeptRow) : Type 0 where
  pub line : List ℕ
  pub cut : rest ≡ line ++ 10 ∷ behind
  pub one : HasNoFeed line
  pub said : IsKeptOf text line k

-- The kept rows, and then the rows in `rest`, are the rows of the text.
abbrev pub IsKeeping : List ℕ → List ℕ → List KeptRow → Type 0
IsKeeping text rest ks =
    (name : List ℕ) → map (kept_said name text) ks ++ map (said_in name) (lines_of rest) ≡ map (said_in name) (drop 1 (lines_of text))

-- If the part keeps rows, they are the rows of the text.
abbrev pub AreKept : List ℕ → Option (Vec KeptRow Global) → Type 0
AreKept text rows = IfSome rows (λ ks. (name : List ℕ) → map (kept_said name text) ks.items ≡ map (said_in name) (drop 1 (lines_of text)))
