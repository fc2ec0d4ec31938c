-- The values of a row by which it is sorted. All notions here are this project's own.
use Rattle.std.specs.Prelude.{◌≡◌, ℕ, List}
use Rattle.serde_json.specs.Data.{Data}
use Rattle.serde_json.specs.View.{view}
use Rattle.race_parts.specs.Accesses.{event_in, location_in, rank_of, size_of}
use Rattle.race_parts.specs.Facts.{data_in}
use Rattle.race_parts.specs.declared.facts.Fact.{Fact}
use Rattle.race_parts.specs.declared.facts.Fact.TheVariants.{Known as of_row, Other as of_value}
use Rattle.race_parts.specs.declared.scan.Known.{Known}

-- a row: the name of its part, its line, and the values of its sort key
pub record Said : Type 0 where
  pub part : List ℕ
  pub line : List ℕ
  pub one : List ℕ
  pub other : List ℕ
  pub rank : ℕ
  pub size : ℕ
  pub later : ℕ
  pub earlier : ℕ

-- a row whose line has this value
abbrev pub said_by : List ℕ → List ℕ → Data → Said
said_by name line d = record {
  part = name;
  line = line;
  one = location_in 0 d;
  other = location_in 1 d;
  rank = rank_of d;
  size = size_of d;
  later = event_in 1 d;
  earlier = event_in 0 d;
}

-- a row for which these facts are known
abbrev pub known_said : List ℕ → List ℕ → Known → Said
known_said name line k = record {
  part = name;
  line = line;
  one = k.one.now;
  other = k.other.now;
  rank = k.rank;
  size = k.size;
  later = k.later;
  earlier = k.earlier;
}

abbrev pub fact_said : List ℕ → List ℕ → Fact → Said
fact_said name line (of_row k) = known_said name line k
fact_said name line (of_value v) = said_by name line (view v)

-- the row in this line
abbrev pub said_in : List ℕ → List ℕ → Said
said_in name line = said_by name line (data_in line)

-- the fact is what this line says of its row
abbrev pub IsFactOf : List ℕ → Fact → Type 0
IsFactOf line fact = (name : List ℕ) → fact_said name line fact ≡ said_in name line
