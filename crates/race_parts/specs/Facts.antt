-- What the program reads from a line. All notions here are this project's own.
use Rattle.std.specs.Prelude.{◌≡◌, ℕ, nat_eq, cond, true, List, None, unwrap_or, codes}
use Rattle.std.specs.Str.{is_utf8}
use Rattle.serde_json.specs.Data.{Data, null}
use Rattle.serde_json.specs.Read.{read}
use Rattle.serde_json.specs.View.{view}
use Rattle.race_parts.specs.Accesses.{event_in, location_in, rank_of, size_of}
use Rattle.race_parts.specs.Members.{is_kind}
use Rattle.race_parts.specs.Rows.{is_row}
use Rattle.race_parts.specs.declared.facts.Fact.{Fact}
use Rattle.race_parts.specs.declared.facts.Fact.TheVariants.{Known as of_row, Other as of_value}
use Rattle.race_parts.specs.declared.scan.Known.{Known}

-- the JSON value of a line; null if it is not JSON
abbrev pub data_in : List ℕ → Data
data_in line = unwrap_or (cond (is_utf8 line) (read line) None) null

-- the facts k are true of the row d
pub record IsKnown (k : Known) (d : Data) : Type 0 where
  pub row : is_row d ≡ true
  pub race : is_kind (codes "race") d ≡ nat_eq k.rank 0
  pub undecided : is_kind (codes "undecided") d ≡ nat_eq k.rank 1
  pub apart : is_kind (codes "apart") d ≡ nat_eq k.rank 2
  pub one : location_in 0 d ≡ k.one.now
  pub other : location_in 1 d ≡ k.other.now
  pub rank : rank_of d ≡ k.rank
  pub size : size_of d ≡ k.size
  pub later : event_in 1 d ≡ k.later
  pub earlier : event_in 0 d ≡ k.earlier

-- a fact that was read from a line is true of the line's value
abbrev pub Says : Fact → Data → Type 0
Says (of_row k) d = IsKnown k d
Says (of_value v) d = view v ≡ d
