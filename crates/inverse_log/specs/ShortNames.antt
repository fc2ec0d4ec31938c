-- How the bytes of a short name are stored: the bytes, and then zeros. No public clause cites this module.
use Rattle.std.specs.Prelude.{◌≡◌, ◌≤◌, ℕ, true, List, length, take}
use Rattle.moves.specs.Names.{is_name}
use Rattle.inverse_log.specs.declared.compact.ShortName.TheInside.{Inside as ShortInside}
use Rattle.inverse_log.specs.declared.compact.TinyName.TheInside.{Inside as TinyInside}

-- the first bytes of the store are a name
pub record HoldsName (room len : ℕ) (padded : List ℕ) : Type 0 where
  pub whole : length padded ≡ room
  pub fits : len ≤ room
  pub named : is_name (take len padded) ≡ true

abbrev pub short_of : ShortInside → List ℕ
short_of n = take n.len n.padded

abbrev pub IsShortName : ShortInside → Type 0
IsShortName n = HoldsName 23 n.len n.padded

abbrev pub tiny_of : TinyInside → List ℕ
tiny_of n = take n.len n.padded

abbrev pub IsTinyName : TinyInside → Type 0
IsTinyName n = HoldsName 11 n.len n.padded
