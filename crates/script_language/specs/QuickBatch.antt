-- What is left of a batch whose commands are read one by one. No public clause cites this module.
use Rattle.std.specs.Prelude.{◌≡◌, ℕ, Bool, true, false, List, [], ◌∷◌, ◌++◌, Result, Ok}
use Rattle.std.specs.List.{slice_split}
use Rattle.moves.specs.declared.command.Command.{Command}
use Rattle.script_language.specs.LineWords.{is_separator}
use Rattle.script_language.specs.Scripts.{command_reading}
use Rattle.script_language.specs.declared.refusal.ScriptCause.{ScriptCause}

-- the parts after a separator, or none at the end
abbrev pub parts_behind : Bool → List (List ℕ) → List (List (List ℕ))
parts_behind true words = slice_split is_separator words
parts_behind false words = []

-- The first part of the old words reads as this value. If there are more parts, the new words come after it.
pub record Parts {A : Type 0} (reading : List (List ℕ) → Result A ScriptCause) (old : List (List ℕ)) (value : A) (more : Bool) (new : List (List ℕ)) : Type 0 where
  pub part : List (List ℕ)
  pub split : slice_split is_separator old ≡ part ∷ parts_behind more new
  pub read : reading part ≡ Ok value

-- The first part is read, and its command is appended to the others.
pub record Pushes (old : List (List ℕ)) (before : List Command) (more : Bool) (new : List (List ℕ)) (after : List Command) : Type 0 where
  pub command : Command
  pub parts : Parts command_reading old command more new
  pub pushed : after ≡ before ++ command ∷ []
