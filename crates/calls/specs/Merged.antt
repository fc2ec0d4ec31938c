-- What `merge` takes in of a file, and what it writes of the parts. All notions here are this project's own.
use Rattle.std.specs.Prelude.{◌≡◌, ℕ, Bool, List, IfSome, Vec, Option, None, Result, Ok, Err, ⊤, length, map}
use Rattle.std.specs.BTreeMap.{BTreeMap}
use Rattle.std.specs.declared.alloc.Global.{Global}
use Rattle.std.specs.Io.KnownBytes.{Appends}
use Rattle.client_scripts.specs.Replay.{AppendsPart}
use Rattle.client_scripts.specs.Steps.{IsInput}
use Rattle.client_scripts.specs.declared.fault.ReplayFault.TheVariants.{Write, OutOfMemory as NoMemory}
use Rattle.race_parts.specs.Cells.{AreSorted, row_said, rows_in}
use Rattle.race_parts.specs.Merging.{ClashesIn, Gives, IsRefused}
use Rattle.race_parts.specs.Objects.{merged_lines}
use Rattle.race_parts.specs.Parts.{AreThere, joined, text_at, told_in}
use Rattle.race_parts.specs.Texts.{heads_count, merged_words}
use Rattle.race_parts.specs.declared.cells.Cell.{Cell}
use Rattle.race_parts.specs.declared.cells.Row.{Row}
use Rattle.race_parts.specs.declared.lines.PartRefusal.{PartRefusal}
use Rattle.race_parts.specs.declared.lines.PartRefusal.TheVariants.{Line as WrongLine, Version as OtherVersion, Clash as TwoParts, OutOfMemory}
use Rattle.race_parts.specs.declared.parts.Part.{Part}
use Rattle.calls.specs.declared.merge_fault.MergeFault.{MergeFault}
use Rattle.calls.specs.declared.merge_fault.MergeFault.TheVariants.{Replay, Line, Version, Clash}

-- parts by their names
abbrev pub Named : Type 0
Named = BTreeMap (Vec ℕ Global) Part

-- a refusal, as the call has it
abbrev pub fault_of : PartRefusal → MergeFault
fault_of (WrongLine line) = Line line
fault_of OtherVersion = Version
fault_of (TwoParts file) = Clash file
fault_of OutOfMemory = Replay NoMemory

-- The bytes that were read give parts, and with them each name has the text that it had, or else the one that it is given.
abbrev pub IsTaken : Option (List ℕ) → List ℕ → Named → Named → Type 0
IsTaken rest name old new =
    (bytes : List ℕ) × (given : List (List ℕ × List ℕ))
    × IfSome rest (λ told. bytes ≡ told) × Gives name bytes given
    × ((q : Vec ℕ Global) → text_at new q ≡ joined (text_at old q) (told_in given q.items))

-- The bytes that were read give parts, and each such part is in `new`.
abbrev pub AreTakenIn : Option (List ℕ) → List ℕ → Named → Type 0
AreTakenIn rest name new =
    (bytes : List ℕ) × (given : List (List ℕ × List ℕ)) × IfSome rest (λ told. bytes ≡ told) × Gives name bytes given × AreThere new given

-- Why a file of this name and number is not taken in among parts: it is not read, or what is read is refused. At a clash a part of it has the
-- name of another part, which has another text and comes from the file of the last number.
abbrev pub IsUntaken : Named → ℕ → List ℕ → Option (List ℕ) → MergeFault → Type 0
IsUntaken old file name rest (Replay NoMemory) = ⊤
IsUntaken old file name rest (Replay fault) = IsInput file rest (Err fault)
IsUntaken old file name rest (Line line) = (bytes : List ℕ) × IfSome rest (λ told. bytes ≡ told) × IsRefused bytes (WrongLine line)
IsUntaken old file name rest Version = (bytes : List ℕ) × IfSome rest (λ told. bytes ≡ told) × IsRefused bytes OtherVersion
IsUntaken old file name rest (Clash other) = (bytes : List ℕ) × IfSome rest (λ told. bytes ≡ told) × ClashesIn old name bytes file other

-- The text reports the rows of all parts, in the order of their keys; it has `races` races.
pub record IsMergedText (parts : Named) (apart : Bool) (races : ℕ) (text : List ℕ) : Type 0 where
  pub rows : List Row
  pub cells : List Cell
  pub all : map row_said rows ≡ rows_in parts.entries
  pub sorted : AreSorted (map row_said rows) cells
  pub is : text ≡ merged_words (length parts.entries) rows cells apart
  pub races_is : races ≡ heads_count 0 None cells

-- The same as JSON.
pub record IsMergedJson (parts : Named) (races : ℕ) (text : List ℕ) : Type 0 where
  pub rows : List Row
  pub cells : List Cell
  pub all : map row_said rows ≡ rows_in parts.entries
  pub sorted : AreSorted (map row_said rows) cells
  pub is : text ≡ merged_lines parts.entries cells
  pub races_is : races ≡ heads_count 0 None cells

-- What was written: the whole text; or the writer failed, and it is a beginning of the text; or memory ran out, and it
-- is nothing.
abbrev pub IsWritten : Named → Bool → Option (List ℕ) → Option (List ℕ) → Result ℕ MergeFault → Type 0
IsWritten parts apart old new (Ok races) = (text : List ℕ) × IsMergedText parts apart races text × Appends old new text
IsWritten parts apart old new (Err (Replay Write)) =
    (races : ℕ) × (text : List ℕ) × IsMergedText parts apart races text × AppendsPart old new text
IsWritten parts apart old new (Err fault) = (fault ≡ Replay NoMemory) × (new ≡ old)

abbrev pub IsWrittenJson : Named → Option (List ℕ) → Option (List ℕ) → Result ℕ MergeFault → Type 0
IsWrittenJson parts old new (Ok races) = (text : List ℕ) × IsMergedJson parts races text × Appends old new text
IsWrittenJson parts old new (Err (Replay Write)) = (races : ℕ) × (text : List ℕ) × IsMergedJson parts races text × AppendsPart old new text
IsWrittenJson parts old new (Err fault) = (fault ≡ Replay NoMemory) × (new ≡ old)
