-- What is written of a merged report as a log, and as a page. All notions here are this project's own.
use Rattle.std.specs.Prelude.{◌≡◌, ℕ, Bool, List, Vec, Option, None, Result, Ok, Err, length, map}
use Rattle.std.specs.BTreeMap.{BTreeMap}
use Rattle.std.specs.Io.KnownBytes.{Appends}
use Rattle.std.specs.declared.alloc.Global.{Global}
use Rattle.client_scripts.specs.Replay.{AppendsPart}
use Rattle.client_scripts.specs.declared.fault.ReplayFault.TheVariants.{OutOfMemory, Write}
use Rattle.race_parts.specs.Cells.{AreSorted, row_said, rows_in}
use Rattle.race_parts.specs.Pairs.{pair_shown, pairs_shown}
use Rattle.race_parts.specs.Texts.{heads_count}
use Rattle.race_parts.specs.declared.cells.Cell.{Cell}
use Rattle.race_parts.specs.declared.cells.Row.{Row}
use Rattle.race_parts.specs.declared.pairs.Pair.{Pair}
use Rattle.race_parts.specs.declared.parts.Part.{Part}
use Rattle.race_page.specs.Merged.{merged_text}
use Rattle.race_page.specs.declared.merged_head.LeftOut.{LeftOut}
use Rattle.triage_report.specs.sarif.Merged.{merged_log}
use Rattle.calls.specs.declared.triage.fault.TriageFault.{TriageFault}
use Rattle.calls.specs.declared.triage.fault.TriageFault.TheVariants.{Replay}
use Rattle.calls.specs.declared.triage.merging.MergedLog.{MergedLog}

-- The text is a log with a result for each pair of places that a report of the parts has, in its order. `races` pairs are races.
pub record IsMergedLog (parts : BTreeMap (Vec ℕ Global) Part) (log : MergedLog) (races : ℕ) (text : List ℕ) : Type 0 where
  pub rows : List Row
  pub cells : List Cell
  pub pairs : List Pair
  pub all : map row_said rows ≡ rows_in parts.entries
  pub sorted : AreSorted (map row_said rows) cells
  pub shown : map pair_shown pairs ≡ pairs_shown rows cells log.apart
  pub is : text ≡ merged_log (length parts.entries) log.sources pairs None None
  pub races_is : races ≡ heads_count 0 None cells

-- What was written: the whole log; or the writer failed, and it is a beginning of the log; or memory ran out, and it is
-- nothing.
abbrev pub IsLogWritten : BTreeMap (Vec ℕ Global) Part → MergedLog → Option (List ℕ) → Option (List ℕ) → Result ℕ TriageFault → Type 0
IsLogWritten parts log old new (Ok races) = (text : List ℕ) × IsMergedLog parts log races text × Appends old new text
IsLogWritten parts log old new (Err (Replay Write)) = (races : ℕ) × (text : List ℕ) × IsMergedLog parts log races text × AppendsPart old new text
IsLogWritten parts log old new (Err fault) = (fault ≡ Replay OutOfMemory) × (new ≡ old)

-- nothing was left out
abbrev pub none_left : LeftOut
none_left = record {
  known = None;
  hidden = None;
}

-- The text is a page with a row for each pair of places that a report of the parts has, in its order. `races` pairs are races.
pub record IsMergedPage (parts : BTreeMap (Vec ℕ Global) Part) (apart : Bool) (races : ℕ) (text : List ℕ) : Type 0 where
  pub rows : List Row
  pub cells : List Cell
  pub pairs : List Pair
  pub all : map row_said rows ≡ rows_in parts.entries
  pub sorted : AreSorted (map row_said rows) cells
  pub shown : map pair_shown pairs ≡ pairs_shown rows cells apart
  pub is : text ≡ merged_text (length parts.entries) pairs apart none_left
  pub races_is : races ≡ heads_count 0 None cells

-- What was written: the whole page; or the writer failed, and it is a beginning of the page; or memory ran out, and it
-- is nothing.
abbrev pub IsPageWritten : BTreeMap (Vec ℕ Global) Part → Bool → Option (List ℕ) → Option (List ℕ) → Result ℕ TriageFault → Type 0
IsPageWritten parts apart old new (Ok races) = (text : List ℕ) × IsMergedPage parts apart races text × Appends old new text
IsPageWritten parts apart old new (Err (Replay Write)) = (races : ℕ) × (text : List ℕ) × IsMergedPage parts apart races text × AppendsPart old new text
IsPageWritten parts apart old new (Err fault) = (fault ≡ Replay OutOfMemory) × (new ≡ old)
