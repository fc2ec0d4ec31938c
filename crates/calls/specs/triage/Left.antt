-- What is written of a merged report in which pairs of locations are left out. All notions here are this project's own.
use Rattle.std.specs.Prelude.{◌≡◌, ℕ, Bool, List, [], ◌∷◌, ◌++◌, Vec, Option, Some, None, Result, Ok, Err, codes, decimal, length, map}
use Rattle.std.specs.BTreeMap.{BTreeMap}
use Rattle.std.specs.List.{after_first, concat}
use Rattle.std.specs.Io.KnownBytes.{Appends}
use Rattle.std.specs.declared.alloc.Global.{Global}
use Rattle.client_scripts.specs.Replay.{AppendsPart}
use Rattle.client_scripts.specs.declared.fault.ReplayFault.TheVariants.{OutOfMemory, Write}
use Rattle.calls.specs.triage.Leaving.{IsLeft}
use Rattle.calls.specs.declared.triage.leaving.choosing.Left.{Left}
use Rattle.race_page.specs.Merged.{merged_text}
use Rattle.race_page.specs.declared.merged_head.LeftOut.{LeftOut}
use Rattle.race_parts.specs.Cells.{AreSorted, row_said, rows_in}
use Rattle.race_parts.specs.Objects.{merged_lines, news_count}
use Rattle.race_parts.specs.Pairs.{pair_shown, pairs_shown}
use Rattle.race_parts.specs.Texts.{heads_count, merged_words}
use Rattle.race_parts.specs.declared.cells.Cell.{Cell}
use Rattle.race_parts.specs.declared.cells.Row.{Row}
use Rattle.race_parts.specs.declared.pairs.Pair.{Pair}
use Rattle.race_parts.specs.declared.parts.Part.{Part}
use Rattle.triage_report.specs.sarif.Merged.{merged_log}
use Rattle.triage_report.specs.declared.sarif.sources.Sources.{Sources}
use Rattle.rapid_text.specs.Reading.{is_line_feed}
use Rattle.calls.specs.declared.triage.fault.TriageFault.{TriageFault}
use Rattle.calls.specs.declared.triage.fault.TriageFault.TheVariants.{Replay}
use Rattle.calls.specs.declared.triage.left.MergedAsked.{MergedAsked}
use Rattle.calls.specs.declared.triage.left.MergedForm.{MergedForm}
use Rattle.calls.specs.declared.triage.left.MergedForm.TheVariants.{Text, Json, Sarif, Page}

-- a word and a number, if there is one
abbrev pub count_text : List ℕ → Option ℕ → List ℕ
count_text word None = []
count_text word (Some n) = concat (word ∷ codes " " ∷ decimal n ∷ codes "\n" ∷ [])

-- the text of what stays, and then how many pairs of locations were left out
abbrev pub word_text : ℕ → List Row → Left → Bool → List ℕ
word_text parts rows left apart =
    merged_words parts rows left.cells.items apart ++ count_text (codes "known") left.known ++ count_text (codes "hidden") left.hidden

-- a member of an object, if there is a number
abbrev pub member_text : List ℕ → Option ℕ → List ℕ
member_text name None = []
member_text name (Some n) = concat (name ∷ decimal n ∷ codes "," ∷ [])

-- the first line of JSON, which counts also what was left out
abbrev pub head_text : ℕ → ℕ → Option ℕ → Option ℕ → List ℕ
head_text parts pairs known hidden =
    codes "{" ++ member_text (codes "\"hidden\":") hidden ++ codes "\"kind\":\"merged\"," ++ member_text (codes "\"known\":") known
    ++ concat (codes "\"pairs\":" ∷ decimal pairs ∷ codes ",\"parts\":" ∷ decimal parts ∷ codes ",\"version\":1}\n" ∷ [])

-- That line, and after it the lines of what stays: each part whole, and each pair of locations.
abbrev pub json_text : List (Vec ℕ Global × Part) → Left → List ℕ
json_text es left =
    head_text (length es) (news_count None left.cells.items) left.known left.hidden
    ++ after_first is_line_feed (merged_lines es left.cells.items)

-- how many pairs of locations were left out
abbrev pub left_out : Left → LeftOut
left_out left = record {
  known = left.known;
  hidden = left.hidden;
}

-- a log, and a page, of what stays, which count also what was left out
abbrev pub IsLogOf : ℕ → List Row → Left → Bool → Sources → List ℕ → Type 0
IsLogOf parts rows left apart sources text =
    (pairs : List Pair) × (map pair_shown pairs ≡ pairs_shown rows left.cells.items apart) × (text ≡ merged_log parts sources pairs left.known left.hidden)

abbrev pub IsPageOf : ℕ → List Row → Left → Bool → List ℕ → Type 0
IsPageOf parts rows left apart text =
    (pairs : List Pair) × (map pair_shown pairs ≡ pairs_shown rows left.cells.items apart) × (text ≡ merged_text parts pairs apart (left_out left))

-- what stays, in this form
abbrev pub IsLeftText : MergedForm → List (Vec ℕ Global × Part) → List Row → Left → Bool → List ℕ → Type 0
IsLeftText Text es rows left apart text = text ≡ word_text (length es) rows left apart
IsLeftText Json es rows left apart text = text ≡ json_text es left
IsLeftText (Sarif sources) es rows left apart text = IsLogOf (length es) rows left apart sources text
IsLeftText Page es rows left apart text = IsPageOf (length es) rows left apart text

-- The text has what stays of the rows of all parts, in the order of their keys, with `races` races.
pub record IsLeftTold (parts : BTreeMap (Vec ℕ Global) Part) (asked : MergedAsked) (races : ℕ) (text : List ℕ) : Type 0 where
  pub rows : List Row
  pub cells : List Cell
  pub left : Left
  pub all : map row_said rows ≡ rows_in parts.entries
  pub sorted : AreSorted (map row_said rows) cells
  pub is_left : IsLeft rows cells asked.choice left
  pub is : IsLeftText asked.form parts.entries rows left asked.apart text
  pub races_is : races ≡ heads_count 0 None left.cells.items

-- What was written: the whole text; or the writer failed, and it is a beginning of it; or, if memory runs out, nothing.
abbrev pub IsLeftWritten : BTreeMap (Vec ℕ Global) Part → MergedAsked → Option (List ℕ) → Option (List ℕ) → Result ℕ TriageFault → Type 0
IsLeftWritten parts asked old new (Ok races) = (text : List ℕ) × IsLeftTold parts asked races text × Appends old new text
IsLeftWritten parts asked old new (Err (Replay Write)) = (races : ℕ) × (text : List ℕ) × IsLeftTold parts asked races text × AppendsPart old new text
IsLeftWritten parts asked old new (Err fault) = (fault ≡ Replay OutOfMemory) × (new ≡ old)
