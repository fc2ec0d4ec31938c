-- What a page is made of. `r` is the recording of its trace.
use Rattle.std.specs.Prelude.{◌≡◌, ◌≤◌, ◌⊎◌, ℕ, Bool, false, List, [], ◌∷◌, ◌++◌, length, decimal, None, Result, OnOk, Vec}
use Rattle.std.specs.declared.alloc.Global.{Global}
use Rattle.markup.specs.Escaped.{escaped}
use Rattle.rapid_text.specs.Recording.{Recording}
use Rattle.schedule.specs.Reordering.{IsCorrectReordering}
use Rattle.schedule.specs.Shows.{Shows}
use Rattle.witness_search.specs.trace_order.Orders.{IsTurned}
use Rattle.witness_search.specs.trace_order.Refusals.{IsNeverShownInOrder}
use Rattle.explain_report.specs.findings.Findings.{IsShownByNone}
use Rattle.explain_report.specs.picture.Pictures.{IsFigure}
use Rattle.race_triage.specs.Texts.{AreTotals}
use Rattle.race_triage.specs.declared.chosen.Chosen.{Chosen}
use Rattle.race_triage.specs.declared.totals.Totals.{Totals}
use Rattle.race_triage.specs.declared.verdicts.Verdict.{Verdict}
use Rattle.race_triage.specs.declared.verdicts.Verdicts.{Verdicts}
use Rattle.race_page.specs.Counts.{counts_text}
use Rattle.race_page.specs.Heads.{IsFileOf, page_begin}
use Rattle.race_page.specs.Own.{begin_text, end_text, part_text, row_text}
use Rattle.race_page.specs.Rows.{all_rows, followed_in, is_sort}
use Rattle.race_page.specs.Told.{IsTold}
use Rattle.race_page.specs.declared.about.About.{About}
use Rattle.race_page.specs.declared.merged_head.LeftOut.{LeftOut}
use Rattle.race_page.specs.declared.own.Part.{Part}
use Rattle.race_page.specs.declared.own.Tag.{Tag}
use Rattle.race_page.specs.declared.shown.Shown.{Shown}
use Rattle.race_page.specs.declared.shown.Sort.{Sort}
use Rattle.race_page.specs.declared.shown.Sort.TheVariants.{Race as RaceSort}

-- The text is a piece of a page: own markup of the closed list, numbers, and texts that are escaped.
pub data IsPiece : List ℕ → Type 0 where
  empty : IsPiece []
  begin : (tag : Tag) (m : List ℕ) → IsPiece m → IsPiece (m ++ begin_text tag)
  finish : (tag : Tag) (m : List ℕ) → IsPiece m → IsPiece (m ++ end_text tag)
  part : (part : Part) (m : List ℕ) → IsPiece m → IsPiece (m ++ part_text part)
  number : (n : ℕ) (m : List ℕ) → IsPiece m → IsPiece (m ++ decimal n)
  text : (bytes m : List ℕ) → IsPiece m → IsPiece (m ++ escaped bytes)
  piece : (p m : List ℕ) → IsPiece p → IsPiece m → IsPiece (m ++ p)

-- The text draws a schedule of the trace, a correct reordering that shows the pair. The description of the figure lists
-- its events if there are at most 2,000, and else counts them. Its shapes are those of the schedule.
pub record IsDrawn (r : Recording) (a b : ℕ) (text : List ℕ) : Type 0 where
  pub events : List ℕ
  pub reordering : IsCorrectReordering r.events events
  pub shows : Shows r.events events a b
  pub figure : IsFigure r events a b text

-- what contracts see of a page that is being written
pub record Made : Type 0 where
  pub trace : Recording
  pub text : List ℕ
  pub rows : List Shown

-- Why no schedule of the pair is drawn: the trace has no such events; no correct reordering shows the pair; or no list in the order of the
-- trace shows it, and a search of 1,048,576 steps found nothing.
pub data HasNoSchedule (r : Recording) (a b : ℕ) : Type 0 where
  outside : (length r.events ≤ a) ⊎ (length r.events ≤ b) → HasNoSchedule r a b
  never : IsShownByNone r.events a b → HasNoSchedule r a b
  unfound : IsNeverShownInOrder r.events a b → IsTurned r.events a b 1048576 None → HasNoSchedule r a b

-- a row of this sort needs no picture after `before` rows: it is no race, or 200 rows come before it
abbrev pub NeedsNoPicture : Sort → ℕ → Type 0
NeedsNoPicture sort before = (is_sort sort RaceSort ≡ false) ⊎ (200 ≤ before)

-- the row may have no picture
abbrev pub MayBePlain : Recording → Shown → ℕ → Type 0
MayBePlain r shown before = NeedsNoPicture shown.sort before ⊎ HasNoSchedule r shown.first shown.second

-- The text comes after the first line of a page with these rows: pieces, rows, and rows in which a schedule that shows the row's pair is
-- drawn between two pieces. Each row says what was found of its verdict. The first 200 races have a picture if there is a schedule.
pub data AreParts (r : Recording) : List ℕ → List Shown → Type 0 where
  none : AreParts r [] []
  piece : (p m : List ℕ) (rows : List Shown) → IsPiece p → AreParts r m rows → AreParts r (m ++ p) rows
  row :
      (shown : Shown) (told p m : List ℕ) (rows : List Shown) → IsPiece told → IsTold r shown.verdict told → MayBePlain r shown (length rows) → IsPiece p
      → AreParts r m rows → AreParts r (m ++ row_text shown (told ++ p)) (rows ++ shown ∷ [])
  drawn :
      (shown : Shown) (told before figure after m : List ℕ) (rows : List Shown) → IsPiece told → IsTold r shown.verdict told → IsPiece before
      → IsDrawn r shown.first shown.second figure → IsPiece after → AreParts r m rows
      → AreParts r (m ++ row_text shown (told ++ before ++ figure ++ after)) (rows ++ shown ∷ [])

-- with such a row the page has these parts
abbrev pub IsRowOf : Made → Shown → List ℕ → Type 0
IsRowOf page shown body = AreParts page.trace (page.text ++ row_text shown body) (page.rows ++ shown ∷ [])

-- The text is the end of a page of the trace, of which these are the verdicts: the table of its counts, between two pieces.
pub record IsEnd (r : Recording) (vs : List Verdict) (text : List ℕ) : Type 0 where
  pub totals : Totals
  pub counted : AreTotals r vs totals
  pub left : List ℕ
  pub behind : List ℕ
  pub printed : text ≡ left ++ counts_text totals ++ behind
  pub begun : IsPiece left
  pub ended : IsPiece behind

-- The text is a page of the trace at this path with these rows; `vs` are the verdicts on all pairs of locations. It begins with the head, which has the policy,
-- and with its first line. That line says how many races were chosen, of which file, and what was left out. At the end of the page are the counts of the whole
-- trace.
pub record IsPage (r : Recording) (vs : List Verdict) (races : ℕ) (left : LeftOut) (path text : List ℕ) (rows : List Shown) : Type 0 where
  pub file : List ℕ
  pub named : IsFileOf path file
  pub parts : List ℕ
  pub end : List ℕ
  pub printed : text ≡ page_begin races file left ++ parts ++ end
  pub made : AreParts r parts rows
  pub closed : IsEnd r vs end

-- how much the choice of verdicts left out
abbrev pub left_of : Chosen → LeftOut
left_of chosen = record {
  known = chosen.known;
  hidden = chosen.hidden;
}

-- The text is a page of the trace, of which these are the verdicts, with a row for each chosen verdict. The page is
-- about what `about` says.
abbrev pub IsChosenPage : Recording → Verdicts → Chosen → Bool → About → List ℕ → Type 0
IsChosenPage r found chosen apart about bytes =
    IsPage r found.verdicts.items chosen.races (left_of chosen) about.name.now bytes
    (all_rows r (followed_in about) apart chosen.verdicts.items)

-- Unless the answer is an error, this holds: if `end` is the end of a page with this trace and these rows, such a page
-- was appended.
abbrev pub AppendedPage :
    {T E : Type 0} → Result T E → Vec ℕ Global → Vec ℕ Global → Made → List ℕ → ℕ → LeftOut → List ℕ → Type 0
AppendedPage answer old new page end races left path =
    OnOk answer ((vs : List Verdict) → IsEnd page.trace vs end
    → (text : List ℕ) × (new.items ≡ old.items ++ text) × IsPage page.trace vs races left path text page.rows)

-- unless the answer is an error, the page has these rows more; they depend on its trace
abbrev pub AddedRows : {T E : Type 0} → Result T E → Made → Made → (Recording → List Shown) → Type 0
AddedRows answer old new rows = OnOk answer (new.rows ≡ old.rows ++ rows old.trace)

-- the same for one row
abbrev pub AddedRow : {T E : Type 0} → Result T E → Made → Made → (Recording → Shown) → Type 0
AddedRow answer old new shown = AddedRows answer old new (λ r. shown r ∷ [])
