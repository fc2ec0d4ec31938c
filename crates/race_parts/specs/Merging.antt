-- The parts that a file gives: itself, or the parts of a merged report. All notions here are this project's own.
use Rattle.std.specs.Prelude.{◌≡◌, ◌⊎◌, ℕ, ◌+◌, ◌-◌, nat_eq, nat_lt, Bool, ◌&&◌, not, true, false, cond, All, List, [], ◌∷◌, ◌++◌, length, map, take, position, Option, Some, None, Vec, codes, ⊤}
use Rattle.std.specs.BTreeMap.{BTreeMap}
use Rattle.std.specs.Option.{option_or}
use Rattle.std.specs.declared.alloc.Global.{Global}
use Rattle.serde_json.specs.Data.{Data}
use Rattle.serde_json.specs.View.{view}
use Rattle.serde_json.specs.declared.value.Value.{Value}
use Rattle.race_parts.specs.Lines.{AreLines, StopsAt}
use Rattle.race_parts.specs.Members.{has_number, has_text, is_kind, said_number, said_text}
use Rattle.race_parts.specs.Parts.{AreMerged, AreMergedFrom, AreThere, HasOther, held_at, held_from, single, told_in}
use Rattle.race_parts.specs.Rows.{is_other_version, wrong_line}
use Rattle.race_parts.specs.declared.lines.PartRefusal.{PartRefusal}
use Rattle.race_parts.specs.declared.lines.PartRefusal.TheVariants.{Line, Version, Clash, OutOfMemory}
use Rattle.race_parts.specs.declared.parts.Part.{Part}

-- whether the first line says that the file has another version
abbrev pub is_foreign : List Data → Bool
is_foreign [] = false
is_foreign (d ∷ ds) = is_other_version d

-- whether the first line is that of a merged report
abbrev pub is_merged_head : Data → Bool
is_merged_head d = is_kind (codes "merged") d && has_number (codes "parts") d && has_number (codes "pairs") d

abbrev pub is_merged : List Data → Bool
is_merged [] = false
is_merged (d ∷ ds) = is_merged_head d

-- whether the line is a part's line in a merged report
abbrev pub is_part_line : Data → Bool
is_part_line d = is_kind (codes "part") d && has_text (codes "name") d && has_text (codes "text") d

-- an index plus 1, to count the first line
abbrev pub one_behind : Option ℕ → Option ℕ
one_behind None = None
one_behind (Some at) = Some (at + 1)

-- the number of parts, and the number of pairs of locations, that the first line gives
abbrev pub part_count : Data → ℕ
part_count d = said_number (codes "parts") d

abbrev pub pair_count : Data → ℕ
pair_count d = said_number (codes "pairs") d

-- After the first line come as many lines as it counts, and the parts come first. The content of the pairs' lines
-- does not matter.
abbrev pub wrong_behind_head : Data → List Value → Option ℕ
wrong_behind_head d vs =
    cond (nat_lt (length vs) (part_count d)) (Some (length vs + 1))
    (cond (nat_eq (pair_count d) (length vs - part_count d))
    (one_behind (position (λ v. not (is_part_line (view v))) (take (part_count d) vs)))
    (Some (length vs + 1)))

-- the index of the first line that does not fit into a merged report; None if all fit
abbrev pub wrong_merged : List Value → Option ℕ
wrong_merged [] = Some 0
wrong_merged (v ∷ vs) = wrong_behind_head (view v) vs

-- the part lines of a merged report, and each as a name with a text
abbrev pub part_lines : List Value → List Value
part_lines [] = []
part_lines (v ∷ vs) = take (part_count (view v)) vs

abbrev pub name_told : Value → List ℕ
name_told v = said_text (codes "name") (view v)

abbrev pub text_told : Value → List ℕ
text_told v = said_text (codes "text") (view v)

abbrev pub told_of : Value → List ℕ × List ℕ
told_of v = (name_told v, text_told v)

abbrev pub told_parts : List Value → List (List ℕ × List ℕ)
told_parts vs = map told_of (part_lines vs)

-- the text is a part
abbrev pub IsPartText : List ℕ → Type 0
IsPartText text = (ds : List Data) × AreLines text ds × (is_foreign ds ≡ false) × (wrong_line ds ≡ None)

-- the text is a merged report with these parts
abbrev pub GivesReport : List ℕ → List (List ℕ × List ℕ) → Type 0
GivesReport text given =
    (vs : List Value) × AreLines text (map view vs) × (is_foreign (map view vs) ≡ false) × (is_merged (map view vs) ≡ true)
    × (wrong_merged vs ≡ None) × (given ≡ told_parts vs) × All (λ p. IsPartText p.1) given

-- the text is a part, and d is its first line
abbrev pub IsSound : List ℕ → Data → Type 0
IsSound text d = (ds : List Data) × AreLines text (d ∷ ds) × (is_other_version d ≡ false) × (wrong_line (d ∷ ds) ≡ None)

-- the text is a part, d is its first line, and it was added under this name
abbrev pub IsPartAdded :
    BTreeMap (Vec ℕ Global) Part → BTreeMap (Vec ℕ Global) Part → List ℕ → List ℕ → Data → Type 0
IsPartAdded old new name text d = IsSound text d × AreMerged old new (single name text)

-- the text in a part line is a part, and was added under its name
abbrev pub IsLineAdded : BTreeMap (Vec ℕ Global) Part → BTreeMap (Vec ℕ Global) Part → Value → Type 0
IsLineAdded old new v = IsPartText (text_told v) × AreMerged old new (single (name_told v) (text_told v))

-- the texts are parts, and were added under their names
abbrev pub AreTextsAdded : BTreeMap (Vec ℕ Global) Part → BTreeMap (Vec ℕ Global) Part → List (List ℕ × List ℕ) → Type 0
AreTextsAdded old new given = All (λ p. IsPartText p.1) given × AreMerged old new (told_in given)

-- the lines are those of a merged report, and its parts were added
abbrev pub IsReportAdded : BTreeMap (Vec ℕ Global) Part → BTreeMap (Vec ℕ Global) Part → List Value → Type 0
IsReportAdded old new vs =
    (wrong_merged vs ≡ None) × All (λ p. IsPartText p.1) (told_parts vs) × AreMerged old new (told_in (told_parts vs))

-- a file with this name gives these parts
abbrev pub Gives : List ℕ → List ℕ → List (List ℕ × List ℕ) → Type 0
Gives name text given =
    ((d : Data) × IsSound text d × (is_merged_head d ≡ false) × (given ≡ (name, text) ∷ []))
    ⊎ GivesReport text given

-- What a file gives was added. `P` says which parts it gives.
abbrev pub IsFileAdded :
    BTreeMap (Vec ℕ Global) Part → BTreeMap (Vec ℕ Global) Part → (List (List ℕ × List ℕ) → Type 0) → Type 0
IsFileAdded old new P = (given : List (List ℕ × List ℕ)) × P given × AreMerged old new (told_in given)

-- the same with the number of the file
abbrev pub IsFileAddedFrom :
    ℕ → BTreeMap (Vec ℕ Global) Part → BTreeMap (Vec ℕ Global) Part → (List (List ℕ × List ℕ) → Type 0) → Type 0
IsFileAddedFrom file old new P = (given : List (List ℕ × List ℕ)) × P given × AreMergedFrom file old new (told_in given)

-- what the file gives is among the parts
abbrev pub IsFileThere : BTreeMap (Vec ℕ Global) Part → (List (List ℕ × List ℕ) → Type 0) → Type 0
IsFileThere parts P = (given : List (List ℕ × List ℕ)) × P given × AreThere parts given

-- the line with this index does not fit
abbrev pub IsAt : Option ℕ → PartRefusal → Type 0
IsAt (Some at) (Line line) = line ≡ at
IsAt (Some at) why = ⊥
IsAt None why = ⊥

-- the reason why the text is not a part
abbrev pub IsPartRefused : List ℕ → PartRefusal → Type 0
IsPartRefused text (Line line) =
    StopsAt text line ⊎ ((ds : List Data) × AreLines text ds × (is_foreign ds ≡ false) × IsAt (wrong_line ds) (Line line))
IsPartRefused text Version = (ds : List Data) × AreLines text ds × (is_foreign ds ≡ true)
IsPartRefused text (Clash file) = ⊥
IsPartRefused text OutOfMemory = ⊤

-- the same for a text with the first line d
abbrev pub IsUnsound : List ℕ → Data → PartRefusal → Type 0
IsUnsound text d (Line line) =
    StopsAt text line ⊎ ((ds : List Data) × AreLines text (d ∷ ds) × (is_other_version d ≡ false) × IsAt (wrong_line (d ∷ ds)) (Line line))
IsUnsound text d Version = (ds : List Data) × AreLines text (d ∷ ds) × (is_other_version d ≡ true)
IsUnsound text d (Clash file) = ⊥
IsUnsound text d OutOfMemory = ⊤

-- the reason lies in the text
abbrev pub IsInText : PartRefusal → Type 0
IsInText (Line line) = ⊤
IsInText Version = ⊤
IsInText (Clash file) = ⊥
IsInText OutOfMemory = ⊥

-- the reason why the part in a line is refused
abbrev pub IsLineRefused : List ℕ → ℕ → PartRefusal → Type 0
IsLineRefused text number (Line line) = (line ≡ number) × ((why : PartRefusal) × IsInText why × IsPartRefused text why)
IsLineRefused text number Version = ⊥
IsLineRefused text number (Clash file) = ⊤
IsLineRefused text number OutOfMemory = ⊤

-- This is the first line in `lines` whose text is not a part. The lines begin with the second line of the file, and the
-- index is the one in the file.
pub record IsNoPartIn (lines : List Value) (line : ℕ) : Type 0 where
  pub done : List Value
  pub value : Value
  pub behind : List Value
  pub all : lines ≡ done ++ value ∷ behind
  pub line_is : line ≡ length done + 1
  pub before : All (λ v. IsPartText (text_told v)) done
  pub why : PartRefusal
  pub in_text : IsInText why
  pub refused : IsPartRefused (said_text (codes "text") (view value)) why

abbrev pub IsUntaken : List Value → PartRefusal → Type 0
IsUntaken lines (Line line) = IsNoPartIn lines line
IsUntaken lines Version = ⊥
IsUntaken lines (Clash file) = ⊤
IsUntaken lines OutOfMemory = ⊤

-- the reason why a merged report with these lines is refused
abbrev pub AreWrongIn : List Value → PartRefusal → Type 0
AreWrongIn vs (Line line) = IsAt (wrong_merged vs) (Line line) ⊎ IsNoPartIn (part_lines vs) line
AreWrongIn vs Version = ⊥
AreWrongIn vs (Clash file) = ⊤
AreWrongIn vs OutOfMemory = ⊤

-- P holds for the reason, unless it is a clash or out of memory
abbrev pub IsUnputOr : (PartRefusal → Type 0) → PartRefusal → Type 0
IsUnputOr P (Line line) = P (Line line)
IsUnputOr P Version = P Version
IsUnputOr P (Clash file) = ⊤
IsUnputOr P OutOfMemory = ⊤

-- the reason why a merged report is refused
abbrev pub IsReportRefused : List ℕ → PartRefusal → Type 0
IsReportRefused text (Line line) =
    StopsAt text line
    ⊎ ((vs : List Value) × AreLines text (map view vs) × (is_foreign (map view vs) ≡ false) × (is_merged (map view vs) ≡ true) × AreWrongIn vs (Line line))
IsReportRefused text Version = (ds : List Data) × AreLines text ds × (is_foreign ds ≡ true)
IsReportRefused text (Clash file) = ⊤
IsReportRefused text OutOfMemory = ⊤

-- the reason why a file is refused: a line does not fit, the version is another one, or a part has the name of
-- another part
abbrev pub IsRefused : List ℕ → PartRefusal → Type 0
IsRefused text (Line line) =
    StopsAt text line
    ⊎ (((ds : List Data) × AreLines text ds × (is_foreign ds ≡ false) × (is_merged ds ≡ false) × IsAt (wrong_line ds) (Line line))
    ⊎ IsReportRefused text (Line line))
IsRefused text Version = (ds : List Data) × AreLines text ds × (is_foreign ds ≡ true)
IsRefused text (Clash file) = ⊤
IsRefused text OutOfMemory = ⊤

-- the text is a merged report, and its part lines give these names with texts
abbrev pub ListsReport : List ℕ → List (List ℕ × List ℕ) → Type 0
ListsReport text given =
    (vs : List Value) × AreLines text (map view vs) × (is_foreign (map view vs) ≡ false) × (is_merged (map view vs) ≡ true)
    × (wrong_merged vs ≡ None) × (given ≡ told_parts vs)

-- a file with this name gives these names with texts; the texts need not be parts
abbrev pub Lists : List ℕ → List ℕ → List (List ℕ × List ℕ) → Type 0
Lists name text given =
    ((d : Data) × IsSound text d × (is_merged_head d ≡ false) × (given ≡ (name, text) ∷ []))
    ⊎ ListsReport text given

-- The file with this number gives these names with texts. One text is a part whose name has another text. That other
-- text was there before, or comes earlier in the list, and came from the file `file`.
pub record IsClash (old : BTreeMap (Vec ℕ Global) Part) (number : ℕ) (given : List (List ℕ × List ℕ)) (file : ℕ) : Type 0 where
  pub done : List (List ℕ × List ℕ)
  pub one : List ℕ × List ℕ
  pub behind : List (List ℕ × List ℕ)
  pub all : given ≡ done ++ one ∷ behind
  pub part : IsPartText one.1
  pub other : HasOther (λ key. option_or (held_at old key) (held_from number (told_in done key.items))) one.0 one.1 file

-- A part in a file with this number has the name of another part. `P` says which names with texts the file gives.
abbrev pub ClashesBy : BTreeMap (Vec ℕ Global) Part → (List (List ℕ × List ℕ) → Type 0) → ℕ → ℕ → Type 0
ClashesBy old P number file = (given : List (List ℕ × List ℕ)) × P given × IsClash old number given file

-- a part in a file with this name and number has the name of another part
abbrev pub ClashesIn : BTreeMap (Vec ℕ Global) Part → List ℕ → List ℕ → ℕ → ℕ → Type 0
ClashesIn old name text number file = ClashesBy old (Lists name text) number file

-- the text is a part, d is its first line, and its name has another text, which came from the file `file`
abbrev pub HasOtherPart : BTreeMap (Vec ℕ Global) Part → List ℕ → List ℕ → Data → ℕ → Type 0
HasOtherPart old name text d file = IsSound text d × HasOther (held_at old) name text file

-- the same for the part in a line
abbrev pub HasOtherLine : BTreeMap (Vec ℕ Global) Part → Value → ℕ → Type 0
HasOtherLine old v file = IsPartText (text_told v) × HasOther (held_at old) (name_told v) (text_told v) file

-- the lines are those of a merged report, and one of its parts has the name of another part
abbrev pub HasOtherIn : BTreeMap (Vec ℕ Global) Part → ℕ → List Value → ℕ → Type 0
HasOtherIn old number vs file = (wrong_merged vs ≡ None) × IsClash old number (told_parts vs) file
