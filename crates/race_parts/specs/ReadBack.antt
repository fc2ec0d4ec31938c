-- A merged report is read as the parts that it was printed for. All notions here are this project's own.
use Rattle.std.specs.Prelude.{◌≡◌, ◌≤◌, ◌<◌, ◌^◌, ℕ, All, List, length, map, Vec, Some, IsUtf8, ⊤}
use Rattle.std.specs.BTreeMap.{BTreeMap}
use Rattle.std.specs.declared.alloc.Global.{Global}
use Rattle.race_parts.specs.Lines.{line_count_limit, lines_of}
use Rattle.race_parts.specs.Merging.{ClashesIn, Gives, IsFileAdded, IsPartText, IsRefused}
use Rattle.race_parts.specs.Parts.{joined, text_at}
use Rattle.race_parts.specs.declared.cells.Cell.{Cell}
use Rattle.race_parts.specs.declared.lines.PartRefusal.{PartRefusal}
use Rattle.race_parts.specs.declared.lines.PartRefusal.TheVariants.{Line, Version, Clash, OutOfMemory}
use Rattle.race_parts.specs.declared.parts.Part.{Part}

-- each part as a name with a text
abbrev pub told_from : List (Vec ℕ Global × Part) → List (List ℕ × List ℕ)
told_from es = map (λ e. (e.0.items, e.1.text.items)) es

-- the name is UTF-8, and the text is a part
abbrev pub IsPrintable : Vec ℕ Global × Part → Type 0
IsPrintable e = IsUtf8 e.0.items × IsPartText e.1.text.items

-- the numbers of a cell fit 64 bits
pub record IsSmall (c : Cell) : Type 0 where
  pub size : c.size < 2 ^ 64
  pub later : c.later < 2 ^ 64
  pub earlier : c.earlier < 2 ^ 64

-- the text has at most as many lines as are read
abbrev pub HasFewLines : List ℕ → Type 0
HasFewLines text = length (lines_of text) ≤ line_count_limit

-- the report and the text of each part have at most as many lines as are read
abbrev pub AreFewLines : List ℕ → List (Vec ℕ Global × Part) → Type 0
AreFewLines text es = HasFewLines text × All (λ e. HasFewLines e.1.text.items) es

-- the reading ended because of parts that were there before, or if memory ran out
abbrev pub IsNoFault : PartRefusal → Type 0
IsNoFault (Line line) = ⊥
IsNoFault Version = ⊥
IsNoFault (Clash file) = ⊤
IsNoFault OutOfMemory = ⊤

-- no name has one text there and another one among the parts
abbrev pub AgreesWith : BTreeMap (Vec ℕ Global) Part → BTreeMap (Vec ℕ Global) Part → Type 0
AgreesWith old parts = (q : Vec ℕ Global) (s t : List ℕ) → text_at old q ≡ Some s → text_at parts q ≡ Some t → s ≡ t

-- The text is a merged report that is read as these parts.
pub record ReadsAs (text : List ℕ) (parts : BTreeMap (Vec ℕ Global) Part) : Type 0 where
  -- a file with this text gives these parts, in their order, and no others
  pub gives : (name : List ℕ) (given : List (List ℕ × List ℕ)) → Gives name text given → given ≡ told_from parts.entries
  -- if the file is added to other parts, these parts are joined to them
  pub added : (name : List ℕ) (old new : BTreeMap (Vec ℕ Global) Part) → IsFileAdded old new (Gives name text)
      → (q : Vec ℕ Global) → text_at new q ≡ joined (text_at old q) (text_at parts q)
  -- no line and no version is refused, unless a text has too many lines
  pub taken : AreFewLines text parts.entries → (why : PartRefusal) → IsRefused text why → IsNoFault why
  -- no part clashes, unless its name had another text before
  pub agrees : (name : List ℕ) (old : BTreeMap (Vec ℕ Global) Part) (number file : ℕ) → AgreesWith old parts → ClashesIn old name text number file → ⊥
