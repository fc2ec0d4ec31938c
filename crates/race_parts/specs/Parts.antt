-- Parts, stored by name, and how they are joined. All notions here are this project's own.
use Rattle.std.specs.Prelude.{◌≡◌, ◌≢◌, ℕ, Bool, true, false, cond, All, List, [], ◌∷◌, ◌++◌, map, Vec, Option, Some, None, is_some, option_map, Result, IfErr, ⊤}
use Rattle.std.specs.declared.alloc.Global.{Global}
use Rattle.std.specs.declared.cmp.Ordering.{Ordering}
use Rattle.std.specs.BTreeMap.{BTreeMap, IsUnchanged, get, get_by, is_at}
use Rattle.std.specs.Cmp.Lexicographic.{slice_cmp}
use Rattle.std.specs.Ordering.{nat_cmp}
use Rattle.std.specs.Map.{lookup, remove_entry}
use Rattle.std.specs.Option.{option_or}
use Rattle.race_parts.specs.declared.lines.PartRefusal.{PartRefusal}
use Rattle.race_parts.specs.declared.lines.PartRefusal.TheVariants.{Line, Version, Clash, OutOfMemory}
use Rattle.race_parts.specs.declared.parts.Part.{Part}

-- the order of names: byte by byte
abbrev pub bytes_cmp : List ℕ → List ℕ → Ordering
bytes_cmp = slice_cmp nat_cmp

abbrev pub name_cmp : Vec ℕ Global → Vec ℕ Global → Ordering
name_cmp a b = bytes_cmp a.items b.items

-- the text of the part with this name, if there is one
abbrev pub text_at : BTreeMap (Vec ℕ Global) Part → Vec ℕ Global → Option (List ℕ)
text_at parts q = option_map (λ p. p.text.items) (get name_cmp parts q)

-- the same, and the number of the file that the part came from
abbrev pub held_at : BTreeMap (Vec ℕ Global) Part → Vec ℕ Global → Option (List ℕ × ℕ)
held_at parts q = option_map (λ p. (p.text.items, p.file)) (get name_cmp parts q)

-- a text, with the number of the file that it came from
abbrev pub held_from : ℕ → Option (List ℕ) → Option (List ℕ × ℕ)
held_from file o = option_map (λ s. (s, file)) o

-- a text that is already there stays
abbrev pub joined : Option (List ℕ) → Option (List ℕ) → Option (List ℕ)
joined None o = o
joined (Some s) o = Some s

-- the text of one part, at its name
abbrev pub single : List ℕ → List ℕ → List ℕ → Option (List ℕ)
single name text q = cond (is_at (bytes_cmp q) name) (Some text) None

-- the first text of a name, in a list of names with texts
abbrev pub told_in : List (List ℕ × List ℕ) → List ℕ → Option (List ℕ)
told_in given q = lookup (is_at (bytes_cmp q)) given

-- The new parts are the old ones, and those whose texts `added` gives for their names. A text that was there stays.
abbrev pub AreMerged : BTreeMap (Vec ℕ Global) Part → BTreeMap (Vec ℕ Global) Part → (List ℕ → Option (List ℕ)) → Type 0
AreMerged old new added = (q : Vec ℕ Global) → text_at new q ≡ joined (text_at old q) (added q.items)

-- the same with the numbers of their files: what was added is of this file
abbrev pub AreMergedFrom :
    ℕ → BTreeMap (Vec ℕ Global) Part → BTreeMap (Vec ℕ Global) Part → (List ℕ → Option (List ℕ)) → Type 0
AreMergedFrom file old new added = (q : Vec ℕ Global) → held_at new q ≡ option_or (held_at old q) (held_from file (added q.items))

-- this name has this text among the parts
abbrev pub HasPart : BTreeMap (Vec ℕ Global) Part → List ℕ × List ℕ → Type 0
HasPart parts p = (key : Vec ℕ Global) → key.items ≡ p.0 → text_at parts key ≡ Some p.1

-- each name of the list has its text among the parts
abbrev pub AreThere : BTreeMap (Vec ℕ Global) Part → List (List ℕ × List ℕ) → Type 0
AreThere parts given = All (HasPart parts) given

-- whether the name has a part
abbrev pub has_name : BTreeMap (Vec ℕ Global) Part → List ℕ → Bool
has_name parts name = is_some (get_by (λ k. bytes_cmp name k.items) parts)

-- the entries but the one of this name
abbrev pub without : List ℕ → List (Vec ℕ Global × Part) → List (Vec ℕ Global × Part)
without name es = remove_entry (is_at (λ k. bytes_cmp name k.items)) es

-- the entries without these names
abbrev pub without_all : List (List ℕ) → List (Vec ℕ Global × Part) → List (Vec ℕ Global × Part)
without_all [] es = es
without_all (name ∷ names) es = without name (without_all names es)

-- If the name had a part, the parts are as before. If not, they are so without this name.
abbrev pub AddsOnly : BTreeMap (Vec ℕ Global) Part → BTreeMap (Vec ℕ Global) Part → List ℕ → Type 0
AddsOnly old new name =
    (has_name old name ≡ true → IsUnchanged old new) × (has_name old name ≡ false → without name new.entries ≡ old.entries)

-- the texts of the byte vectors
abbrev pub names_in : Vec (Vec ℕ Global) Global → List (List ℕ)
names_in names = map (λ name. name.items) names.items

-- without the added names, the new parts are the old ones
abbrev pub IsUndone : BTreeMap (Vec ℕ Global) Part → BTreeMap (Vec ℕ Global) Part → Vec (Vec ℕ Global) Global → Type 0
IsUndone old new added = without_all (names_in added) new.entries ≡ old.entries

-- the name was added to these names, unless it has a part
abbrev pub IsNoted : BTreeMap (Vec ℕ Global) Part → List ℕ → Vec (Vec ℕ Global) Global → Vec (Vec ℕ Global) Global → Type 0
IsNoted parts name old new = names_in new ≡ names_in old ++ cond (has_name parts name) [] (name ∷ [])

-- adding a part fails only because of a clash, or if memory runs out
abbrev pub IsPutFault : PartRefusal → Type 0
IsPutFault (Line line) = ⊥
IsPutFault Version = ⊥
IsPutFault (Clash file) = ⊤
IsPutFault OutOfMemory = ⊤

-- this name has another text among the parts, and that text came from this file
abbrev pub HasOther : (Vec ℕ Global → Option (List ℕ × ℕ)) → List ℕ → List ℕ → ℕ → Type 0
HasOther held name text file = (key : Vec ℕ Global) × (key.items ≡ name) × (s : List ℕ) × (held key ≡ Some (s, file)) × (s ≢ text)

-- if the refusal is a clash, P holds for its file
abbrev pub IfClash : PartRefusal → (ℕ → Type 0) → Type 0
IfClash (Line line) P = ⊤
IfClash Version P = ⊤
IfClash (Clash file) P = P file
IfClash OutOfMemory P = ⊤

-- if the answer is a clash, P holds for its file
abbrev pub OnClash : {T : Type 0} → Result T PartRefusal → (ℕ → Type 0) → Type 0
OnClash answer P = IfErr answer (λ why. IfClash why P)
