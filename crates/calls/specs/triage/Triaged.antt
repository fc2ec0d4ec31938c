-- Why a triage file is not taken, and what is printed of that. All notions here are this project's own.
use Rattle.std.specs.Prelude.{ℕ, List, [], ◌∷◌, ◌++◌, Option, Err, IfSome, String, codes, decimal, ⊤}
use Rattle.std.specs.BTreeMap.{BTreeMap}
use Rattle.std.specs.List.{concat}
use Rattle.std.specs.declared.alloc.Global.{Global}
use Rattle.client_scripts.specs.FaultTexts.{fault_words}
use Rattle.client_scripts.specs.Steps.{IsInput}
use Rattle.client_scripts.specs.declared.fault.ReplayFault.TheVariants.{OutOfMemory as NoMemory}
use Rattle.toml.specs.View.{table_view}
use Rattle.toml.specs.declared.value.Value.{Value}
use Rattle.triage_file.specs.Files.{IsRefusal, IsTaken}
use Rattle.triage_file.specs.declared.files.Refusal.{Refusal}
use Rattle.triage_file.specs.declared.files.Refusal.TheVariants.{Toml, Top, Entry, Expired, OutOfMemory}
use Rattle.triage_file.specs.declared.mistakes.Mistake.{Mistake}
use Rattle.triage_file.specs.declared.mistakes.Mistake.TheVariants.{NoTable, Unknown, Paths, Functions, Variables, Lines, Verdict, Reason, Author, Expires}
use Rattle.triage_file.specs.declared.spots.Spot.{Spot}
use Rattle.calls.specs.declared.triage.triaged.TriagedFault.{TriagedFault}
use Rattle.calls.specs.declared.triage.triaged.TriagedFault.TheVariants.{Replay, File}

-- the fault of a refusal
abbrev pub fault_by : Refusal → TriagedFault
fault_by (Toml spot) = File (Toml spot)
fault_by (Top spot) = File (Top spot)
fault_by (Entry spot number mistake) = File (Entry spot number mistake)
fault_by (Expired spot number) = File (Expired spot number)
fault_by OutOfMemory = Replay NoMemory

-- why a text is not taken: it is refused, or there is no memory
abbrev pub IsTriagedTextFault : List ℕ → ℕ → TriagedFault → Type 0
IsTriagedTextFault text today (Replay NoMemory) = ⊤
IsTriagedTextFault text today (Replay fault) = ⊥
IsTriagedTextFault text today (File refusal) = IsRefusal text today refusal

-- why a file is not taken: it is not read, or its text is refused
abbrev pub IsTriagedFault : Option (List ℕ) → ℕ → TriagedFault → Type 0
IsTriagedFault rest today (Replay fault) = IsInput 4 rest (Err fault)
IsTriagedFault rest today (File refusal) = IfSome rest (λ told. IsRefusal told today refusal)

-- the table is that of the whole file
abbrev pub IsTableOf : Option (List ℕ) → ℕ → BTreeMap (String Global) Value → Type 0
IsTableOf rest today table = IfSome rest (λ told. IsTaken told today (table_view table))

-- what is wrong with an entry
abbrev pub mistake_words : Mistake → List ℕ
mistake_words NoTable = codes "is no table"
mistake_words Unknown = codes "has an unknown key"
mistake_words Paths = codes "needs `paths`, two texts"
mistake_words Functions = codes "has `functions` other than two texts"
mistake_words Variables = codes "has `variables` other than texts"
mistake_words Lines = codes "has `lines` other than two numbers"
mistake_words Verdict = codes "needs `verdict`: known, benign, false or fixed"
mistake_words Reason = codes "has a `reason` other than a text"
mistake_words Author = codes "has an `author` other than a text"
mistake_words Expires = codes "has an `expires` other than a date"

-- the place at which a text is refused
abbrev pub spot_words : Spot → List ℕ
spot_words spot = concat (codes "triage file line " ∷ decimal spot.line ∷ codes " column " ∷ decimal spot.column ∷ codes ": " ∷ [])

-- the same with the number of an entry, and what is wrong with it
abbrev pub wrong_entry_words : Spot → ℕ → List ℕ → List ℕ
wrong_entry_words spot number words =
    spot_words spot ++ concat (codes "entry " ∷ decimal number ∷ codes " " ∷ words ∷ [])

abbrev pub refusal_words : Refusal → List ℕ
refusal_words (Toml spot) = spot_words spot ++ codes "not TOML"
refusal_words (Top spot) = spot_words spot ++ codes "not a `[[race]]` entry"
refusal_words (Entry spot number mistake) = wrong_entry_words spot number (mistake_words mistake)
refusal_words (Expired spot number) = wrong_entry_words spot number (codes "has expired")
refusal_words OutOfMemory = fault_words NoMemory

-- what is printed of it, without a line end
abbrev pub triaged_fault_words : TriagedFault → List ℕ
triaged_fault_words (Replay fault) = fault_words fault
triaged_fault_words (File refusal) = refusal_words refusal
