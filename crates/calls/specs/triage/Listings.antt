-- What `triage` finds and makes on its way from a trace to a report. `r` is the trace's recording. All notions here are this project's own.
use Rattle.std.specs.Prelude.{◌≡◌, ◌||◌, ℕ, List, ◌++◌, option_map, Some, Option, Result, IfSome, Vec}
use denote.Ref.{Bor}
use Rattle.std.specs.declared.alloc.Global.{Global}
use Rattle.indexmap.specs.IndexSet.{IndexSet, keys}
use Rattle.rapid_text.specs.Recording.{Recording}
use Rattle.race_triage.specs.Chosen.{is_known, known_places, AreChosen}
use Rattle.race_triage.specs.Located.{IsLocated}
use Rattle.race_triage.specs.declared.chosen.Chosen.{Chosen}
use Rattle.race_triage.specs.declared.located.Located.{Located}
use Rattle.race_triage.specs.declared.places.Places.{Places}
use Rattle.race_triage.specs.declared.verdicts.Verdict.{Verdict}
use Rattle.race_triage.specs.declared.verdicts.Verdicts.{Verdicts}
use Rattle.toml.specs.declared.value.Value.{Value}
use Rattle.triage_file.specs.Matching.{is_left_out}
use Rattle.triage_file.specs.Writing.{IsTriageFile}
use Rattle.client_scripts.specs.Loading.{IsTraceOf}
use Rattle.calls.specs.triage.Answers.{hide_of, only_of, AreGiven, AreKnownBy, AreVerdicts, IsGiven, IsListing, IsTextOf, IsToldIn, IsTriaged, IsWritten}
use Rattle.calls.specs.declared.triage.asked.Asked.{Asked}
use Rattle.calls.specs.declared.triage.fault.TriageFault.{TriageFault}

-- the orders and the locations are those of the trace
abbrev pub AreTablesOf : Recording → Recording × Located → Type 0
AreTablesOf r made = (made.0 ≡ r) × IsLocated r made.1

-- the bytes of a text, if there is one
abbrev pub shown_bytes : Option (Vec ℕ Global) → Option (List ℕ)
shown_bytes text = option_map (λ v. v.items) text

-- which races are known by the text that lists them, if there is one
abbrev pub IsGivenIn : {S : Type 0} → Places → Option (Vec ℕ Global) → Option (IndexSet (ℕ × ℕ) S) → Type 0
IsGivenIn p listed known = IsGiven p.locations.keys (shown_bytes listed) (known_places known)

-- which races are known by that text and by the entries of a triage file
abbrev pub AreGivenBy : {S : Type 0} → Recording → Verdicts → Option (Vec ℕ Global) → Option (Bor (List Value)) → Option (IndexSet (ℕ × ℕ) S) → Type 0
AreGivenBy r found listed entries known =
    AreGiven r found.places.locations.keys found.places.numbers.items (shown_bytes listed) (option_map (λ t. t.now) entries) found.verdicts.items (known_places known)

-- which races are known once those are added that entries leave out, if there are entries
abbrev pub AreKnownWith : {S : Type 0} → Recording → Verdicts → Option (Bor (List Value)) → Option (IndexSet (ℕ × ℕ) S) → Option (IndexSet (ℕ × ℕ) S) → Type 0
AreKnownWith r found entries known all =
    AreKnownBy r found.places.numbers.items (option_map (λ t. t.now) entries) found.verdicts.items (known_places known) (known_places all)

abbrev pub AreKnownPlus : {S : Type 0} → Recording → Verdicts → List Value → Option (IndexSet (ℕ × ℕ) S) → Option (IndexSet (ℕ × ℕ) S) → Type 0
AreKnownPlus r found es known all =
    AreKnownBy r found.places.numbers.items (Some es) found.verdicts.items (known_places known) (known_places all)

abbrev pub AreKnownMore : {S : Type 0} → Recording → Verdicts → List Value → IndexSet (ℕ × ℕ) S → IndexSet (ℕ × ℕ) S → Type 0
AreKnownMore r found es known more =
    (v : Verdict) → is_known (Some (keys more)) v ≡ (is_known (Some (keys known)) v || is_left_out r found.places.numbers.items es found.verdicts.items v)

-- the verdicts on the trace, found with the wanted effort
abbrev pub AreVerdictsFor : Recording → Asked → Verdicts → Type 0
AreVerdictsFor r asked found = AreVerdicts r found.places.numbers.items asked.tries asked.apart found.verdicts.items

-- the verdicts that are reported
abbrev pub AreChosenFor : {S : Type 0} → Recording → Verdicts → Option (IndexSet (ℕ × ℕ) S) → Asked → Chosen → Type 0
AreChosenFor r found known asked c =
    AreChosen r (known_places known) (only_of asked) (hide_of asked) asked.apart found.verdicts.items c

-- the text reports them in the wanted form, and is appended
abbrev pub AppendsChosen : Recording → Verdicts → Chosen → Asked → Vec ℕ Global → Vec ℕ Global → Type 0
AppendsChosen r found c asked old new =
    (text : List ℕ) × IsTextOf asked.form r found.places.numbers.items asked.apart found.verdicts.items c text × (new.items ≡ old.items ++ text)

-- the triage file of the chosen races is appended
abbrev pub AppendsEntries : Recording → Verdicts → Chosen → Vec ℕ Global → Vec ℕ Global → Type 0
AppendsEntries r found c old new = (text : List ℕ) × IsTriageFile r found.places.numbers.items c text × (new.items ≡ old.items ++ text)

-- a report of `races` races is appended
abbrev pub AppendsTold : {S : Type 0} → Recording → Verdicts → Option (IndexSet (ℕ × ℕ) S) → Asked → Vec ℕ Global → Vec ℕ Global → ℕ → Type 0
AppendsTold r found known asked old new races =
    (text : List ℕ) × (new.items ≡ old.items ++ text)
    × IsToldIn r found.places.numbers.items (known_places known) asked found.verdicts.items races text

-- a report on the trace, and how many races it reports
abbrev pub IsReportOf : Recording → Option (Vec ℕ Global) → Asked → Vec ℕ Global × ℕ → Type 0
IsReportOf r listed asked made = IsListing r (shown_bytes listed) asked made.1 made.0.items

-- what was written of it
abbrev pub IsReportWritten : Recording → Option (Vec ℕ Global) → Asked → Option (List ℕ) → Option (List ℕ) → Result ℕ TriageFault → Type 0
IsReportWritten r listed asked old new answer = IsWritten r (shown_bytes listed) asked old new answer

-- What is answered of a trace that was read: the second reader shows these races, if there is one.
abbrev pub IsTriagedOn : {X : Type 0} → Recording → (X → Option (List ℕ)) → Option X → Asked → Option (List ℕ) → Option (List ℕ) → Result ℕ TriageFault → Type 0
IsTriagedOn r rest known asked old new answer =
    (bytes : List ℕ) → IsTraceOf bytes r → (listed : List ℕ)
    × IfSome known (λ k. IfSome (rest k) (λ told. listed ≡ told))
    × IsTriaged bytes listed known asked old new answer

-- The same if the first reader shows the trace.
abbrev pub IsTriagedFrom : {X : Type 0} → Option (List ℕ) → (X → Option (List ℕ)) → Option X → Asked → Option (List ℕ) → Option (List ℕ) → Result ℕ TriageFault → Type 0
IsTriagedFrom trace rest known asked old new answer =
    (bytes listed : List ℕ)
    × IfSome trace (λ told. bytes ≡ told)
    × IfSome known (λ k. IfSome (rest k) (λ told. listed ≡ told))
    × IsTriaged bytes listed known asked old new answer
