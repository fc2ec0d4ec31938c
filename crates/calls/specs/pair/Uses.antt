-- What `uses` answers of the bytes that it reads, and what its writer has taken. `one` and `other` are the names. All
-- notions here are this project's own.
use Rattle.std.specs.Prelude.{ℕ, List, Option, Result, ⊤}
use Rattle.rapid_text.specs.Recording.{Recording}
use Rattle.client_scripts.specs.declared.fault.ReplayFault.TheVariants.{OutOfMemory}
use Rattle.explain_report.specs.declared.places.name.Name.{Name}
use Rattle.uses_report.specs.Between.{AreNoUses, AreUsesTold}
use Rattle.uses_report.specs.declared.refusal.UsesFault.{UsesFault}
use Rattle.uses_report.specs.declared.refusal.UsesFault.TheVariants.{NoSuchPair as NoUsesPair, OutOfMemory as NoUsesMemory, TooMany}
use Rattle.calls.specs.pair.Answers.{IsAnswered}
use Rattle.calls.specs.declared.pair.fault.PairFault.{PairFault}
use Rattle.calls.specs.declared.pair.fault.PairFault.TheVariants.{Replay, NoSuchPair, NotShown, NoDeadlock, TooManyHeld}

-- the fault of a call for a fault of the table
abbrev pub uses_fault : UsesFault → PairFault
uses_fault NoUsesPair = NoSuchPair
uses_fault TooMany = TooManyHeld
uses_fault NoUsesMemory = Replay OutOfMemory

-- why there is no table for the names
abbrev pub IsUnused : Recording → Name → Name → PairFault → Type 0
IsUnused r one other (Replay OutOfMemory) = ⊤
IsUnused r one other (Replay fault) = ⊥
IsUnused r one other NoSuchPair = AreNoUses r one other NoUsesPair
IsUnused r one other (NotShown kind) = ⊥
IsUnused r one other (NoDeadlock is_apart) = ⊥
IsUnused r one other TooManyHeld = AreNoUses r one other TooMany

-- what `uses` answers for the names
abbrev pub AreUsesAnswered : List ℕ → Name → Name → Option (List ℕ) → Option (List ℕ) → Result Unit PairFault → Type 0
AreUsesAnswered bytes one other old new result =
    IsAnswered (λ r text. AreUsesTold r one other text) (λ r fault. IsUnused r one other fault) bytes old new result
