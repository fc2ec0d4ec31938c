-- What a step of a derivation says. `T` is the events of a trace, and `es` are the requests.
use Rattle.std.specs.Prelude.{◌≡◌, ◌⊎◌, ℕ, List, [], ◌∷◌, ◌++◌, All, Contains, None, Some}
use Rattle.rapid_text.specs.declared.event.Event.{Event}
use Rattle.closed_order.specs.Closed.{AreContradicted, Precedes}
use Rattle.closed_order.specs.declared.steps.Step.{Step}

-- the first event precedes the second one
abbrev pub IsTrueStep : List Event → List ℕ → Step → Type 0
IsTrueStep T es s = Precedes T es s.first s.second

-- so do those of all steps
abbrev pub AreTrueSteps : List Event → List ℕ → List Step → Type 0
AreTrueSteps T es steps = All (IsTrueStep T es) steps

-- the step says that a request must be there, or that an event precedes itself
abbrev pub IsImpossible : List ℕ → Step → Type 0
IsImpossible es s = ((s.second ≡ None) × Contains es s.first) ⊎ (s.second ≡ Some s.first)

-- the last step says so
abbrev pub EndImpossibly : List ℕ → List Step → Type 0
EndImpossibly es steps = (earlier : List Step) × (s : Step) × (steps ≡ earlier ++ s ∷ []) × IsImpossible es s

-- All steps are true, the last one is impossible, and so the requests are contradicted.
pub record IsContradiction (T : List Event) (es : List ℕ) (steps : List Step) : Type 0 where
  pub follow : AreTrueSteps T es steps
  pub last : EndImpossibly es steps
  pub contradicted : AreContradicted T es
