-- The rule of the channel of answers: all answers in it are of one trace, and each pass knows that trace. No public
-- clause cites this module.
use Rattle.std.specs.Prelude.{◌≡◌, ℕ, ◌⊎◌, List, [], ◌∷◌, Option, Some, None}
use Rattle.crossbeam_channel.specs.Claims.{Pass, view}
use Rattle.rapid_text.specs.Recording.{Recording}
use Rattle.search_pool.specs.Outcomes.{Answered}
use mathlib.Core.Option.{some}
use lib.ListN.{get_elem?}

-- all answers are of the trace
abbrev pub AllOf : Recording → List Answered → Type 0
AllOf t answers = (place : ℕ) (x : Answered) → get_elem? answers place ≡ some x → x.trace ≡ t

-- all passes know the trace
abbrev pub AllKnow : Recording → List (Option Recording) → Type 0
AllKnow t views = (pass : ℕ) (v : Option Recording) → get_elem? views pass ≡ some v → v ≡ Some t

-- before a trace is named there is no answer, and one pass, which knows no trace; afterwards everything is of one
-- trace
abbrev pub OfOne : List Answered → List (Option Recording) → Type 0
OfOne answers views = ((answers ≡ []) × (views ≡ None ∷ [])) ⊎ ((t : Recording) × AllOf t answers × AllKnow t views)

-- the pass knows the trace
abbrev pub IsOfTrace : {X : Type 0} → Recording → Pass X (Option Recording) → Type 0
IsOfTrace t pass = view pass ≡ Some t
