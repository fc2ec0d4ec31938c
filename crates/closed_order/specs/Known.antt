-- What earlier steps say of a trace and of requests. No public clause cites this module.
use Rattle.std.specs.Prelude.{◌<◌, ℕ, List, Option, All, length}
use Rattle.rapid_text.specs.declared.event.Event.{Event}
use Rattle.closed_order.specs.Closed.{Precedes}
use Rattle.closed_order.specs.Steps.{AreTrueSteps, IsTrueStep}
use Rattle.closed_order.specs.declared.known.Known.{Known}
use Rattle.closed_order.specs.declared.steps.Step.{Step}

-- the events of the trace
abbrev pub events_in : Known → List Event
events_in k = k.analysis.now.events

-- each earlier step is true, and the requests are events
pub record IsKnown (k : Known) : Type 0 where
  pub steps : AreTrueSteps (events_in k) k.requests.now k.earlier.now
  pub requests : All (λ e. e < length (events_in k)) k.requests.now

-- the first event precedes the second one
abbrev pub IsBefore : Known → ℕ → Option ℕ → Type 0
IsBefore k d x = Precedes (events_in k) k.requests.now d x

-- the step is true
abbrev pub IsTrueAfter : Known → Step → Type 0
IsTrueAfter k s = IsTrueStep (events_in k) k.requests.now s
