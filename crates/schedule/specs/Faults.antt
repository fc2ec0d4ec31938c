-- Where a list of event numbers stops being a correct reordering: the first index whose event may not come next after
-- those before it. This project's own.
use Rattle.std.specs.Prelude.{◌≡◌, ℕ, ◌+◌, ◌<◌, List, length, take, find, slice_index, Option, Some, ⊤}
use Rattle.std.specs.Option.{is_some}
use Rattle.rapid_text.specs.declared.event.Event.{Event}
use Rattle.event_index.specs.Lookups.{before}
use Rattle.schedule.specs.Refusals.{refusal_of}
use Rattle.schedule.specs.Reordering.{IsCorrectReordering}
use Rattle.schedule.specs.declared.refusal.Disabled.{Disabled}
use Rattle.schedule.specs.declared.refusal.ListRefusal.{ListRefusal}
use Rattle.schedule.specs.declared.refusal.ListRefusal.TheVariants.{NotReordering, OutOfMemory}

-- The events of P before index i are a correct reordering; with the event at i they are not.
pub record IsFirstFault (T : List Event) (P : List ℕ) (i : ℕ) : Type 0 where
  pub within : i < length P
  pub sound : IsCorrectReordering T (take i P)
  pub fault : ¬ IsCorrectReordering T (take (i + 1) P)

-- why the event at index i of P may not come next after those before it, if it may not
abbrev pub refusal_at : List Event → List ℕ → ℕ → Option Disabled
refusal_at T P i = refusal_of T (take i P) (slice_index P i)

-- the first index of P whose event may not come next, if there is one
unfoldable pub first_fault : List Event → List ℕ → Option ℕ
first_fault T P = find (λ i. is_some (refusal_at T P i)) (before (length P))

-- why P is not a schedule: the index and the cause of its first fault; or memory ran out, which may hide that index
abbrev pub IsListRefusal : List Event → List ℕ → ListRefusal → Type 0
IsListRefusal T P (NotReordering position cause) = IsFirstFault T P position × (refusal_at T P position ≡ Some cause)
IsListRefusal T P OutOfMemory = ⊤
