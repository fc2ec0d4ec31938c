-- The text of the section of a lock that an event is in. `r` is a recording.
use Rattle.std.specs.Prelude.{◌≡◌, ◌⊎◌, ℕ, ◌<◌, List, [], ◌++◌, length, Option, Some, None, codes}
use Rattle.rapid_text.specs.Recording.{Recording}
use Rattle.event_index.specs.Lookups.{section_end}
use Rattle.must_order.specs.Held.{IsHeldFrom}
use Rattle.must_order.specs.MustBefore.{IsHeldBefore}
use Rattle.explain_report.specs.Chains.{line_at, thread_name}

-- the end of a section
abbrev pub until_text : Recording → Option ℕ → List ℕ
until_text r None = codes "  to the end\n"
until_text r (Some e) = codes "  to " ++ line_at r e

-- event e's thread holds a lock from acquire p to the end of the section
abbrev pub section_text : Recording → ℕ → ℕ → List ℕ
section_text r e p = thread_name r e ++ codes " holds it from " ++ line_at r p ++ until_text r (section_end r.events p)

-- The text has the section of lock l that event e is in, from the outermost of nested acquires. It is empty if e's
-- thread does not hold l before e.
abbrev pub IsSectionTold : Recording → ℕ → ℕ → List ℕ → Type 0
IsSectionTold r e l text =
    ((p : ℕ) × IsHeldFrom r.events e l p × (text ≡ section_text r e p))
    ⊎ ((l < length r.locks → ¬ IsHeldBefore r.events e l) × (text ≡ []))
