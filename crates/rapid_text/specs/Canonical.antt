-- The canonical text of a trace: a line `thread|word(name)|location` for each event.
use Rattle.std.specs.Prelude.{ℕ, List, [], ◌∷◌, ◌++◌, slice_index_or, codes}
use Rattle.rapid_text.specs.declared.event.Event.{Event}
use Rattle.rapid_text.specs.declared.event.Op.{Op}
use Rattle.rapid_text.specs.declared.event.Op.TheVariants.{Read, Write, Acquire, Release, Fork, Join}
use Rattle.rapid_text.specs.Recording.{Recording}

-- the name with this number
abbrev pub name_at : List (List ℕ) → ℕ → List ℕ
name_at names i = slice_index_or names i []

-- the operation as `word(name)`
abbrev pub op_text : Recording → Op → List ℕ
op_text r (Read x) = codes "r(" ++ name_at r.variables x ++ codes ")"
op_text r (Write x) = codes "w(" ++ name_at r.variables x ++ codes ")"
op_text r (Acquire l) = codes "acq(" ++ name_at r.locks l ++ codes ")"
op_text r (Release l) = codes "rel(" ++ name_at r.locks l ++ codes ")"
op_text r (Fork u) = codes "fork(" ++ name_at r.threads u ++ codes ")"
op_text r (Join u) = codes "join(" ++ name_at r.threads u ++ codes ")"

-- the line of an event at its location
abbrev pub event_text : Recording → Event → List ℕ → List ℕ
event_text r e location =
    name_at r.threads e.thread ++ codes "|" ++ op_text r e.op ++ codes "|" ++ location ++ codes "\n"

-- the lines of these events, each at its location
abbrev pub events_text : Recording → List Event → List (List ℕ) → List ℕ
events_text r [] locations = []
events_text r (e ∷ es) [] = event_text r e [] ++ events_text r es []
events_text r (e ∷ es) (location ∷ locations) = event_text r e location ++ events_text r es locations

unfoldable pub canonical_text : Recording → List ℕ
canonical_text r = events_text r r.events r.locations
