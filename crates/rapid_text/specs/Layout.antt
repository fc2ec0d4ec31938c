-- How the fields of a `RawTrace` represent a recording. No public clause cites this module.
use Rattle.std.specs.Prelude.{◌≡◌, ℕ, ◌-◌, ◌≤◌, List, map, length, take, drop, All, Ok}
use Rattle.rapid_text.specs.Canonical.{canonical_text}
use Rattle.rapid_text.specs.Reading.{reading_of}
use Rattle.rapid_text.specs.Recording.{Recording, IsWellFormed}
use Rattle.rapid_text.specs.declared.raw_trace.Span.{Span}
use Rattle.rapid_text.specs.declared.raw_trace.RawTrace.TheInside.{Inside}

-- the bytes of the span
abbrev pub part_at : List ℕ → Span → List ℕ
part_at bytes span = take (span.end - span.start) (drop span.start bytes)

-- the span lies within the bytes
abbrev pub IsPart : List ℕ → Span → Type 0
IsPart bytes span = (span.start ≤ span.end) × (span.end ≤ length bytes)

-- the recording that the fields represent
abbrev pub recording_in : Inside → Recording
recording_in t =
    record {
      events = t.events.items;
      threads = map (λ name. name.items) t.threads.keys;
      variables = map (λ name. name.items) t.variables.keys;
      locks = map (λ name. name.items) t.locks.keys;
      locations = map (part_at t.locations.items) t.spans.items;
    }

-- what holds for the fields of each trace
pub record IsSound (t : Inside) : Type 0 where
  pub well_formed : IsWellFormed (recording_in t)
  pub parts : All (IsPart t.locations.items) t.spans.items
  pub reads_back : reading_of (canonical_text (recording_in t)) ≡ Ok (recording_in t)
