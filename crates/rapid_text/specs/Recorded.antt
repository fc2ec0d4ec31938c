-- What the fields of a `Recorder` represent. No public clause cites this module.
use Rattle.std.specs.Prelude.{◌≡◌, ⊤, map, All, Option, Some}
use Rattle.rapid_text.specs.Growth.{IsTight, names_of}
use Rattle.rapid_text.specs.Layout.{IsPart, part_at}
use Rattle.rapid_text.specs.Recording.{Recording}
use Rattle.rapid_text.specs.declared.recorder.Recorder.{Recorder}
use Rattle.rapid_text.specs.declared.recorder.Stop.{Stop}
use Rattle.rapid_text.specs.declared.recorder.Stop.TheVariants.{Fault, Memory}
use Rattle.rapid_text.specs.declared.refusal.TextCause.{TextCause}

-- the recording so far
abbrev pub recorded : Recorder → Recording
recorded t =
    record {
      events = t.events.items;
      threads = names_of t.threads.names;
      variables = names_of t.variables.names;
      locks = names_of t.locks.names;
      locations = map (part_at t.locations.items) t.spans.items;
    }

-- each span lies within the buffer of locations
abbrev pub AreParts : Recorder → Type 0
AreParts t = All (IsPart t.locations.items) t.spans.items

-- what holds between two lines
pub record IsReady (t : Recorder) : Type 0 where
  pub tight : IsTight (recorded t)
  pub parts : AreParts t

-- the stop is for memory, or for this fault
abbrev pub StopsFor : Option TextCause → Stop → Type 0
StopsFor fault Memory = ⊤
StopsFor fault (Fault why) = fault ≡ Some why
