-- What the borrowed parts of a line represent. No public clause cites this module.
use Rattle.rapid_text.specs.Reading.{NamedEvent, LineReading, Skipped, Refused, Says}
use Rattle.rapid_text.specs.declared.line.Fields.{Fields}
use Rattle.rapid_text.specs.declared.line.Line.{Line}
use Rattle.rapid_text.specs.declared.line.Line.TheVariants as line

-- the event in these fields
abbrev pub named_in : Fields → NamedEvent
named_in f =
    record { thread = f.thread.now; kind = f.kind; name = f.name.now; location = f.location.now }

-- what the line means
abbrev pub reading_in : Line → LineReading
reading_in line.Skipped = Skipped
reading_in (line.Refused why) = Refused why
reading_in (line.Says f) = Says (named_in f)
