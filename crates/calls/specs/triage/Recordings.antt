-- A trace, and what its recording says of itself. All notions here are this project's own.
use Rattle.std.specs.Prelude.{◌≡◌, ℕ, List, Option, Ok, IfSome}
use Rattle.rapid_text.specs.Recording.{Recording}
use Rattle.client_scripts.specs.Traces.{trace_of}
use Rattle.wholeness.specs.Marks.{IsWholeness}
use Rattle.wholeness.specs.declared.marks.Wholeness.{Wholeness}

-- the bytes give this trace, and say this of themselves
abbrev pub IsRecordingIn : List ℕ → Recording × Wholeness → Type 0
IsRecordingIn bytes read = (trace_of bytes ≡ Ok read.0) × IsWholeness bytes read.1

-- a trace was read, and what its bytes say of themselves
abbrev pub IsRecordingOf : Option (List ℕ) → Recording × Wholeness → Type 0
IsRecordingOf rest read = (bytes : List ℕ) × IfSome rest (λ told. bytes ≡ told) × IsRecordingIn bytes read
