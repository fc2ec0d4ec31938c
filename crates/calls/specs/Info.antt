-- What `info` answers of the bytes that it reads, and what its writer has taken.
use Rattle.std.specs.Prelude.{◌≡◌, ℕ, Bool, List, ◌++◌, Option, Result}
use Rattle.rapid_text.specs.Recording.{Recording}
use Rattle.report.specs.Candidates.{candidates_text}
use Rattle.report.specs.Info.{info_text}
use Rattle.shb_clocks.specs.Candidates.{AreFirstCandidates}
use Rattle.calls.specs.Printouts.{Answers}
use Rattle.calls.specs.declared.fault.BenchFault.{BenchFault}

-- the lines of the first 1,000 candidates were appended
abbrev pub AppendsCandidates : Recording → List ℕ → List ℕ → Type 0
AppendsCandidates trace old new =
    (pairs : List (ℕ × ℕ)) × AreFirstCandidates trace.events 1000 pairs × (new ≡ old ++ candidates_text trace pairs)

-- what is printed of a trace: what it holds, and its first 1,000 candidates for races
abbrev pub IsPrinted : Recording → List ℕ → Type 0
IsPrinted trace text = AppendsCandidates trace (info_text trace) text

-- it is written of the trace that the reader's bytes say, and there are no faults but of reading, of the trace, of writing and of memory
abbrev pub IsInfo : Option (List ℕ) → Bool → Option (List ℕ) → Option (List ℕ) → Bool → Result Unit BenchFault → Type 0
IsInfo rest unread old new unwritten result = Answers (λ r text. IsPrinted r text) (λ r fault. ⊥) rest unread old new unwritten result
