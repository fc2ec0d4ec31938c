-- The text of a refused call through a seat: the bench's refusal, or that the seat is spent.
use Rattle.std.specs.Prelude.{ℕ, List, codes}
use Rattle.rapid_text.specs.Recording.{Recording}
use Rattle.inverse_log.specs.declared.refusal.SeatRefusal.{SeatRefusal}
use Rattle.inverse_log.specs.declared.refusal.SeatRefusal.TheVariants.{Bench as ByBench, SeatSpent}
use Rattle.report.specs.Causes.{refused_line}
use Rattle.report.specs.Refusals.{refusal_text}

abbrev pub seat_refusal_text : Recording → SeatRefusal → List ℕ
seat_refusal_text trace (ByBench why) = refusal_text trace why
seat_refusal_text trace SeatSpent = refused_line (codes "73 seat spent")
