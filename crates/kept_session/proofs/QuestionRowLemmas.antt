-- The schedules of a workspace.
use Rattle.std.proofs.Common.{◌≡◌, ℕ, List, Option, Some, None, ap, sym, ◌∙◌}
use Rattle.std.specs.Prelude.{option_map, IfSome, bytes_eq}
use Rattle.std.proofs.lemmas.Map.Entries.{All-lookup}
use denote.Ref.{Bor}
use Rattle.rapid_text.specs.Recording.{Recording}
use Rattle.schedule.specs.Scheduled.{Scheduled}
use Rattle.moves.specs.Rows.{Rows, row_of, IsReordering, AreReorderings}
use Rattle.moves.specs.declared.row.Row.{Row}

-- the schedule of a row that is there
row_trace : (T : Recording) (o : Option Row) (s : Scheduled) → IfSome o (IsReordering T) → option_map (λ (r : Row). r.schedule) o ≡ Some s → s.trace ≡ T
row_trace T None s all is = absurd (cc is)
row_trace T (Some r) s all is =
    let same : r.schedule ≡ s = cc is in
    sym (ap (λ (x : Scheduled). x.trace) same) ∙ all.0

pub schedule_trace : (T : Recording) (W : Rows) (x : List ℕ) (o : Option (Bor Scheduled)) → AreReorderings T W
    → IfSome o (λ s. option_map (λ (r : Row). r.schedule) (row_of W x) ≡ Some s.now) → IfSome o (λ s. s.now.trace ≡ T)
schedule_trace T W x None all is = tt
schedule_trace T W x (Some s) all is = row_trace T (row_of W x) s.now (All-lookup (IsReordering T) (bytes_eq x) W all) is
