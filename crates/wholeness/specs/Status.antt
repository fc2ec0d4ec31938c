-- The exit status of `--fail`. All notions here are this project's own.
use Rattle.std.specs.Prelude.{◌&&◌, ℕ, nat_lt, Bool, true, false, if◌then◌else◌}
use Rattle.wholeness.specs.declared.status.Judged.{Judged}

-- with `--fail`: 3 if a race was printed; else 0 if there was an event and nothing is known to be missing; else 4
abbrev pub status_of : Bool → Judged → ℕ
status_of false judged = 0
status_of true judged = if nat_lt 0 judged.races then 3 else if judged.has_events && judged.is_whole then 0 else 4
