-- The lines of a request that is there, and of one that is not.
use Rattle.std.proofs.Common.{◌≡◌, ℕ, ◌≤◌, ◌<◌, List, [], length, ap}
use Rattle.std.proofs.lemmas.Option.{slice_get_past}
use Rattle.rapid_text.specs.Recording.{Recording}
use Rattle.explain_report.specs.Causes.{lock_taken}
use Rattle.triage_report.specs.declared.folder.Folder.{Folder}
use Rattle.deadlock_report.specs.lines.Lines.{request_by, request_lines, told_lines}
use Rattle.deadlock_report.proofs.PieceLemmas.{there}

module _ (r : Recording) (f : Folder) (place : List ℕ) (e d : ℕ) where
  -- an event that is not there has no lines
  pub request_lines-none : length r.events ≤ e → request_lines r f place e d ≡ []
  request_lines-none past = ap (request_by r f place e d) (slice_get_past r.events e past)

  -- the lines of an event that is there
  pub request_lines-there : e < length r.events → request_lines r f place e d ≡ told_lines r f place e (lock_taken r.events d)
  request_lines-there lt = let found = there r.events e lt in ap (request_by r f place e d) found.1
