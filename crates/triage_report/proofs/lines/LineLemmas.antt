-- The lines of an access that is there.
use Rattle.std.proofs.Common.{◌≡◌, ℕ, ◌<◌, List, [], ◌∷◌, ◌++◌, length, get_or, append_assoc, Some, ap, ◌∙◌, arith}
use Rattle.std.specs.List.{slice_get}
use Rattle.std.proofs.lemmas.Option.{slice_get-get_or}
use Rattle.rapid_text.specs.Recording.{Recording}
use Rattle.rapid_text.specs.declared.event.Event.{Event}
use Rattle.race_triage.specs.Texts.{held_locks}
use Rattle.explain_report.specs.places.Located.{location_at}
use Rattle.explain_report.specs.places.Places.{behind_arrow, calls_in}
use Rattle.explain_report.specs.declared.places.arrows.TheConstants.{MAX_CALLS}
use Rattle.triage_report.specs.declared.folder.Folder.{Folder}
use Rattle.triage_report.specs.lines.Lines.{about_line, access_by, access_lines, call_lines, lock_lines}

there : (es : List Event) (e : ℕ) → e < length es → (v : Event) × (slice_get es e ≡ Some v)
there [] e lt = absurd (omega arith)
there (x ∷ xs) e lt = (get_or (x ∷ xs) e x, slice_get-get_or (x ∷ xs) e x lt)

pub access_lines-there : (r : Recording) (f : Folder) (place : List ℕ) (e : ℕ) → e < length r.events
    → access_lines r f place e ≡ about_line r place e ++ lock_lines r place (held_locks r e) ++ call_lines f place (calls_in MAX_CALLS (behind_arrow (location_at r e)))
access_lines-there r f place e lt = let found = there r.events e lt in ap (access_by r f place e) found.1

-- pieces that are appended one after another are appended as one
pub three_pieces : (old first second new x y z : List ℕ) → first ≡ old ++ x → second ≡ first ++ y → new ≡ second ++ z → new ≡ old ++ (x ++ y ++ z)
three_pieces old first second new x y z e1 e2 e3 =
    let whole : new ≡ (old ++ x ++ y ++ z) = cc in
    whole ∙ simp append_assoc
