-- The lines of an event that is there.
use Rattle.std.proofs.Common.{◌≡◌, ℕ, ◌<◌, List, [], ◌∷◌, ◌++◌, length, get_or, append_assoc, codes, decimal, Some, sym, ap, ◌∙◌, arith}
use Rattle.std.specs.List.{slice_get, slice_index_or}
use Rattle.std.proofs.lemmas.Option.{slice_get-get_or}
use Rattle.rapid_text.specs.Recording.{Recording}
use Rattle.rapid_text.specs.declared.event.Event.{Event}
use Rattle.explain_report.specs.Accesses.{access_text, access_by, event_words, event_words_by, held_locks, lock_lines, numbered_access, numbered_access_by}
use Rattle.explain_report.specs.Chains.{line_at, line_by}
use Rattle.explain_report.specs.EventLines.{event_line, event_line_by, numbered_line}

pub there : (es : List Event) (e : ℕ) → e < length es → (v : Event) × (slice_get es e ≡ Some v)
there [] e lt = absurd (omega arith)
there (x ∷ xs) e lt = (get_or (x ∷ xs) e x, slice_get-get_or (x ∷ xs) e x lt)

-- the line of an event that is there, and what stands below it
pub access_text-there : (r : Recording) (e : ℕ) → e < length r.events → access_text r e ≡ codes "  " ++ event_line r e ++ lock_lines r (held_locks r e)
access_text-there r e lt =
    let found = there r.events e lt in
    let location = slice_index_or r.locations e [] in
    let words : event_words r found.0 location ++ codes "\n" ++ lock_lines r (held_locks r e) ≡ event_line_by r (Some found.0) location ++ lock_lines r (held_locks r e) = simp append_assoc in
    ap (access_by r e) found.1 ∙ ap (λ o. codes "  " ++ event_words_by r e o ++ codes "\n" ++ lock_lines r (held_locks r e)) found.1
    ∙ ap (λ (t : List ℕ). codes "  " ++ t) words
    ∙ ap (λ o. codes "  " ++ event_line_by r o location ++ lock_lines r (held_locks r e)) (sym found.1)

pub numbered_access-there : (r : Recording) (e : ℕ) → e < length r.events → numbered_access r e ≡ decimal e ++ access_text r e
numbered_access-there r e lt = ap (numbered_access_by r e) (there r.events e lt).1

pub line_at-there : (r : Recording) (e : ℕ) → e < length r.events → line_at r e ≡ numbered_line r e
line_at-there r e lt = ap (line_by r e) (there r.events e lt).1
