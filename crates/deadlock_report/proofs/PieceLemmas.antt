-- The request of an event that is there.
use Rattle.std.proofs.Common.{◌≡◌, ℕ, ◌<◌, List, [], ◌∷◌, ◌++◌, length, get_or, Some, append_assoc, ap, ◌∙◌, arith}
use Rattle.std.specs.List.{slice_get}
use Rattle.rapid_text.specs.Recording.{Recording}
use Rattle.rapid_text.specs.declared.event.Event.{Event}
use Rattle.std.proofs.lemmas.Option.{slice_get-get_or}
use Rattle.explain_report.specs.Causes.{lock_taken}
use Rattle.deadlock_report.specs.Texts.{held_text, request_by, request_line, request_text}

-- the event with that number
pub there : (es : List Event) (e : ℕ) → e < length es → (v : Event) × (slice_get es e ≡ Some v)
there [] e lt = absurd (omega (arith, lt))
there (x ∷ xs) e lt = (get_or (x ∷ xs) e x, slice_get-get_or (x ∷ xs) e x lt)

-- the line of an event that is there, and what stands below it
pub request_text-there : (r : Recording) (e d : ℕ) → e < length r.events
    → request_text r e d ≡ request_line r e ++ held_text r e (lock_taken r.events d)
request_text-there r e d lt = let found = there r.events e lt in ap (request_by r e d) found.1

-- two pieces that were appended, and three
pub two_pieces : (old one two middle new : List ℕ) → middle ≡ old ++ one → new ≡ middle ++ two → new ≡ old ++ (one ++ two)
two_pieces old one two middle new first second = second ∙ ap (λ (t : List ℕ). t ++ two) first ∙ append_assoc old one two

pub three_pieces : (old one two three middle later new : List ℕ)
    → middle ≡ old ++ one → later ≡ middle ++ two → new ≡ later ++ three → new ≡ old ++ ((one ++ two) ++ three)
three_pieces old one two three middle later new first second third =
    two_pieces old (one ++ two) three later new (two_pieces old one two middle later first second) third

-- and four
pub four_pieces : (old first second third new x y z v : List ℕ)
    → first ≡ old ++ x → second ≡ first ++ y → third ≡ second ++ z → new ≡ third ++ v → new ≡ old ++ (x ++ y ++ z ++ v)
four_pieces old first second third new x y z v e1 e2 e3 e4 =
    let whole : new ≡ (old ++ x ++ y ++ z ++ v) = cc in
    whole ∙ simp append_assoc
