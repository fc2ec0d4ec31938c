-- No number in the objects has a fraction; and an event that is not there is no request.
use Rattle.std.proofs.Common.{◌≡◌, ℕ, ◌≤◌, ◌<◌, ◌||◌, Bool, true, false, List, [], ◌∷◌, ◌++◌, length, Option, Some, None, refl, ap, ◌∙◌}
use Rattle.std.proofs.lemmas.Option.{slice_get_past}
use Rattle.rapid_text.specs.Recording.{Recording}
use Rattle.rapid_text.specs.declared.event.Event.{Event}
use Rattle.explain_report.specs.Causes.{lock_taken}
use Rattle.serde_json.specs.Data.{Data}
use Rattle.serde_json.specs.View.{items_of}
use Rattle.serde_json.specs.Written.{has_float, items_have_float}
use Rattle.triage_report.specs.json.Objects.{lock_names}
use Rattle.deadlock_triage.specs.declared.outcomes.Outcome.{Outcome}
use Rattle.deadlock_triage.specs.declared.outcomes.Outcome.TheVariants.{Deadlock, Undecided, Apart}
use Rattle.deadlock_triage.specs.declared.outcomes.Verdict.{Verdict}
use Rattle.deadlock_report.specs.Holds.{other_locks, since_at}
use Rattle.deadlock_report.specs.json.Objects.{hold_data, outcome_object, request_at, request_by, requests, since_data, told_request, verdict_object}
use Rattle.deadlock_report.proofs.PieceLemmas.{there}

-- an event that is not there is no request
pub request_at-none : (r : Recording) (e d : ℕ) → length r.events ≤ e → request_at r e d ≡ []
request_at-none r e d past = ap (request_by r e d) (slice_get_past r.events e past)

-- the object of an event that is there
pub request_at-there : (r : Recording) (e d : ℕ) → e < length r.events
    → request_at r e d ≡ told_request r e (lock_taken r.events d) ∷ []
request_at-there r e d lt = let found = there r.events e lt in ap (request_by r e d) found.1

names-no_float : (r : Recording) (ls : List ℕ) → has_float (lock_names r ls) ≡ false
names-no_float r [] = refl
names-no_float r (l ∷ ls) = names-no_float r ls

since-no_float : (r : Recording) (l : ℕ) (o : Option ℕ) → has_float (since_data r l o) ≡ false
since-no_float r l None = refl
since-no_float r l (Some p) = refl

hold-no_float : (r : Recording) (e : ℕ) (wanted : Option ℕ) → has_float (hold_data r e wanted) ≡ false
hold-no_float r e None = refl
hold-no_float r e (Some l) = since-no_float r l (since_at r e l)

either : (b c d : Bool) → (c ≡ false → d ≡ false) → (b || c) ≡ false → (b || d) ≡ false
either true c d more none = none
either false c d more none = more none

items-append : (xs ys : List Data) → items_have_float (items_of xs) ≡ false → items_have_float (items_of ys) ≡ false
    → items_have_float (items_of (xs ++ ys)) ≡ false
items-append [] ys none others = others
items-append (x ∷ xs) ys none others =
    either (has_float x) (items_have_float (items_of xs)) (items_have_float (items_of (xs ++ ys)))
    (λ rest. items-append xs ys rest others) none

request-no_float : (r : Recording) (e d : ℕ) (found : Option Event) → items_have_float (items_of (request_by r e d found)) ≡ false
request-no_float r e d None = refl
request-no_float r e d (Some v) =
    let wanted = lock_taken r.events d in
    let others = has_float (lock_names r (other_locks r e wanted)) in
    ap (λ b. (b || (others || false)) || false) (hold-no_float r e wanted)
    ∙ ap (λ b. (b || false) || false) (names-no_float r (other_locks r e wanted))

outcome-no_float : (o : Outcome) (both : Data) → has_float both ≡ false → has_float (outcome_object o both) ≡ false
outcome-no_float (Deadlock how events threads) both none = ap (λ b. b || false) none
outcome-no_float (Undecided tried) both none = ap (λ b. b || false) none
outcome-no_float Apart both none = ap (λ b. b || false) none

-- the object of a verdict
pub verdict-no_float : (r : Recording) (v : Verdict) → has_float (verdict_object r v) ≡ false
verdict-no_float r v =
    outcome-no_float v.outcome (requests r v)
    (items-append (request_at r v.first v.second) (request_at r v.second v.first) (request-no_float r v.first v.second _)
    (request-no_float r v.second v.first _))
