-- No number in the objects has a fraction; and an event that is not there is no access.
use Rattle.std.proofs.Common.{◌≡◌, ℕ, ◌≤◌, ◌||◌, Bool, true, false, List, [], ◌∷◌, ◌++◌, length, Option, Some, None, refl, ap}
use Rattle.std.proofs.lemmas.Option.{slice_get_past}
use Rattle.rapid_text.specs.Recording.{Recording}
use Rattle.rapid_text.specs.declared.event.Event.{Event}
use Rattle.serde_json.specs.Data.{Data}
use Rattle.serde_json.specs.View.{items_of}
use Rattle.serde_json.specs.Written.{has_float, items_have_float}
use Rattle.race_triage.specs.Texts.{held_locks}
use Rattle.race_triage.specs.declared.verdicts.Outcome.{Outcome}
use Rattle.race_triage.specs.declared.verdicts.Outcome.TheVariants.{Race, Undecided, Apart}
use Rattle.race_triage.specs.declared.verdicts.Verdict.{Verdict}
use Rattle.triage_report.specs.json.Objects.{access_at, access_by, accesses, lock_names, outcome_object, verdict_object}

pub access_at-none : (r : Recording) (e : ℕ) → length r.events ≤ e → access_at r e ≡ []
access_at-none r e past = ap (access_by r e) (slice_get_past r.events e past)

names-no_float : (r : Recording) (ls : List ℕ) → has_float (lock_names r ls) ≡ false
names-no_float r [] = refl
names-no_float r (l ∷ ls) = names-no_float r ls

either : (b c d : Bool) → (c ≡ false → d ≡ false) → (b || c) ≡ false → (b || d) ≡ false
either true c d more none = none
either false c d more none = more none

items-append : (xs ys : List Data) → items_have_float (items_of xs) ≡ false → items_have_float (items_of ys) ≡ false → items_have_float (items_of (xs ++ ys)) ≡ false
items-append [] ys none others = others
items-append (x ∷ xs) ys none others =
    either (has_float x) (items_have_float (items_of xs)) (items_have_float (items_of (xs ++ ys))) (λ rest. items-append xs ys rest others) none

access-no_float : (r : Recording) (e : ℕ) (found : Option Event) → items_have_float (items_of (access_by r e found)) ≡ false
access-no_float r e None = refl
access-no_float r e (Some v) = ap (λ b. (b || false) || false) (names-no_float r (held_locks r e))

outcome-no_float : (o : Outcome) (pairs variables : ℕ) (both : Data) → has_float both ≡ false → has_float (outcome_object o pairs variables both) ≡ false
outcome-no_float (Race how events threads) pairs variables both none = ap (λ b. b || false) none
outcome-no_float (Undecided tried) pairs variables both none = ap (λ b. b || false) none
outcome-no_float Apart pairs variables both none = ap (λ b. b || false) none

-- the object of a verdict
pub verdict-no_float : (r : Recording) (v : Verdict) → has_float (verdict_object r v) ≡ false
verdict-no_float r v =
    outcome-no_float v.outcome _ v.variables (accesses r v.first v.second)
    (items-append (access_at r v.first) (access_at r v.second) (access-no_float r v.first _) (access-no_float r v.second _))
