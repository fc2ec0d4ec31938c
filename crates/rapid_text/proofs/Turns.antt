-- Events that are read one after another within the limits, and lines none of which is refused.
use Rattle.std.proofs.Common.{◌≡◌, ℕ, ◌<◌, zero, suc, List, [], ◌∷◌, ◌++◌, map, length, take, get_or, All, Option, Some, None, option_to_list, refl, sym, ap, ◌∙◌, subst, arith, append_assoc, append-nil}
use Rattle.std.specs.Prelude.{option_map}
use Rattle.std.specs.List.{cons_option}
use Rattle.std.proofs.lemmas.List.Elements.{All-head, All-tail}
use Rattle.std.proofs.lemmas.Option.{none-some}
use Rattle.rapid_text.specs.Reading.{NamedEvent, LineReading, Skipped, Refused, Says, line_reading, event_said, named_events, fault_after, refusal_at, refusals_of}
use Rattle.rapid_text.proofs.FirstFound.{nothing_found, none-from_nothing}
use Rattle.rapid_text.proofs.PrintedLines.{ReadsBack, line_of}

-- each of these events may follow the earlier ones
abbrev pub Follow : List NamedEvent → List NamedEvent → Type 0
Follow earlier [] = Unit {0}
Follow earlier (event ∷ events) = (fault_after earlier (Says event) ≡ None) × Follow (earlier ++ event ∷ []) events

-- none of these lines is refused after the earlier events
abbrev pub AreClean : List NamedEvent → List (List ℕ) → Type 0
AreClean earlier lines = (i : ℕ) → i < length lines → fault_after (earlier ++ named_events (take i lines)) (line_reading (get_or lines i [])) ≡ None

shift-option : (earlier : List NamedEvent) (o : Option NamedEvent) (events : List NamedEvent)
    → earlier ++ cons_option o events ≡ (earlier ++ option_to_list o) ++ events
shift-option earlier None events = ap (λ (es : List NamedEvent). es ++ events) (sym (append-nil earlier))
shift-option earlier (Some event) events = sym (append_assoc earlier (event ∷ []) events)

-- the lines behind the first one
AreClean-tail : (earlier : List NamedEvent) (line : List ℕ) (lines : List (List ℕ))
    → AreClean earlier (line ∷ lines)
    → AreClean (earlier ++ option_to_list (event_said (line_reading line))) lines
AreClean-tail earlier line lines clean i lt =
    ap (λ (es : List NamedEvent). fault_after es (line_reading (get_or lines i []))) (sym (shift-option earlier (event_said (line_reading line)) (named_events (take i lines))))
    ∙ clean (suc i) (omega arith)

-- one line more in front
Follow-cons : (earlier : List NamedEvent) (reading : LineReading) (events : List NamedEvent)
    → fault_after (earlier ++ []) reading ≡ None
    → Follow (earlier ++ option_to_list (event_said reading)) events
    → Follow earlier (cons_option (event_said reading) events)
Follow-cons earlier Skipped events no_fault behind = subst (λ (es : List NamedEvent). Follow es events) (append-nil earlier) behind
Follow-cons earlier (Refused why) events no_fault behind = subst (λ (es : List NamedEvent). Follow es events) (append-nil earlier) behind
Follow-cons earlier (Says event) events no_fault behind = (subst (λ (es : List NamedEvent). fault_after es (Says event) ≡ None) (append-nil earlier) no_fault, behind)

-- the events of lines none of which is refused may follow one another
pub Follow-clean : (earlier : List NamedEvent) (lines : List (List ℕ)) → AreClean earlier lines
    → Follow earlier (named_events lines)
Follow-clean earlier [] clean = tt
Follow-clean earlier (line ∷ lines) clean =
    Follow-cons earlier (line_reading line) (named_events lines) (clean 0 (omega arith))
    (Follow-clean (earlier ++ option_to_list (event_said (line_reading line))) lines (AreClean-tail earlier line lines clean))

-- the lines of events that may follow one another are not refused, nor is the empty line at their end
pub AreClean-lines : (earlier events : List NamedEvent) → All ReadsBack events → Follow earlier events
    → AreClean earlier (map line_of events ++ [] ∷ [])
AreClean-lines earlier [] read follow zero lt = refl
AreClean-lines earlier [] read follow (suc i) lt = absurd (omega arith)
AreClean-lines earlier (event ∷ events) read follow zero lt =
    let here = All-head ReadsBack event events read in
    ap (fault_after (earlier ++ [])) here ∙ ap (λ (es : List NamedEvent). fault_after es (Says event)) (append-nil earlier) ∙ follow.0
AreClean-lines earlier (event ∷ events) read follow (suc i) lt =
    let here = All-head ReadsBack event events read in
    let lines = map line_of events ++ [] ∷ [] in
    let later = named_events (take i lines) in
    let shifted : earlier ++ named_events (take (suc i) (line_of event ∷ lines)) ≡ (earlier ++ event ∷ []) ++ later =
    ap (λ (r : LineReading). earlier ++ cons_option (event_said r) later) here ∙ shift-option earlier (Some event) later in
    ap (λ (es : List NamedEvent). fault_after es (line_reading (get_or lines i []))) shifted
    ∙ AreClean-lines (earlier ++ event ∷ []) events (All-tail ReadsBack event events read) follow.1 i (omega arith)

None-from_option_map : {X Y : Type 0} (f : X → Y) (o : Option X) → option_map f o ≡ None → o ≡ None
None-from_option_map f None none = refl
None-from_option_map f (Some x) none = absurd (none-some (f x) (sym none))

-- lines none of which has a refusal are clean
pub AreClean-refusals_of : (lines : List (List ℕ)) → refusals_of lines ≡ [] → AreClean [] lines
AreClean-refusals_of lines none i lt = None-from_option_map _ _ (none-from_nothing (refusal_at lines) 0 (length lines) none i (omega arith) (omega arith))

-- and clean lines have none
pub refusals_of-clean : (lines : List (List ℕ)) → AreClean [] lines → refusals_of lines ≡ []
refusals_of-clean lines clean = nothing_found (refusal_at lines) 0 (length lines) (λ k low high. ap (option_map _) (clean k (omega arith)))
