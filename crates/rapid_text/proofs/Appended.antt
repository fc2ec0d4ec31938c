-- One piece after another appended to a text, and the canonical text of one event more.
use Rattle.std.proofs.Common.{◌≡◌, ℕ, ◌+◌, ◌≤◌, zero, suc, List, [], ◌∷◌, ◌++◌, length, take, slice_get, codes, Some, sym, ap, ◌∙◌, subst, append_assoc, append-nil, add-one, take_all}
use Rattle.rapid_text.specs.declared.event.Event.{Event}
use Rattle.rapid_text.specs.Canonical.{event_text, events_text, canonical_text}
use Rattle.rapid_text.specs.Recording.{Recording}

-- the text after each piece of a line was appended
pub appended-line : (old with_thread with_bar with_op with_bars with_location new thread op location : List ℕ)
    → with_thread ≡ old ++ thread → with_bar ≡ with_thread ++ 124 ∷ [] → with_op ≡ with_bar ++ op
    → with_bars ≡ with_op ++ 124 ∷ [] → with_location ≡ with_bars ++ location
    → new ≡ with_location ++ 10 ∷ []
    → new ≡ old ++ (thread ++ codes "|" ++ op ++ codes "|" ++ location ++ codes "\n")
appended-line old with_thread with_bar with_op with_bars with_location new thread op location e1 e2 e3 e4 e5 e6 =
    let whole : new ≡ (old ++ thread ++ 124 ∷ [] ++ op ++ 124 ∷ [] ++ location ++ 10 ∷ []) = cc in
    whole ∙ simp append_assoc

-- the canonical text of one event more
pub events_text-more : (r : Recording) (events : List Event) (locations : List (List ℕ)) (i : ℕ) (event : Event) (location : List ℕ)
    → slice_get events i ≡ Some event → slice_get locations i ≡ Some location
    → events_text r (take (suc i) events) (take (suc i) locations) ≡ events_text r (take i events) (take i locations) ++ event_text r event location
events_text-more r [] locations i event location at_event at_location = cc
events_text-more r (first ∷ events) [] i event location at_event at_location = cc
events_text-more r (first ∷ events) (its ∷ locations) zero event location at_event at_location =
    let same : first ≡ event = (cc at_event) in
    let same_location : its ≡ location = (cc at_location) in
    simp (same, same_location, append-nil)
events_text-more r (first ∷ events) (its ∷ locations) (suc i) event location at_event at_location =
    ap (λ (later : List ℕ). event_text r first its ++ later) (events_text-more r events locations i event location at_event at_location)
    ∙ sym (append_assoc (event_text r first its) (events_text r (take i events) (take i locations)) (event_text r event location))

-- the same, with the count of events in the code's form
pub events_text-next : (r : Recording) (events : List Event) (locations : List (List ℕ)) (i : ℕ) (event : Event) (location : List ℕ)
    → slice_get events i ≡ Some event → slice_get locations i ≡ Some location
    → events_text r (take (i + 1) events) (take (i + 1) locations) ≡ events_text r (take i events) (take i locations) ++ event_text r event location
events_text-next r events locations i event location at_event at_location =
    let before = events_text r (take i events) (take i locations) in
    subst (λ (n : ℕ). events_text r (take n events) (take n locations) ≡ before ++ event_text r event location) (sym (add-one i))
    (events_text-more r events locations i event location at_event at_location)

-- the canonical text, once each event is appended
pub events_text-all : (r : Recording) (n : ℕ) → length r.events ≤ n → length r.locations ≤ n
    → events_text r (take n r.events) (take n r.locations) ≡ canonical_text r
unfolding canonical_text
events_text-all r n all_events all_locations =
    ap (λ (events : List Event). events_text r events (take n r.locations)) (take_all n r.events all_events)
    ∙ ap (events_text r r.events) (take_all n r.locations all_locations)
