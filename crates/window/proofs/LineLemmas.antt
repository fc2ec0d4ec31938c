-- The lines of a window, as one event more comes.
use Rattle.std.proofs.Common.{◌≡◌, ℕ, zero, suc, ◌+◌, ◌-◌, ◌<◌, ◌≤◌, List, [], ◌∷◌, ◌++◌, length, take, drop, codes, Some, slice_get, sym, ap, ◌∙◌, subst, arith, add-one, append_assoc, append-nil}
use Rattle.std.proofs.lemmas.List.{get_or_append_left, get_or_push}
use Rattle.std.proofs.lemmas.Option.{get_or_from_slice_get}
use Rattle.rapid_text.specs.Canonical.{name_at, event_text, events_text}
use Rattle.rapid_text.specs.Recording.{Recording}
use Rattle.rapid_text.specs.declared.event.Event.{Event}
use Rattle.rapid_text.proofs.Appended.{events_text-next}
use Rattle.std.specs.Fmt.{decimal}
use Rattle.window.specs.Cuts.{begin_line, with_name, prologue_of, prologue_size, window_text, window_text_at}
use Rattle.window.specs.Made.{part_of}
use Rattle.window.proofs.PlaceLemmas.{get_drop}

-- a name among the others, and the one after them
pub name_front : (names : List (List ℕ)) (own : List ℕ) (i : ℕ) (name : List ℕ) → i < length names → slice_get names i ≡ Some name → name ≡ name_at (names ++ own ∷ []) i
name_front names own i name lt at = sym (get_or_append_left names (own ∷ []) [] i lt ∙ get_or_from_slice_get names i name [] at)

pub name_last : (names : List (List ℕ)) (own : List ℕ) (i : ℕ) → length names ≤ i → i < length names + 1 → own ≡ name_at (names ++ own ∷ []) i
name_last names own i low high = sym (get_or_push names own [] i (omega (arith, low, high)))

-- the lines of events without locations, and one more
pub lines_more : (r : Recording) (events : List Event) (i : ℕ) (event : Event) → slice_get events i ≡ Some event
    → events_text r (take (i + 1) events) [] ≡ events_text r (take i events) [] ++ event_text r event []
lines_more r events i event at = subst (λ (n : ℕ). events_text r (take n events) [] ≡ events_text r (take i events) [] ++ event_text r event []) (sym (add-one i)) (up events i at)
  where
    up : (es : List Event) (j : ℕ) → slice_get es j ≡ Some event → events_text r (take (suc j) es) [] ≡ events_text r (take j es) [] ++ event_text r event []
    up [] j here = cc
    up (first ∷ es) zero here =
        let same : first ≡ event = (cc here) in
        simp (same, append-nil)
    up (first ∷ es) (suc j) here =
        ap (λ (later : List ℕ). event_text r first [] ++ later) (up es j here)
        ∙ sym (append_assoc (event_text r first []) (events_text r (take j es) []) (event_text r event []))

-- the lines of a part, and one more
pub part_lines_more : (s r : Recording) (k e : ℕ) (event : Event) (location : List ℕ) → k ≤ e → slice_get r.events e ≡ Some event → slice_get r.locations e ≡ Some location
    → events_text s (part_of r.events k (e + 1)) (take (e + 1 - k) (drop k r.locations))
    ≡ events_text s (part_of r.events k e) (take (e - k) (drop k r.locations)) ++ event_text s event location
part_lines_more s r k e event location low at there =
    let next : e - k + 1 ≡ e + 1 - k = omega (arith, low) in
    let spot : k + (e - k) ≡ e = omega (arith, low) in
    subst (λ (n : ℕ). events_text s (take n (drop k r.events)) (take n (drop k r.locations)) ≡ events_text s (part_of r.events k e) (take (e - k) (drop k r.locations)) ++ event_text s event location)
    next
    (events_text-next s (drop k r.events) (drop k r.locations) (e - k) event location
    (get_drop k r.events (e - k) ∙ ap (slice_get r.events) spot ∙ at)
    (get_drop k r.locations (e - k) ∙ ap (slice_get r.locations) spot ∙ there))

flat : (old a b c d : List ℕ) → ((((old ++ a) ++ b) ++ c) ++ d) ≡ (old ++ (a ++ (b ++ (c ++ d))))
flat old a b c d = append_assoc ((old ++ a) ++ b) c d ∙ append_assoc (old ++ a) b (c ++ d) ∙ append_assoc old a (b ++ (c ++ d))

-- the first line, of its pieces
pub begun : (old one two three new : List ℕ) (b c j k m : ℕ) → one ≡ old ++ (codes "window|begin(FROM " ++ decimal j) → two ≡ one ++ (codes " TO " ++ decimal b)
    → three ≡ two ++ (codes " PROLOGUE " ++ decimal c) → new ≡ three ++ codes ")|\n" → j ≡ k → b ≡ m → new ≡ old ++ begin_line k m c
begun old one two three new b c j k m e1 e2 e3 e4 first second =
    let x : List ℕ = codes "window|begin(FROM " ++ decimal j in
    let y : List ℕ = codes " TO " ++ decimal b in
    let z : List ℕ = codes " PROLOGUE " ++ decimal c in
    let whole : new ≡ (((old ++ x) ++ y) ++ z) ++ codes ")|\n" = e4 ∙ ap (λ l. l ++ codes ")|\n") (e3 ∙ ap (λ l. l ++ z) (e2 ∙ ap (λ l. l ++ y) e1)) in
    let level : new ≡ old ++ begin_line j b c = whole ∙ flat old x y z (codes ")|\n") in
    level ∙ ap (λ n. old ++ begin_line n b c) first ∙ ap (λ n. old ++ begin_line k n c) second

-- a window's text, of its pieces; its first event has the number q
pub pieces_are : (r : Recording) (own : List ℕ) (q q' k m n : ℕ) (none one two new : List ℕ) (events : List Event) → none ≡ [] → one ≡ none ++ begin_line q q' n
    → two ≡ one ++ events_text (with_name r own) events [] → new ≡ two ++ events_text (with_name r own) (part_of r.events k m) (take (m - k) (drop k r.locations))
    → n ≡ prologue_size r k m → events ≡ prologue_of r k m
    → new ≡ begin_line q q' (prologue_size r k m) ++ (events_text (with_name r own) (prologue_of r k m) [] ++ events_text (with_name r own) (part_of r.events k m) (take (m - k) (drop k r.locations)))
pieces_are r own q q' k m n none one two new events e0 e1 e2 e3 size is =
    let s : Recording = with_name r own in
    let last : List ℕ = events_text s (part_of r.events k m) (take (m - k) (drop k r.locations)) in
    let first : one ≡ begin_line q q' (prologue_size r k m) = e1 ∙ ap (λ l. l ++ begin_line q q' n) e0 ∙ ap (begin_line q q') size in
    let then : two ≡ begin_line q q' (prologue_size r k m) ++ events_text s (prologue_of r k m) [] =
    e2 ∙ ap (λ l. l ++ events_text s events []) first ∙ ap (λ es. begin_line q q' (prologue_size r k m) ++ events_text s es []) is in
    e3 ∙ ap (λ l. l ++ last) then ∙ append_assoc (begin_line q q' (prologue_size r k m)) (events_text s (prologue_of r k m) []) last

pub window_is : (r : Recording) (own : List ℕ) (j j' k m n : ℕ) (none one two new : List ℕ) (events : List Event) → none ≡ [] → one ≡ none ++ begin_line j j' n
    → two ≡ one ++ events_text (with_name r own) events [] → new ≡ two ++ events_text (with_name r own) (part_of r.events k m) (take (m - k) (drop k r.locations))
    → n ≡ prologue_size r k m → events ≡ prologue_of r k m → j ≡ k → j' ≡ m → new ≡ window_text r own k m
unfolding window_text
window_is r own j j' k m n none one two new events e0 e1 e2 e3 size is from to =
    pieces_are r own k m k m n none one two new events e0 (e1 ∙ ap (λ a. none ++ begin_line a j' n) from ∙ ap (λ a. none ++ begin_line k a n) to) e2 e3 size is

pub window_at_is : (r : Recording) (own : List ℕ) (q d k m n : ℕ) (none one two new : List ℕ) (events : List Event) → none ≡ [] → one ≡ none ++ begin_line q (q + d) n
    → two ≡ one ++ events_text (with_name r own) events [] → new ≡ two ++ events_text (with_name r own) (part_of r.events k m) (take (m - k) (drop k r.locations))
    → n ≡ prologue_size r k m → events ≡ prologue_of r k m → d ≡ m - k → new ≡ window_text_at r own q k m
unfolding window_text_at
window_at_is r own q d k m n none one two new events e0 e1 e2 e3 size is long =
    pieces_are r own q (q + (m - k)) k m n none one two new events e0 (e1 ∙ ap (λ a. none ++ begin_line q (q + a) n) long) e2 e3 size is
