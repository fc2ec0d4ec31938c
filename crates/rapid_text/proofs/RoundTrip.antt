-- The round trip: the canonical text of what was read reads as the same recording.
use Rattle.std.proofs.Common.{◌≡◌, ℕ, Bool, true, false, cond, List, [], ◌∷◌, ◌++◌, map, All, Ok, refl, sym, ap, ◌∙◌, subst}
use Rattle.std.specs.List.{slice_split, onto_first, cons_option}
use Rattle.std.proofs.lemmas.List.Elements.{All-nil, All-cons, All-head, All-tail, All-weaker}
use Rattle.rapid_text.specs.Canonical.{canonical_text}
use Rattle.rapid_text.specs.Reading.{is_line_feed, NamedEvent, LineReading, Skipped, Refused, Says, line_reading, event_said, named_events, refusals_of, reading_by, reading_of, recording_of}
use Rattle.rapid_text.specs.Recording.{Recording}
use Rattle.rapid_text.specs.declared.refusal.TextRefusal.{TextRefusal}
use Rattle.rapid_text.proofs.Cuts.{Fails}
use Rattle.rapid_text.proofs.CanonicalLines.{canonical_text-recording_of, slice_split-lines_text, named_events-lines}
use Rattle.rapid_text.proofs.PrintedLines.{ReadsBack, line_of, IsPrintable, no_feed-line_of, line_reading-line_of}
use Rattle.rapid_text.proofs.SaidLines.{IsPrintable-said}
use Rattle.rapid_text.proofs.Turns.{Follow-clean, AreClean-lines, AreClean-refusals_of, refusals_of-clean}

-- no byte of the line is a line feed
abbrev HasNoFeed : List ℕ → Type 0
HasNoFeed line = All (Fails is_line_feed) line

onto_first-no_feed : (c : ℕ) (lines : List (List ℕ)) → is_line_feed c ≡ false → All HasNoFeed lines
    → All HasNoFeed (onto_first c lines)
onto_first-no_feed c [] other clear =
    let single = All-cons (Fails is_line_feed) c [] other (All-nil (Fails is_line_feed)) in
    All-cons HasNoFeed (c ∷ []) [] single (All-nil HasNoFeed)
onto_first-no_feed c (line ∷ lines) other clear =
    let longer = All-cons (Fails is_line_feed) c line other (All-head HasNoFeed line lines clear) in
    All-cons HasNoFeed (c ∷ line) lines longer (All-tail HasNoFeed line lines clear)

cond-no_feed : (b : Bool) (c : ℕ) (lines : List (List ℕ)) → is_line_feed c ≡ b → All HasNoFeed lines
    → All HasNoFeed (cond b ([] ∷ lines) (onto_first c lines))
cond-no_feed true c lines is clear = All-cons HasNoFeed [] lines (All-nil (Fails is_line_feed)) clear
cond-no_feed false c lines is clear = onto_first-no_feed c lines is clear

-- the lines of a text have no line feed
lines-no_feed : (text : List ℕ) → All HasNoFeed (slice_split is_line_feed text)
lines-no_feed [] = All-cons HasNoFeed [] [] (All-nil (Fails is_line_feed)) (All-nil HasNoFeed)
lines-no_feed (c ∷ text) = cond-no_feed (is_line_feed c) c (slice_split is_line_feed text) refl (lines-no_feed text)

cons_option-printable : (line : List ℕ) (reading : LineReading) (events : List NamedEvent) → HasNoFeed line
    → line_reading line ≡ reading → All IsPrintable events
    → All IsPrintable (cons_option (event_said reading) events)
cons_option-printable line Skipped events clear is printable = printable
cons_option-printable line (Refused why) events clear is printable = printable
cons_option-printable line (Says event) events clear is printable =
    All-cons IsPrintable event events (IsPrintable-said line event clear is) printable

-- each event that lines ask for can be printed
named_events-printable : (lines : List (List ℕ)) → All HasNoFeed lines → All IsPrintable (named_events lines)
named_events-printable [] clear = All-nil IsPrintable
named_events-printable (line ∷ lines) clear =
    let later = named_events-printable lines (All-tail HasNoFeed line lines clear) in
    cons_option-printable line (line_reading line) (named_events lines) (All-head HasNoFeed line lines clear) refl later

-- a text is read where its lines have no fault
reading_of-clean : (text : List ℕ) (lines : List (List ℕ)) (events : List NamedEvent)
    → slice_split is_line_feed text ≡ lines → refusals_of lines ≡ [] → named_events lines ≡ events
    → reading_of text ≡ Ok (recording_of events)
unfolding reading_of
reading_of-clean text lines events split no_fault events_are =
    ap (λ (ls : List (List ℕ)). reading_by ls (refusals_of ls)) split
    ∙ ap (reading_by lines) no_fault
    ∙ ap (λ (es : List NamedEvent). Ok (recording_of es)) events_are

reading_by-Ok : (lines : List (List ℕ)) (refusals : List TextRefusal) (trace : Recording)
    → reading_by lines refusals ≡ Ok trace → (refusals ≡ []) × (trace ≡ recording_of (named_events lines))
reading_by-Ok lines [] trace is = (refl, (cc is))
reading_by-Ok lines (refusal ∷ later) trace is = absurd (cc is)

-- a text that is read has no fault, and its recording is that of the events that its lines ask for
reading_of-Ok : (text : List ℕ) (trace : Recording) → reading_of text ≡ Ok trace
    → (refusals_of (slice_split is_line_feed text) ≡ []) × (trace ≡ recording_of (named_events (slice_split is_line_feed text)))
unfolding reading_of
reading_of-Ok text trace is = reading_by-Ok (slice_split is_line_feed text) (refusals_of (slice_split is_line_feed text)) trace is

-- the canonical text of the events of lines without fault reads as the same recording
reading_of-events : (lines : List (List ℕ)) → All HasNoFeed lines → refusals_of lines ≡ []
    → reading_of (canonical_text (recording_of (named_events lines))) ≡ Ok (recording_of (named_events lines))
reading_of-events lines clear no_fault =
    let events = named_events lines in
    let text = canonical_text (recording_of events) in
    let printed = map line_of events ++ [] ∷ [] in
    let printable : All IsPrintable events = named_events-printable lines clear in
    let read : All ReadsBack events = All-weaker IsPrintable ReadsBack line_reading-line_of events printable in
    let unbroken : All (λ event. HasNoFeed (line_of event)) events =
    All-weaker IsPrintable (λ event. HasNoFeed (line_of event)) no_feed-line_of events printable in
    let split : slice_split is_line_feed text ≡ printed =
    ap (slice_split is_line_feed) (canonical_text-recording_of events) ∙ slice_split-lines_text events unbroken in
    let follow = Follow-clean [] lines (AreClean-refusals_of lines no_fault) in
    let clean = refusals_of-clean printed (AreClean-lines [] events read follow) in
    reading_of-clean text printed events split clean (named_events-lines events read)

-- the canonical text of what was read reads as the same recording
pub reading_of-canonical : (text : List ℕ) (trace : Recording) → reading_of text ≡ Ok trace
    → reading_of (canonical_text trace) ≡ Ok trace
reading_of-canonical text trace is =
    let lines = slice_split is_line_feed text in
    let parts = reading_of-Ok text trace is in
    subst (λ (r : Recording). reading_of (canonical_text r) ≡ Ok r) (sym parts.1) (reading_of-events lines (lines-no_feed text) parts.0)
