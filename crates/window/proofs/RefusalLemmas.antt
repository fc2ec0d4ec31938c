-- Which line of all that was read is refused, if one is behind a text that leaves the same behind.
use Rattle.std.proofs.Common.{◌≡◌, ◌≢◌, ◌⊎◌, ℕ, ◌+◌, ◌-◌, ◌<◌, ◌≤◌, Bool, true, false, cond, nat_le, nat_lt, List, [], ◌∷◌, ◌++◌, length, take, get_or, Option, Some, None, Ok, Err, slice_get, refl, sym, ap, ap₂, ◌∙◌, subst, arith, append_assoc, append-nil, inl, inr}
use Rattle.std.specs.List.{slice_split}
use Rattle.std.specs.Option.{option_map}
use Rattle.std.proofs.lemmas.Bool.{cases_lt}
use Rattle.std.proofs.lemmas.List.{take-append-le, get_or_append_left, get_or-append-add}
use Rattle.std.proofs.lemmas.List.Elements.{filter_map-append}
use Rattle.std.proofs.lemmas.List.Splits.{length-slice_split}
use Rattle.std.proofs.lemmas.List.Sums.{sum_by-append}
use Rattle.std.proofs.lemmas.Option.{none-some}
use Rattle.std.proofs.Math.Seq.{take-append-add}
use Rattle.rapid_text.specs.Limits.{event_limit, thread_limit}
use Rattle.rapid_text.specs.Reading.{NamedEvent, LineReading, Skipped, Refused, Says, is_line_feed, line_reading, event_said, named_events, first_uses, fault_after, refusal_at, refusals_of, reading_by, reading_of, thread_uses}
use Rattle.rapid_text.specs.Recording.{Recording}
use Rattle.rapid_text.specs.declared.refusal.TextCause.{TextCause}
use Rattle.rapid_text.specs.declared.refusal.TextCause.TheVariants.{TooManyEvents, TooManyNames}
use Rattle.rapid_text.specs.declared.refusal.TextRefusal.{TextRefusal}
use Rattle.rapid_text.proofs.FirstFound.{IsFirstFound, is_first_found}
use Rattle.rapid_text.proofs.Turns.{AreClean, AreClean-refusals_of}
use Rattle.window.specs.StreamLaws.{StreamReads, StreamRefuses}
use Rattle.window.specs.Streams.{IsFirstRefused, IsUnrefused, IsWhole, feeds, line_fault, refused_at, said_in}
use Rattle.window.proofs.StreamLemmas.{said_seam, split_seam}

pub feeds-append : (a b : List ℕ) → feeds (a ++ b) ≡ feeds a + feeds b
feeds-append a b = sum_by-append (λ c. cond (is_line_feed c) 1 0) a b

-- why a line is refused after events, if it is not for how many they are
fault_is : (E : List NamedEvent) (r : LineReading) (why : TextCause) → fault_after E r ≡ Some why → (line_fault r ≡ Some why) ⊎ ((why ≡ TooManyEvents) ⊎ (why ≡ TooManyNames))
fault_is E Skipped why is = absurd (none-some why is)
fault_is E (Refused cause) why is = inl is
fault_is E (Says e) why is = inr (one (nat_le event_limit (length E)) (nat_lt thread_limit (length (first_uses (thread_uses (E ++ e ∷ []))))) is)
  where
    one : (a b : Bool) → cond a (Some TooManyEvents) (cond b (Some TooManyNames) None) ≡ Some why → (why ≡ TooManyEvents) ⊎ (why ≡ TooManyNames)
    one true b is = inl (sym (cc is))
    one false true is = inr (sym (cc is))
    one false false is = absurd (none-some why is)

fault_none : (E : List NamedEvent) (r : LineReading) → fault_after E r ≡ None → line_fault r ≡ None
fault_none E Skipped is = refl
fault_none E (Refused why) is = is
fault_none E (Says e) is = refl

-- The lines of a text of whole lines, before those of another text.
abbrev HasHeads : List ℕ → List (List ℕ) → Type 0
HasHeads text fs =
    (length fs ≡ feeds text) × (named_events fs ≡ said_in text) × ((ys : List ℕ) → slice_split is_line_feed (text ++ ys) ≡ fs ++ slice_split is_line_feed ys)

heads_of : (text : List ℕ) → IsWhole text → (fs : List (List ℕ)) × HasHeads text fs
heads_of text (inl none) = ([], (sym (ap feeds none), sym (ap said_in none), λ ys. ap (λ (t : List ℕ). slice_split is_line_feed (t ++ ys)) none))
heads_of text (inr (front, is)) = (
  slice_split is_line_feed front,
  (
    length-slice_split is_line_feed front ∙ sym (ap feeds is ∙ feeds-append front (10 ∷ [])),
    sym (ap said_in is ∙ said_seam front [] ∙ append-nil (said_in front)),
    λ ys. ap (λ (t : List ℕ). slice_split is_line_feed (t ++ ys)) is ∙ ap (slice_split is_line_feed) (append_assoc front (10 ∷ []) ys) ∙ split_seam front ys,
  ),
)

-- what is said of the line at a place, by the events before it
abbrev at_line : (List NamedEvent → LineReading → Option TextCause) → List (List ℕ) → ℕ → Option TextCause
at_line g lines i = g (named_events (take i lines)) (line_reading (get_or lines i []))

module _ (g : List NamedEvent → LineReading → Option TextCause) (fs L : List (List ℕ)) where
  late : (p : ℕ) → at_line g (fs ++ L) (length fs + p) ≡ g (named_events fs ++ named_events (take p L)) (line_reading (get_or L p []))
  late p =
      ap₂ (λ (es : List NamedEvent) (l : List ℕ). g es (line_reading l))
      (ap named_events (take-append-add fs L p) ∙ filter_map-append (λ line. event_said (line_reading line)) fs (take p L))
      (get_or-append-add fs L p [])

  early : (i : ℕ) → i < length fs → at_line g (fs ++ L) i ≡ at_line g fs i
  early i lt =
      ap₂ (λ (es : List NamedEvent) (l : List ℕ). g es (line_reading l))
      (ap named_events (take-append-le i fs L (omega (arith, lt))))
      (get_or_append_left fs L [] i lt)

-- a text of whole lines alone
alone : (text : List ℕ) (fs : List (List ℕ)) → HasHeads text fs → slice_split is_line_feed text ≡ fs ++ slice_split is_line_feed []
alone text fs heads = ap (slice_split is_line_feed) (sym (append-nil text)) ∙ heads.2 []

no_refusals : (lines : List (List ℕ)) (refusals : List TextRefusal) (r : Recording) → reading_by lines refusals ≡ Ok r → refusals ≡ []
no_refusals lines [] r is = refl
no_refusals lines (first ∷ later) r is = absurd (cc is)

first_refusal : (lines : List (List ℕ)) (refusals : List TextRefusal) (why : TextRefusal) → reading_by lines refusals ≡ Err why → slice_get refusals 0 ≡ Some why
first_refusal lines [] why is = absurd (cc is)
first_refusal lines (first ∷ later) why is = ap Some (cc is)

clean_lines : (text : List ℕ) (r : Recording) → reading_of text ≡ Ok r → AreClean [] (slice_split is_line_feed text)
unfolding reading_of
clean_lines text r is = let lines = slice_split is_line_feed text in AreClean-refusals_of lines (no_refusals lines (refusals_of lines) r is)

found_line : (text : List ℕ) (why : TextRefusal) → reading_of text ≡ Err why
    → (let lines = slice_split is_line_feed text in IsFirstFound (refusal_at lines) 0 (length lines) why)
unfolding reading_of
found_line text why is =
    let lines = slice_split is_line_feed text in
    is_first_found (refusal_at lines) 0 (length lines) why (first_refusal lines (refusals_of lines) why is)

of_refusal : (o : Option TextCause) (i : ℕ) (why : TextRefusal) → option_map (λ cause. let r : TextRefusal = record { line = i + 1; why = cause } in r) o ≡ Some why
    → (o ≡ Some why.why) × (why.line ≡ i + 1)
of_refusal None i why is = absurd (none-some why is)
of_refusal (Some cause) i why is =
    let same : (let r : TextRefusal = record { line = i + 1; why = cause } in r) ≡ why = cc is in
    (ap (λ (r : TextRefusal). Some r.why) same, sym (ap (λ (r : TextRefusal). r.line) same))

of_none : (o : Option TextCause) (i : ℕ) → option_map (λ cause. let r : TextRefusal = record { line = i + 1; why = cause } in r) o ≡ None → o ≡ None
of_none None i is = refl
of_none (Some cause) i is = absurd (none-some (record { line = i + 1; why = cause }) (sym is))

-- What was read, and a piece after it.
module _ (front more : List ℕ) (fs : List (List ℕ)) (of_front : HasHeads front fs) where
  abbrev L : List (List ℕ)
  L = slice_split is_line_feed more

  abbrev line_in : List (List ℕ) → ℕ → Option TextCause
  line_in lines i = line_fault (line_reading (get_or lines i []))

  -- a line of the piece, in the whole
  in_whole : (p : ℕ) → refused_at (front ++ more) (length fs + p) ≡ refused_at more p
  in_whole p =
      ap (λ (ls : List (List ℕ)). line_in ls (length fs + p)) (of_front.2 more)
      ∙ ap (λ (l : List ℕ). line_fault (line_reading l)) (get_or-append-add fs L p [])

  -- a line of what was read
  in_front : (i : ℕ) → i < length fs → refused_at (front ++ more) i ≡ refused_at front i
  in_front i lt =
      ap (λ (ls : List (List ℕ)). line_in ls i) (of_front.2 more)
      ∙ ap (λ (l : List ℕ). line_fault (line_reading l)) (get_or_append_left fs L [] i lt ∙ sym (get_or_append_left fs (slice_split is_line_feed []) [] i lt))
      ∙ sym (ap (λ (ls : List (List ℕ)). line_in ls i) (alone front fs of_front))

  long_L : length L ≡ feeds more + 1
  long_L = length-slice_split is_line_feed more

  pub all_read : IsUnrefused front → IsUnrefused more → IsUnrefused (front ++ more)
  all_read before clean i lt =
      elim (cases_lt i (length fs)) [
        | inl low ↦ in_front i low ∙ before i (omega (arith, low, of_front.0))
        | inr le ↦
            let p : ℕ = i - length fs in
            let place : length fs + p ≡ i = omega (arith, le) in
            subst (λ (j : ℕ). refused_at (front ++ more) j ≡ None) place
            (in_whole p ∙ clean p (omega (arith, lt, le, feeds-append front more, of_front.0)))
      ]

  pub first_line : IsUnrefused front → (why : TextRefusal) → IsFirstFound (refusal_at L) 0 (length L) why → why.why ≢ TooManyEvents → why.why ≢ TooManyNames
      → IsFirstRefused (front ++ more) (feeds front + why.line) why.why
  first_line before why found few narrow = record { counted = counted; within = within; fault = fault; earlier = earlier }
    where
      there : (at_line fault_after L found.place ≡ Some why.why) × (why.line ≡ found.place + 1)
      there = of_refusal (at_line fault_after L found.place) found.place why found.here

      counted : 0 < feeds front + why.line
      counted = omega (arith, there.1)

      within : feeds front + why.line ≤ feeds (front ++ more) + 1
      within = omega (arith, found.high, there.1, long_L, feeds-append front more)

      line_at : length fs + found.place ≡ (feeds front + why.line) - 1
      line_at = omega (arith, there.1, of_front.0)

      own : refused_at more found.place ≡ Some why.why
      own =
          elim (fault_is (named_events (take found.place L)) (line_reading (get_or L found.place [])) why.why there.0) [
            | inl is ↦ is
            | inr other ↦ elim other [
              | inl many ↦ absurd (few many)
              | inr many ↦ absurd (narrow many)
            ]
          ]

      fault : refused_at (front ++ more) ((feeds front + why.line) - 1) ≡ Some why.why
      fault = ap (refused_at (front ++ more)) (sym line_at) ∙ in_whole found.place ∙ own

      earlier : (j : ℕ) → j + 1 < feeds front + why.line → refused_at (front ++ more) j ≡ None
      earlier j lt =
          elim (cases_lt j (length fs)) [
            | inl low ↦ in_front j low ∙ before j (omega (arith, low, of_front.0))
            | inr le ↦
                let q : ℕ = j - length fs in
                let at : length fs + q ≡ j = omega (arith, le) in
                let less : q < found.place = omega (arith, le, lt, there.1, of_front.0) in
                let none : at_line fault_after L q ≡ None = of_none (at_line fault_after L q) q (found.before q (omega arith) less) in
                subst (λ (i : ℕ). refused_at (front ++ more) i ≡ None) at
                (in_whole q ∙ fault_none (named_events (take q L)) (line_reading (get_or L q [])) none)
          ]

-- the lines of a text that is read are no faults
pub none_at : (text : List ℕ) (r : Recording) → reading_of text ≡ Ok r → (i : ℕ) → i < feeds text + 1 → refused_at text i ≡ None
none_at text r reads i lt =
    let lines = slice_split is_line_feed text in
    fault_none (named_events (take i lines)) (line_reading (get_or lines i [])) (clean_lines text r reads i (omega (arith, lt, length-slice_split is_line_feed text)))

-- what was read and a piece of which no line is refused
pub unrefused-append : (front more : List ℕ) → IsWhole front → IsUnrefused front → IsUnrefused more → IsUnrefused (front ++ more)
unrefused-append front more whole before own = let fs = heads_of front whole in all_read front more fs.0 fs.1 before own

pub reads_law : StreamReads
reads_law front more r whole before reads = unrefused-append front more whole before (none_at more r reads)

-- no line of a piece is refused that is read behind a text
pub none_behind : (head more : List ℕ) (r : Recording) → IsWhole head → reading_of (head ++ more) ≡ Ok r → IsUnrefused more
none_behind head more r whole reads i lt =
    let hs = heads_of head whole in
    sym (in_whole head more hs.0 hs.1 i) ∙ none_at (head ++ more) r reads (length hs.0 + i) (omega (arith, lt, feeds-append head more, hs.1.0))

pub refuses_law : StreamRefuses
refuses_law front more why whole before refused few narrow =
    let fs = heads_of front whole in
    first_line front more fs.0 fs.1 before why (found_line more why refused) few narrow

-- Where two texts are read, but not both one after the other, they have too many events or too many threads.
pub too_large : (head more : List ℕ) (r s : Recording) (why : TextRefusal) → IsWhole head → reading_of head ≡ Ok r → reading_of more ≡ Ok s → reading_of (head ++ more) ≡ Err why
    → (why.why ≡ TooManyEvents) ⊎ (why.why ≡ TooManyNames)
too_large head more r s why whole head_reads more_reads refused =
    let lines = slice_split is_line_feed (head ++ more) in
    let found = found_line (head ++ more) why refused in
    let there = of_refusal (at_line fault_after lines found.place) found.place why found.here in
    let unrefused = reads_law head more s whole (none_at head r head_reads) more_reads in
    let within : found.place < feeds (head ++ more) + 1 = omega (arith, found.high, length-slice_split is_line_feed (head ++ more)) in
    elim (fault_is (named_events (take found.place lines)) (line_reading (get_or lines found.place [])) why.why there.0) [
      | inl is ↦ absurd (none-some why.why (sym (unrefused found.place within) ∙ is))
      | inr many ↦ many
    ]
