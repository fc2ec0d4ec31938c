-- What stands in the place of what was read, and what a window after it tells.
use Rattle.std.proofs.Common.{◌≡◌, ◌≢◌, ℕ, zero, suc, ◌+◌, ◌-◌, ◌<◌, ◌≤◌, Bool, true, false, cond, List, [], ◌∷◌, ◌++◌, length, take, All, Ok, bytes_eq, get_or, slice_get, Some, None, ◌↔◌, refl, sym, ap, ap₂, ◌∙◌, subst, arith, append_assoc, append-nil, inl, inr}
use Rattle.std.specs.List.{IsDistinct, slice_split, onto_first}
use Rattle.std.proofs.lemmas.Bool.{cases_Bool, cases_lt, or_left, or_right, false≢true}
use Rattle.std.proofs.lemmas.List.Folds.{list_any-append}
use Rattle.std.proofs.lemmas.List.{length-append, length-map, map-append, get_or-append-add, get_or_append_left, take-append-le}
use Rattle.std.proofs.Math.Seq.{drop-append_seam, take-append_seam, take-append-add}
use Rattle.std.proofs.lemmas.List.Elements.{All-drop, All-nil, All-take, All-weaker, filter_map-append}
use Rattle.std.proofs.lemmas.List.Splits.{slice_split-cons_yes, slice_split-cons_no, length-slice_split}
use Rattle.std.proofs.lemmas.Option.{slice_get-get_or, slice_get_within, get_or_from_slice_get}
use Rattle.rapid_text.specs.Reading.{NamedEvent, is_line_feed, line_reading, event_said, name_where, named_events, names_thread, number_of, numbered, numbered_op, reading_of, refusals_of, recording_of, thread_uses, variable_uses, lock_uses}
use Rattle.rapid_text.specs.declared.event.Kind.{Kind}
use Rattle.rapid_text.specs.declared.event.Kind.TheVariants.{Reads, Writes, Acquires, Releases, Forks, Joins}
use Rattle.rapid_text.proofs.NameNumbers.{has, bytes_eq-refl}
use Rattle.rapid_text.specs.Recording.{Recording}
use Rattle.rapid_text.specs.declared.event.Event.{Event}
use Rattle.rapid_text.specs.declared.event.Op.TheVariants.{Read, Fork}
use Rattle.rapid_text.proofs.Cuts.{Fails}
use Rattle.rapid_text.proofs.CanonicalLines.{lines_text, slice_split-lines_text, named_events-lines}
use Rattle.rapid_text.proofs.PrintedLines.{IsPrintable, ReadsBack, line_of, no_feed-line_of, line_reading-line_of}
use Rattle.trace_rules.specs.Rules.{IsDisciplined, IsFirstBreach, breach_at, hold_count}
use Rattle.trace_rules.specs.declared.refusal.RuleRefusal.{RuleRefusal}
use Rattle.trace_rules.proofs.CallerLemmas.{IsDisciplined-from_none, none-from_IsDisciplined}
use Rattle.event_index.specs.Lookups.{before}
use Rattle.schedule.specs.Reordering.{IsCorrectReordering}
use Rattle.schedule.specs.Shows.{Shows}
use Rattle.window.specs.Cuts.{prologue_size}
use Rattle.window.specs.Laws.{IsNeverShown, IsNeverShownFrom}
use Rattle.window.specs.Renamed.{Names, AreApart, renamed, renamed_event}
use Rattle.window.specs.StreamLaws.{StreamBegins, StreamBreaks, StreamIsSound, StreamKeepsRules}
use Rattle.window.specs.Streams.{IsLeft, IsExactPart, IsNumbering, IsThreadOf, IsWhole, by_numbers, said_in}
use Rattle.window.proofs.WindowLemmas.{tag, arg}
use Rattle.window.specs.Window.{IsWindow, IsTaken, back, resumed}
use Rattle.window.proofs.ApartLemmas.{apart_window_law}
use Rattle.window.proofs.LeftLemmas.{AreOfThreads, IsOfThreads, breach_at-renamed, breach_early, breach_late, even-from_rules, even-of_rules, holds-append, rules-left, rules-renamed}
use Rattle.window.proofs.NameLemmas.{distinct_first_uses, translated_is}
use Rattle.window.proofs.NumberLemmas.{of_thread, first_numbers, into, into_is, into_locks, into_threads, moved, numbering-left, numbering-right, numbering-self}
use Rattle.window.proofs.ReadLemmas.{to_own, to_own_apart, in_threads, in_variables, in_locks}
use Rattle.window.proofs.RenamedLemmas.{renamed_law}
use Rattle.window.proofs.SoundLemmas.{sound_law}
use Rattle.window.proofs.TextLemmas.{IsKnown, known_said, reading_by-Ok}

-- Texts of whole lines.
onto_append : (x : ℕ) (ps qs : List (List ℕ)) → 0 < length ps → onto_first x (ps ++ qs) ≡ onto_first x ps ++ qs
onto_append x [] qs some = absurd (omega arith)
onto_append x (p ∷ ps) qs some = refl

pub split_seam : (xs ys : List ℕ) → slice_split is_line_feed (xs ++ 10 ∷ ys) ≡ slice_split is_line_feed xs ++ slice_split is_line_feed ys
split_seam [] ys = slice_split-cons_yes is_line_feed 10 ys refl
split_seam (x ∷ xs) ys =
    elim (cases_Bool (is_line_feed x)) [
      | inl feed ↦
          slice_split-cons_yes is_line_feed x (xs ++ 10 ∷ ys) feed
          ∙ ap (λ (ls : List (List ℕ)). [] ∷ ls) (split_seam xs ys)
          ∙ sym (ap (λ (ls : List (List ℕ)). ls ++ slice_split is_line_feed ys) (slice_split-cons_yes is_line_feed x xs feed))
      | inr other ↦
          slice_split-cons_no is_line_feed x (xs ++ 10 ∷ ys) other
          ∙ ap (onto_first x) (split_seam xs ys)
          ∙ onto_append x (slice_split is_line_feed xs) (slice_split is_line_feed ys) (omega (arith, length-slice_split is_line_feed xs))
          ∙ sym (ap (λ (ls : List (List ℕ)). ls ++ slice_split is_line_feed ys) (slice_split-cons_no is_line_feed x xs other))
    ]

pub said_seam : (xs ys : List ℕ) → said_in (xs ++ 10 ∷ ys) ≡ said_in xs ++ said_in ys
said_seam xs ys =
    ap named_events (split_seam xs ys)
    ∙ filter_map-append (λ line. event_said (line_reading line)) (slice_split is_line_feed xs) (slice_split is_line_feed ys)

said_nil : said_in [] ≡ []
said_nil = refl

pub said-append : (xs ys : List ℕ) → IsWhole xs → said_in (xs ++ ys) ≡ said_in xs ++ said_in ys
said-append xs ys (inl none) =
    ap (λ (t : List ℕ). said_in (t ++ ys)) none ∙ sym (ap (λ (t : List ℕ). said_in t ++ said_in ys) none)
said-append xs ys (inr (front, is)) =
    let one : said_in xs ≡ said_in front = ap said_in is ∙ said_seam front [] ∙ append-nil (said_in front) in
    ap (λ (t : List ℕ). said_in (t ++ ys)) is ∙ ap said_in (append_assoc front (10 ∷ []) ys) ∙ said_seam front ys
    ∙ ap (λ (es : List NamedEvent). es ++ said_in ys) (sym one)

pub whole-append : (xs ys : List ℕ) → IsWhole xs → IsWhole ys → IsWhole (xs ++ ys)
whole-append xs ys first (inl none) = subst IsWhole (sym (ap (λ (t : List ℕ). xs ++ t) none ∙ append-nil xs)) first
whole-append xs ys first (inr (front, is)) = inr (xs ++ front, ap (λ (t : List ℕ). xs ++ t) is ∙ sym (append_assoc xs front (10 ∷ [])))

pub whole_lines : (X : List NamedEvent) → IsWhole (lines_text X)
whole_lines [] = inl refl
whole_lines (e ∷ X) = whole-append (line_of e ++ 10 ∷ []) (lines_text X) (inr (line_of e, refl)) (whole_lines X)

pub said_lines : (X : List NamedEvent) → All IsPrintable X → said_in (lines_text X) ≡ X
said_lines X printable =
    let clear : All (λ e. All (Fails is_line_feed) (line_of e)) X = All-weaker IsPrintable (λ e. All (Fails is_line_feed) (line_of e)) no_feed-line_of X printable in
    ap named_events (slice_split-lines_text X clear) ∙ named_events-lines X (All-weaker IsPrintable ReadsBack line_reading-line_of X printable)

-- what is read is what the lines say
pub read_is : (text : List ℕ) (r : Recording) → reading_of text ≡ Ok r → r ≡ recording_of (said_in text)
unfolding reading_of
read_is text r is = let lines = slice_split is_line_feed text in reading_by-Ok lines (refusals_of lines) r is

pub begins_law : StreamBegins
begins_law = record {
  whole = inl refl;
  keeps = IsDisciplined-from_none [] (λ j lt. absurd (omega (arith, lt)));
  forked = λ name. refl;
  seen = λ name. refl;
  joined = λ name. refl;
  ends = inl refl;
  takes = All-nil (λ (e : NamedEvent). e.kind ≡ Acquires);
  names = λ R n. n;
  holds = λ R n t l. refl;
}

pub numbers_append : (R : Recording) (X Z : List NamedEvent) → by_numbers R (X ++ Z) ≡ by_numbers R X ++ by_numbers R Z
numbers_append R X Z = map-append (numbered R.threads R.variables R.locks) X Z

-- a recording that keeps the rules keeps them in other numbers
pub rules_in : (R : Recording) (X : List NamedEvent) → IsNumbering R X → IsDisciplined (recording_of X).events → IsDisciplined (by_numbers R X)
rules_in R X n rules = subst IsDisciplined (into_is R X n) (rules-renamed (into R X n) (into_threads R X n) (into_locks R X n) (recording_of X).events rules)

All_left : {X : Type 0} (Q : X → Type 0) (xs ys : List X) → All Q (xs ++ ys) → All Q xs
All_left Q xs ys all = subst (All Q) (take-append_seam xs ys) (All-take Q (length xs) (xs ++ ys) all)

All_right : {X : Type 0} (Q : X → Type 0) (xs ys : List X) → All Q (xs ++ ys) → All Q ys
All_right Q xs ys all = subst (All Q) (drop-append_seam xs ys) (All-drop Q (length xs) (xs ++ ys) all)

-- The trace of a text in the numbers of a recording that has all its names.
module _ (R : Recording) (X : List NamedEvent) (known : All (IsKnown R) X) (each_thread : IsDistinct bytes_eq R.threads) (each_variable : IsDistinct bytes_eq R.variables)
    (each_lock : IsDistinct bytes_eq R.locks) where
  own_is : renamed (to_own R X known each_thread each_variable each_lock) (recording_of X).events ≡ by_numbers R X
  own_is =
      let r = recording_of X in
      moved r R (to_own R X known each_thread each_variable each_lock)
      (λ x here. translated_is r.threads R.threads (distinct_first_uses (thread_uses X)) (in_threads R X known each_thread each_variable each_lock) x here)
      (λ x here. translated_is r.variables R.variables (distinct_first_uses (variable_uses X)) (in_variables R X known each_thread each_variable each_lock) x here)
      (λ x here. translated_is r.locks R.locks (distinct_first_uses (lock_uses X)) (in_locks R X known each_thread each_variable each_lock) x here)
      X (known_said X)

-- The threads of events are those that they name.
forked_is : (R : Recording) (kind : Kind) (name : List ℕ) (u : ℕ) → numbered_op R.threads R.variables R.locks kind name ≡ Fork u
    → (names_thread kind ≡ true) × (u ≡ number_of R.threads name)
forked_is R Forks name u is = (refl, sym (ap arg is))
forked_is R Reads name u is = absurd (omega (arith, ap tag is))
forked_is R Writes name u is = absurd (omega (arith, ap tag is))
forked_is R Acquires name u is = absurd (omega (arith, ap tag is))
forked_is R Releases name u is = absurd (omega (arith, ap tag is))
forked_is R Joins name u is = absurd (omega (arith, ap tag is))

own_name : (b : Bool) (n : List ℕ) → b ≡ true → has (cond b (n ∷ []) []) n ≡ true
own_name true n is = or_left (bytes_eq n n) false (bytes_eq-refl n)
own_name false n is = absurd (false≢true is)

first_thread : (R : Recording) (p : NamedEvent) (P : List NamedEvent) → IsOfThreads (IsThreadOf R (p ∷ P)) (numbered R.threads R.variables R.locks p)
first_thread R p P = (
  (p.thread, or_left (bytes_eq p.thread p.thread) (has (name_where names_thread p ++ thread_uses P) p.thread) (bytes_eq-refl p.thread), refl),
  λ u is.
      let of = forked_is R p.kind p.name u is in
      let here : has (of_thread p) p.name ≡ true =
      or_right (bytes_eq p.name p.thread) (has (name_where names_thread p) p.name) (own_name (names_thread p.kind) p.name of.0) in
      (p.name, list_any-append (bytes_eq p.name) (of_thread p) (thread_uses P) ∙ or_left (has (of_thread p) p.name) (has (thread_uses P) p.name) here, of.1),
)

more_thread : (R : Recording) (p : NamedEvent) (P : List NamedEvent) (u : ℕ) → IsThreadOf R P u → IsThreadOf R (p ∷ P) u
more_thread R p P u (name, here, is) =
    (name, list_any-append (bytes_eq name) (of_thread p) (thread_uses P) ∙ or_right (has (of_thread p) name) (has (thread_uses P) name) here, is)

pub of_threads : (R : Recording) (P : List NamedEvent) → AreOfThreads (IsThreadOf R P) (by_numbers R P)
of_threads R [] i e at = absurd (omega (arith, slice_get_within (by_numbers R []) i e at))
of_threads R (p ∷ P) zero e at = subst (IsOfThreads (IsThreadOf R (p ∷ P))) (get_or_from_slice_get (by_numbers R (p ∷ P)) 0 e e at) (first_thread R p P)
of_threads R (p ∷ P) (suc i) e at =
    let later = of_threads R P i e at in
    (more_thread R p P e.thread later.0, λ u is. more_thread R p P u (later.1 u is))

-- The events N of what was read, C of what stands in its place, and those after it, M, of which P are in the piece.
module _ (N C P L : List NamedEvent) (names : (R : Recording) → IsNumbering R N → IsNumbering R C)
    (left : (R : Recording) → IsNumbering R N → IsNumbering R P → IsLeft (IsThreadOf R P) (by_numbers R N) (by_numbers R C)) where
  abbrev Z : List NamedEvent
  Z = (C ++ P) ++ (N ++ (P ++ L))

  abbrev R : Recording
  R = recording_of Z

  all_numbers : IsNumbering R Z
  all_numbers = numbering-self Z

  N_numbers : IsNumbering R N
  N_numbers = numbering-left R N (P ++ L) (numbering-right R (C ++ P) (N ++ (P ++ L)) all_numbers)

  P_numbers : IsNumbering R P
  P_numbers = numbering-left R P L (numbering-right R N (P ++ L) (numbering-right R (C ++ P) (N ++ (P ++ L)) all_numbers))

  abbrev A : List Event
  A = by_numbers R N

  abbrev B : List Event
  B = by_numbers R C

  abbrev Q : List Event
  Q = by_numbers R P

  left_on : IsLeft (IsThreadOf R P) A B
  left_on = left R N_numbers P_numbers

  long_A : length A ≡ length N
  long_A = length-map N (numbered R.threads R.variables R.locks)

  long_B : length B ≡ length C
  long_B = length-map C (numbered R.threads R.variables R.locks)

  known : All (IsKnown R) (N ++ (P ++ L))
  known = All_right (IsKnown R) (C ++ P) (N ++ (P ++ L)) (known_said Z)

  piece_is : (recording_of (C ++ P)).events ≡ B ++ Q
  piece_is = first_numbers (C ++ P) (N ++ (P ++ L)) ∙ numbers_append R C P

  abbrev f : Names
  f = to_own R (N ++ (P ++ L)) known (distinct_first_uses (thread_uses Z)) (distinct_first_uses (variable_uses Z)) (distinct_first_uses (lock_uses Z))

  apart : AreApart f
  apart = to_own_apart R (N ++ (P ++ L)) known (distinct_first_uses (thread_uses Z)) (distinct_first_uses (variable_uses Z)) (distinct_first_uses (lock_uses Z))

  abbrev T : List Event
  T = (recording_of (N ++ (P ++ L))).events

  whole_is : renamed f T ≡ A ++ (Q ++ by_numbers R L)
  whole_is =
      own_is R (N ++ (P ++ L)) known (distinct_first_uses (thread_uses Z)) (distinct_first_uses (variable_uses Z)) (distinct_first_uses (lock_uses Z))
      ∙ numbers_append R N (P ++ L) ∙ ap (λ (es : List Event). A ++ es) (numbers_append R P L)

  module _ (N_rules : IsDisciplined (recording_of N).events) (piece_rules : IsDisciplined (recording_of (C ++ P)).events) where
    B_rules : IsDisciplined (B ++ Q)
    B_rules = subst IsDisciplined piece_is piece_rules

    A_rules : IsDisciplined A
    A_rules = rules_in R N N_numbers N_rules

    pub rules_on : IsDisciplined (A ++ Q)
    rules_on = rules-left (IsThreadOf R P) A B Q left_on (of_threads R P) A_rules B_rules

    -- after some events of the piece the same is held
    held : (i t l : ℕ) → hold_count (A ++ take i Q) t l ≡ hold_count (B ++ take i Q) t l
    held i t l = holds-append A B (take i Q) left_on.holds (even-of_rules A A_rules) (even-from_rules B Q B_rules) t l

    -- a window of the piece is one of the whole
    module _ (T_rules : IsDisciplined T) (W : List Event) (k m n x lock c : ℕ) (low : length C ≤ k)
        (is : IsWindow (recording_of (C ++ P)).events W k m n x lock c) where
      abbrev i₀ : ℕ
      i₀ = k - length C

      abbrev K : ℕ
      K = length N + (k - length C)

      abbrev M : ℕ
      M = length N + (m - length C)

      abbrev T' : List Event
      T' = A ++ (Q ++ by_numbers R L)

      w : IsWindow (B ++ Q) W k m n x lock c
      w = subst (λ (es : List Event). IsWindow es W k m n x lock c) piece_is is

      inside : m ≤ length C + length Q
      inside = omega (arith, w.within, length-append B Q, long_B)

      nothing : Event
      nothing = record { thread = 0; op = Read 0 }

      -- the events of the piece
      at_piece : (j : ℕ) → j < length Q → slice_get (B ++ Q) (length C + j) ≡ slice_get T' (length N + j)
      at_piece j lt =
          let first : slice_get (B ++ Q) (length B + j) ≡ Some (get_or Q j nothing) =
          slice_get-get_or (B ++ Q) (length B + j) nothing (omega (arith, lt, length-append B Q)) ∙ ap Some (get_or-append-add B Q j nothing) in
          let second : slice_get T' (length A + j) ≡ Some (get_or Q j nothing) =
          slice_get-get_or T' (length A + j) nothing (omega (arith, lt, length-append A (Q ++ by_numbers R L), length-append Q (by_numbers R L)))
          ∙ ap Some (get_or-append-add A (Q ++ by_numbers R L) j nothing ∙ get_or_append_left Q (by_numbers R L) nothing j lt) in
          ap (λ a. slice_get (B ++ Q) (a + j)) (sym long_B) ∙ first ∙ sym second ∙ ap (λ a. slice_get T' (a + j)) long_A

      same : (i : ℕ) → i < M - K → slice_get W (n + i) ≡ slice_get T' (K + i)
      same i lt =
          let one : k + i ≡ length C + (i₀ + i) = omega (arith, low) in
          let two : length N + (i₀ + i) ≡ K + i = omega arith in
          w.same i (omega (arith, lt, low, w.begins))
          ∙ ap (slice_get (B ++ Q)) one
          ∙ at_piece (i₀ + i) (omega (arith, lt, low, inside, w.begins))
          ∙ ap (slice_get T') two

      -- what is held where the window begins
      holds : (t l : ℕ) → hold_count (take K T') t l ≡ hold_count (take k (B ++ Q)) t l
      holds t l =
          let short : i₀ ≤ length Q = omega (arith, inside, low, w.begins) in
          let one : take K T' ≡ A ++ take i₀ Q =
          ap (λ a. take (a + i₀) T') (sym long_A) ∙ take-append-add A (Q ++ by_numbers R L) i₀ ∙ ap (λ (es : List Event). A ++ es) (take-append-le i₀ Q (by_numbers R L) short) in
          let place : k ≡ length B + i₀ = omega (arith, low, long_B) in
          let two : take k (B ++ Q) ≡ B ++ take i₀ Q = ap (λ a. take a (B ++ Q)) place ∙ take-append-add B Q i₀ in
          ap (λ (es : List Event). hold_count es t l) one ∙ held i₀ t l ∙ sym (ap (λ (es : List Event). hold_count es t l) two)

      taken : (t l : ℕ) → l ≢ lock → IsTaken T' W K n t l
      taken t l other =
          let was = w.taken t l other in
          record {
            most = omega (arith, was.most, holds t l);
            enough = elim was.enough [
              | inl all ↦ inl (all ∙ sym (holds t l))
              | inr rest ↦ inr rest
            ];
          }

      on : IsWindow T' W K M n x lock c
      on = record {
        begins = omega (arith, w.begins);
        within = omega (arith, inside, low, long_A, length-append A (Q ++ by_numbers R L), length-append Q (by_numbers R L));
        size = omega (arith, w.size, low, w.begins);
        same = same;
        unused = w.unused;
        unlocked = w.unlocked;
        chain = w.chain;
        ops = w.ops;
        taken = taken;
        free = w.free;
        held = w.held;
        linked = w.linked;
        ends = w.ends;
        reads = w.reads;
        awaited = w.awaited;
        unforked = w.unforked;
      }

      window : IsWindow (renamed f T) W K M n x lock c
      window = subst (λ (es : List Event). IsWindow es W K M n x lock c) (sym whole_is) on

      -- and what it shows the whole trace shows
      pub sound_on : (S : List ℕ) → IsCorrectReordering W S
          → IsCorrectReordering T (resumed n K S) × ((a b : ℕ) → n ≤ a → n ≤ b → Shows W S a b → Shows T (resumed n K S) (back n K a) (back n K b))
      sound_on S correct =
          let rules : IsDisciplined (renamed f T) = rules-renamed f apart.threads apart.locks T T_rules in
          let sound = sound_law (renamed f T) W K M n x lock c S rules window correct in (
            (renamed_law.reorderings f T (resumed n K S) apart).1 sound.0,
            λ a b first second shown. (renamed_law.shown f T (resumed n K S) (back n K a) (back n K b) apart).1 (sound.1 a b first second shown),
          )

      -- a pair that it never shows
      pub apart_on : (a b : ℕ) → n ≤ a → a < length W → n ≤ b → b < length W → IsNeverShown W a b ↔ IsNeverShownFrom T K M (back n K a) (back n K b)
      apart_on a b first first_in second second_in =
          let rules : IsDisciplined (renamed f T) = rules-renamed f apart.threads apart.locks T T_rules in
          let both = apart_window_law (renamed f T) W K M n x lock c a b rules window first first_in second second_in in (
            λ never S all low shown.
                both.0 never S ((renamed_law.reorderings f T (before K ++ S) apart).0 all) low
                ((renamed_law.shown f T (before K ++ S) (back n K a) (back n K b) apart).0 shown),
            λ never.
                both.1 (λ S all low shown.
                never S ((renamed_law.reorderings f T (before K ++ S) apart).1 all) low
                ((renamed_law.shown f T (before K ++ S) (back n K a) (back n K b) apart).1 shown)),
          )

  -- the first event that breaks a rule behind B breaks it behind A
  module _ (N_rules : IsDisciplined (recording_of N).events) (C_rules : IsDisciplined (recording_of C).events) where
    B_alone : IsDisciplined B
    B_alone = rules_in R C (names R N_numbers) C_rules

    A_alone : IsDisciplined A
    A_alone = rules_in R N N_numbers N_rules

    sides : (i : ℕ) → i < length Q → breach_at (A ++ Q) (length A + i) ≡ breach_at (B ++ Q) (length B + i)
    sides = breach_late (IsThreadOf R P) A B Q left_on (of_threads R P) (even-of_rules A A_alone) (even-of_rules B B_alone)

    pub first_on : (why : RuleRefusal) → IsFirstBreach (B ++ Q) why
        → (length B ≤ why.event) × IsFirstBreach (A ++ Q) (record { event = length A + (why.event - length B); why = why.why })
    first_on why first = (high, record { within = inside; breach = broken; before = none })
      where
        high : length B ≤ why.event
        high =
            elim (cases_lt why.event (length B)) [
              | inl low ↦ absurd (cc (sym first.breach ∙ breach_early B Q why.event low ∙ none-from_IsDisciplined B B_alone why.event low))
              | inr le ↦ le
            ]

        inner : why.event - length B < length Q
        inner = omega (arith, first.within, high, length-append B Q)

        inside : length A + (why.event - length B) < length (A ++ Q)
        inside = omega (arith, inner, length-append A Q)

        broken : breach_at (A ++ Q) (length A + (why.event - length B)) ≡ Some why.why
        broken =
            let place : length B + (why.event - length B) ≡ why.event = omega (arith, high) in
            sides (why.event - length B) inner ∙ ap (breach_at (B ++ Q)) place ∙ first.breach

        none : (j : ℕ) → j < length A + (why.event - length B) → breach_at (A ++ Q) j ≡ None
        none j lt =
            elim (cases_lt j (length A)) [
              | inl low ↦ breach_early A Q j low ∙ none-from_IsDisciplined A A_alone j low
              | inr le ↦
                  let place : length A + (j - length A) ≡ j = omega (arith, le) in
                  let here : j - length A < length Q = omega (arith, le, lt, inner) in
                  ap (breach_at (A ++ Q)) (sym place) ∙ sides (j - length A) here ∙ first.before (length B + (j - length A)) (omega (arith, le, lt, high))
            ]

-- a first breach in other numbers
module _ (f : Names) (apart : AreApart f) (V : List Event) (why : RuleRefusal) where
  first_back : IsFirstBreach (renamed f V) why → IsFirstBreach V why
  first_back first =
      let long : length (renamed f V) ≡ length V = length-map V (renamed_event f) in
      let within : why.event < length V = omega (arith, first.within, long) in
      record {
        within = within;
        breach = sym (breach_at-renamed f apart.threads apart.locks V why.event within) ∙ first.breach;
        before = λ j lt. sym (breach_at-renamed f apart.threads apart.locks V j (omega (arith, lt, within))) ∙ first.before j lt;
      }

pub rules_law : StreamKeepsRules
rules_law front summary more r st reads rules =
    let N = said_in front in
    let C = said_in summary in
    let P = said_in more in
    let piece : r ≡ recording_of (C ++ P) = read_is (summary ++ more) r reads ∙ ap recording_of (said-append summary more st.ends) in
    let piece_rules : IsDisciplined (recording_of (C ++ P)).events = subst (λ (s : Recording). IsDisciplined s.events) piece rules in
    let on = rules_on N C P [] st.names st.left st.keeps piece_rules in
    let all : IsDisciplined (renamed (f N C P [] st.names st.left) (recording_of (N ++ (P ++ []))).events) =
    subst IsDisciplined
    (ap (λ (es : List Event). by_numbers (R N C P [] st.names st.left) N ++ es) (sym (append-nil (by_numbers (R N C P [] st.names st.left) P))) ∙ sym (whole_is N C P [] st.names st.left)) on in
    subst (λ (es : List NamedEvent). IsDisciplined (recording_of es).events)
    (ap (λ (es : List NamedEvent). N ++ es) (append-nil P) ∙ sym (said-append front more st.whole))
    (renamed_law.disciplined (f N C P [] st.names st.left) (recording_of (N ++ (P ++ []))).events (apart N C P [] st.names st.left) all)

pub breaks_law : StreamBreaks
breaks_law front summary more r why st kept reads first =
    let N = said_in front in
    let C = said_in summary in
    let P = said_in more in
    let piece : r ≡ recording_of (C ++ P) = read_is (summary ++ more) r reads ∙ ap recording_of (said-append summary more st.ends) in
    let events : r.events ≡ B N C P [] st.names st.left ++ Q N C P [] st.names st.left =
    ap (λ (s : Recording). s.events) piece ∙ piece_is N C P [] st.names st.left in
    let on = first_on N C P [] st.names st.left st.keeps kept why (subst (λ (es : List Event). IsFirstBreach es why) events first) in
    let long_C : length (B N C P [] st.names st.left) ≡ length C = long_B N C P [] st.names st.left in
    let long_N : length (A N C P [] st.names st.left) ≡ length N = long_A N C P [] st.names st.left in
    let moved : RuleRefusal = record { event = length N + (why.event - length C); why = why.why } in
    let there : IsFirstBreach (A N C P [] st.names st.left ++ Q N C P [] st.names st.left) moved =
    subst (λ (i : ℕ). IsFirstBreach (A N C P [] st.names st.left ++ Q N C P [] st.names st.left) (record { event = i; why = why.why }))
    (ap₂ (λ a b. a + (why.event - b)) long_N long_C) on.1 in
    let all : IsFirstBreach (renamed (f N C P [] st.names st.left) (recording_of (N ++ (P ++ []))).events) moved =
    subst (λ (es : List Event). IsFirstBreach es moved)
    (ap (λ (es : List Event). by_numbers (R N C P [] st.names st.left) N ++ es) (sym (append-nil (by_numbers (R N C P [] st.names st.left) P))) ∙ sym (whole_is N C P [] st.names st.left)) there in
    let own : IsFirstBreach (recording_of (N ++ (P ++ []))).events moved =
    first_back (f N C P [] st.names st.left) (apart N C P [] st.names st.left) (recording_of (N ++ (P ++ []))).events moved all in (
      omega (arith, on.0, long_C),
      subst (λ (es : List NamedEvent). IsFirstBreach (recording_of es).events moved)
          (ap (λ (es : List NamedEvent). N ++ es) (append-nil P) ∙ sym (said-append front more st.whole)) own,
    )

-- a pair that is never shown, in other numbers
into_names : (f : Names) → AreApart f → (V : List Event) (a b : ℕ) → IsNeverShown V a b → IsNeverShown (renamed f V) a b
into_names f apart V a b hidden S correct shown = hidden S ((renamed_law.reorderings f V S apart).1 correct) ((renamed_law.shown f V S a b apart).1 shown)

out_of_names : (f : Names) → AreApart f → (V : List Event) (a b : ℕ) → IsNeverShown (renamed f V) a b → IsNeverShown V a b
out_of_names f apart V a b hidden S correct shown = hidden S ((renamed_law.reorderings f V S apart).0 correct) ((renamed_law.shown f V S a b apart).0 shown)

pub sound_stream_law : StreamIsSound
sound_stream_law front summary more later text r k m st whole reads rules T_rules low w =
    let N = said_in front in
    let C = said_in summary in
    let P = said_in more in
    let L = said_in later in
    let piece : r ≡ recording_of (C ++ P) = read_is (summary ++ more) r reads ∙ ap recording_of (said-append summary more st.ends) in
    let piece_rules : IsDisciplined (recording_of (C ++ P)).events = subst (λ (s : Recording). IsDisciplined s.events) piece rules in
    let all : said_in (front ++ (more ++ later)) ≡ N ++ (P ++ L) =
    said-append front (more ++ later) st.whole ∙ ap (λ (es : List NamedEvent). N ++ es) (said-append more later whole) in
    let n = prologue_size r k m in
    let K = length N + (k - length C) in
    let W = renamed w.names w.inner.events in
    let T : List Event = (recording_of (N ++ (P ++ L))).events in
    let is : IsWindow (recording_of (C ++ P)).events W k m n w.variable w.lock w.chain =
    subst (λ (s : Recording). IsWindow s.events W k m n w.variable w.lock w.chain) piece w.is in
    let whole_rules : IsDisciplined T = subst (λ (es : List NamedEvent). IsDisciplined (recording_of es).events) all T_rules in
    let sound = λ (S : List ℕ) (correct : IsCorrectReordering w.inner.events S).
    sound_on N C P L st.names st.left st.keeps piece_rules whole_rules W k m n w.variable w.lock w.chain low is S ((renamed_law.reorderings w.names w.inner.events S w.apart).0 correct) in
    let V = w.inner.events in
    let M = length N + (m - length C) in
    let long : length W ≡ length V = length-map V (renamed_event w.names) in
    let never = λ (a b : ℕ) (first : n ≤ a) (first_in : a < length V) (second : n ≤ b) (second_in : b < length V).
    apart_on N C P L st.names st.left st.keeps piece_rules whole_rules W k m n w.variable w.lock w.chain low is a b first (omega (arith, first_in, long)) second (omega (arith, second_in, long)) in
    subst (λ (es : List NamedEvent). IsExactPart (recording_of es).events K M n text) (sym all)
    (record {
      inner = w.inner;
      reads = w.reads;
      keeps = w.keeps;
      size = omega (arith, long, is.size, is.begins, low);
      correct = λ S correct. (sound S correct).0;
      shows = λ S a b correct first second shown. (sound S correct).1 a b first second ((renamed_law.shown w.names V S a b w.apart).0 shown);
      apart = λ a b first first_in second second_in. (
        λ hidden. (never a b first first_in second second_in).0 (into_names w.names w.apart V a b hidden),
        λ hidden. out_of_names w.names w.apart V a b ((never a b first first_in second second_in).1 hidden),
      );
    })
