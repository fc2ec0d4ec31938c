-- The text of a window reads as the window, under other numbers.
use Rattle.std.proofs.Common.{◌≡◌, ℕ, zero, suc, ◌+◌, ◌<◌, ◌≤◌, Bool, true, false, cond, ◌||◌, List, [], ◌∷◌, ◌++◌, length, map, take, get_or, flat_map, All, Ok, bytes_eq, nat_le, nat_lt, Some, None, refl, sym, ap, ap₂, ◌∙◌, subst, arith, inl, inr}
use Rattle.std.specs.Cmp.Lexicographic.{bytes_decides}
use Rattle.std.specs.List.{slice_split, cons_option, IsDistinct}
use Rattle.std.proofs.lemmas.Bool.{cases_Bool, false≢true, le-ltb, lt-leb}
use Rattle.std.proofs.lemmas.List.{length_push}
use Rattle.std.proofs.lemmas.List.Elements.{All-nil, All-cons, All-head, All-tail, All-weaker, All-push}
use Rattle.std.proofs.lemmas.List.Folds.{list_any-append}
use Rattle.std.proofs.lemmas.List.Splits.{slice_split_at}
use Rattle.rapid_text.specs.Canonical.{name_at}
use Rattle.rapid_text.specs.Limits.{event_limit, thread_limit}
use Rattle.rapid_text.specs.Reading.{is_line_feed, NamedEvent, LineReading, Skipped, line_reading, event_said, named_events, refusals_of, reading_by, reading_of, recording_of, numbered, numbered_op, number_of, first_uses, thread_uses, variable_uses, lock_uses, name_where, names_thread, names_variable, names_lock, fault_after}
use Rattle.rapid_text.specs.Recording.{Recording, IsNamed, IsNamedOp}
use Rattle.rapid_text.specs.declared.event.Event.{Event}
use Rattle.rapid_text.specs.declared.event.Op.{Op}
use Rattle.rapid_text.specs.declared.event.Op.TheVariants.{Read, Write, Acquire, Release, Fork, Join}
use Rattle.rapid_text.specs.declared.refusal.TextCause.TheVariants.{TooManyEvents, TooManyNames}
use Rattle.rapid_text.proofs.CanonicalLines.{lines_text, slice_split-lines_text, named_events-lines}
use Rattle.rapid_text.proofs.Cuts.{Fails}
use Rattle.rapid_text.proofs.NameNumbers.{has}
use Rattle.rapid_text.proofs.PrintedLines.{IsPrintable, ReadsBack, line_of, no_feed-line_of, line_reading-line_of}
use Rattle.rapid_text.proofs.Turns.{Follow, AreClean, AreClean-lines, refusals_of-clean}
use Rattle.window.specs.Renamed.{Names, AreApart, renamed, renamed_op, renamed_event}
use Rattle.window.proofs.NameLemmas.{has_use, has_at, number_at, distinct_first_uses, few_uses, translated, translated_apart, translated_is}
use Rattle.window.proofs.TextLemmas.{IsKnown, all_said, said_event, kind_in, operand}

-- A line that is skipped before lines that are read.
module _ (line : List ℕ) (skips : line_reading line ≡ Skipped) where
  same_events : (lines : List (List ℕ)) → named_events (line ∷ lines) ≡ named_events lines
  same_events lines = ap (λ (r : LineReading). cons_option (event_said r) (named_events lines)) skips

  still_clean : (lines : List (List ℕ)) → AreClean [] lines → AreClean [] (line ∷ lines)
  still_clean lines clean zero lt = ap (fault_after []) skips
  still_clean lines clean (suc i) lt =
      ap (λ (es : List NamedEvent). fault_after es (line_reading (get_or lines i []))) (same_events (take i lines)) ∙ clean i (omega (arith, lt))

reading_is : (text : List ℕ) (lines : List (List ℕ)) (events : List NamedEvent) → slice_split is_line_feed text ≡ lines → refusals_of lines ≡ [] → named_events lines ≡ events
    → reading_of text ≡ Ok (recording_of events)
unfolding reading_of
reading_is text lines events split no_fault are =
    ap (λ (ls : List (List ℕ)). reading_by ls (refusals_of ls)) split
    ∙ ap (reading_by lines) no_fault
    ∙ ap (λ (es : List NamedEvent). Ok (recording_of es)) are

-- the lines of printable events within the limits, after a line that is skipped
pub reads_after : (line : List ℕ) (events : List NamedEvent) → line_reading line ≡ Skipped → All (Fails is_line_feed) line → All IsPrintable events → Follow [] events
    → reading_of (line ++ 10 ∷ lines_text events) ≡ Ok (recording_of events)
reads_after line events skips unbroken printable follow =
    let lines : List (List ℕ) = map line_of events ++ [] ∷ [] in
    let read : All ReadsBack events = All-weaker IsPrintable ReadsBack line_reading-line_of events printable in
    let clear : All (λ e. All (Fails is_line_feed) (line_of e)) events = All-weaker IsPrintable (λ e. All (Fails is_line_feed) (line_of e)) no_feed-line_of events printable in
    let split : slice_split is_line_feed (line ++ 10 ∷ lines_text events) ≡ line ∷ lines =
    slice_split_at is_line_feed line 10 (lines_text events) unbroken refl ∙ ap (λ (ls : List (List ℕ)). line ∷ ls) (slice_split-lines_text events clear) in
    reading_is (line ++ 10 ∷ lines_text events) (line ∷ lines) events split
    (refusals_of-clean (line ∷ lines) (still_clean line skips lines (AreClean-lines [] events read follow)))
    (same_events line skips lines ∙ named_events-lines events read)

-- and what they say
pub said_after : (line : List ℕ) (events : List NamedEvent) → line_reading line ≡ Skipped → All (Fails is_line_feed) line → All IsPrintable events
    → named_events (slice_split is_line_feed (line ++ 10 ∷ lines_text events)) ≡ events
said_after line events skips unbroken printable =
    let lines : List (List ℕ) = map line_of events ++ [] ∷ [] in
    let read : All ReadsBack events = All-weaker IsPrintable ReadsBack line_reading-line_of events printable in
    let clear : All (λ e. All (Fails is_line_feed) (line_of e)) events = All-weaker IsPrintable (λ e. All (Fails is_line_feed) (line_of e)) no_feed-line_of events printable in
    let split : slice_split is_line_feed (line ++ 10 ∷ lines_text events) ≡ line ∷ lines =
    slice_split_at is_line_feed line 10 (lines_text events) unbroken refl ∙ ap (λ (ls : List (List ℕ)). line ∷ ls) (slice_split-lines_text events clear) in
    ap named_events split ∙ same_events line skips lines ∙ named_events-lines events read

where_in : (b : Bool) (n name : List ℕ) → has (cond b (n ∷ []) []) name ≡ true → (b ≡ true) × (name ≡ n)
where_in true n name here =
    elim (cases_Bool (bytes_eq name n)) [
      | inl same ↦ (refl, (bytes_decides name n).0 same)
      | inr other ↦ absurd (false≢true (sym (ap (λ b. b || false) other) ∙ here))
    ]
where_in false n name here = absurd (false≢true here)

-- The uses of names that a recording has.
module _ (R : Recording) where
  uses_among : (uses : NamedEvent → List (List ℕ)) (table : List (List ℕ)) → ((e : NamedEvent) (name : List ℕ) → IsKnown R e → has (uses e) name ≡ true → has table name ≡ true)
      → (es : List NamedEvent) (name : List ℕ) → All (IsKnown R) es → has (flat_map uses es) name ≡ true → has table name ≡ true
  uses_among uses table each [] name all here = absurd (false≢true here)
  uses_among uses table each (e ∷ es) name all here =
      elim (cases_Bool (has (uses e) name)) [
        | inl own ↦ each e name (All-head (IsKnown R) e es all) own
        | inr other ↦
            let rest : has (flat_map uses es) name ≡ true =
            sym (ap (λ b. b || has (flat_map uses es) name) other) ∙ sym (list_any-append (bytes_eq name) (uses e) (flat_map uses es)) ∙ here in
            uses_among uses table each es name (All-tail (IsKnown R) e es all) rest
      ]

  thread_known : (e : NamedEvent) (name : List ℕ) → IsKnown R e → has (e.thread ∷ name_where names_thread e) name ≡ true → has R.threads name ≡ true
  thread_known e name known here =
      elim (cases_Bool (bytes_eq name e.thread)) [
        | inl same ↦ subst (λ (n : List ℕ). has R.threads n ≡ true) (sym ((bytes_decides name e.thread).0 same)) known.thread
        | inr other ↦
            let h = where_in (names_thread e.kind) e.name name (sym (ap (λ b. b || has (name_where names_thread e) name) other) ∙ here) in
            subst (λ (n : List ℕ). has R.threads n ≡ true) (sym h.1) (known.of_thread h.0)
      ]

  pub threads_among : (es : List NamedEvent) → All (IsKnown R) es → (name : List ℕ) → has (thread_uses es) name ≡ true → has R.threads name ≡ true
  threads_among es all name here = uses_among (λ e. e.thread ∷ name_where names_thread e) R.threads thread_known es name all here

  pub variables_among : (es : List NamedEvent) → All (IsKnown R) es → (name : List ℕ) → has (variable_uses es) name ≡ true → has R.variables name ≡ true
  variables_among es all name here =
      uses_among (name_where names_variable) R.variables
      (λ e n known h. let w = where_in (names_variable e.kind) e.name n h in subst (λ (q : List ℕ). has R.variables q ≡ true) (sym w.1) (known.of_variable w.0))
      es name all here

  pub locks_among : (es : List NamedEvent) → All (IsKnown R) es → (name : List ℕ) → has (lock_uses es) name ≡ true → has R.locks name ≡ true
  locks_among es all name here =
      uses_among (name_where names_lock) R.locks
      (λ e n known h. let w = where_in (names_lock e.kind) e.name n h in subst (λ (q : List ℕ). has R.locks q ≡ true) (sym w.1) (known.of_lock w.0))
      es name all here

  -- events whose names it has follow one another within the limits
  pub follow_up : (earlier events : List NamedEvent) → length earlier + length events ≤ event_limit → length R.threads ≤ thread_limit → All (IsKnown R) earlier → All (IsKnown R) events
      → Follow earlier events
  follow_up earlier [] few threads before all = tt
  follow_up earlier (e ∷ events) few threads before all =
      let longer : All (IsKnown R) (earlier ++ e ∷ []) = All-push (IsKnown R) earlier e before (All-head (IsKnown R) e events all) in
      let names : length (first_uses (thread_uses (earlier ++ e ∷ []))) ≤ thread_limit =
      omega (arith, threads, few_uses (thread_uses (earlier ++ e ∷ [])) R.threads (threads_among (earlier ++ e ∷ []) longer)) in
      let first : nat_le event_limit (length earlier) ≡ false = lt-leb event_limit (length earlier) (omega (arith, few)) in
      let second : nat_lt thread_limit (length (first_uses (thread_uses (earlier ++ e ∷ [])))) ≡ false =
      le-ltb thread_limit (length (first_uses (thread_uses (earlier ++ e ∷ [])))) names in (
        ap (λ b. cond b (Some TooManyEvents) (cond (nat_lt thread_limit (length (first_uses (thread_uses (earlier ++ e ∷ []))))) (Some TooManyNames) None)) first
            ∙ ap (λ b. cond b (Some TooManyNames) None) second,
        follow_up (earlier ++ e ∷ []) events (omega (arith, few, length_push earlier e)) threads longer (All-tail (IsKnown R) e events all),
      )

  -- an event of it is said by names that it has
  said_known : (e : Event) (location : List ℕ) → IsNamed R e → IsKnown R (said_event R e location)
  said_known e location named = record {
    thread = has_at R.threads e.thread named.0;
    of_thread = λ passes. by_op_thread e.op named.1 passes;
    of_variable = λ passes. by_op_variable e.op named.1 passes;
    of_lock = λ passes. by_op_lock e.op named.1 passes;
  }
    where
      by_op_thread : (op : Op) → IsNamedOp R op → names_thread (kind_in op) ≡ true → has R.threads (operand R op) ≡ true
      by_op_thread (Fork u) lt passes = has_at R.threads u lt
      by_op_thread (Join u) lt passes = has_at R.threads u lt
      by_op_thread (Read x) lt passes = absurd (false≢true passes)
      by_op_thread (Write x) lt passes = absurd (false≢true passes)
      by_op_thread (Acquire l) lt passes = absurd (false≢true passes)
      by_op_thread (Release l) lt passes = absurd (false≢true passes)

      by_op_variable : (op : Op) → IsNamedOp R op → names_variable (kind_in op) ≡ true → has R.variables (operand R op) ≡ true
      by_op_variable (Read x) lt passes = has_at R.variables x lt
      by_op_variable (Write x) lt passes = has_at R.variables x lt
      by_op_variable (Fork u) lt passes = absurd (false≢true passes)
      by_op_variable (Join u) lt passes = absurd (false≢true passes)
      by_op_variable (Acquire l) lt passes = absurd (false≢true passes)
      by_op_variable (Release l) lt passes = absurd (false≢true passes)

      by_op_lock : (op : Op) → IsNamedOp R op → names_lock (kind_in op) ≡ true → has R.locks (operand R op) ≡ true
      by_op_lock (Acquire l) lt passes = has_at R.locks l lt
      by_op_lock (Release l) lt passes = has_at R.locks l lt
      by_op_lock (Read x) lt passes = absurd (false≢true passes)
      by_op_lock (Write x) lt passes = absurd (false≢true passes)
      by_op_lock (Fork u) lt passes = absurd (false≢true passes)
      by_op_lock (Join u) lt passes = absurd (false≢true passes)

  pub all_known : (es : List Event) (ls : List (List ℕ)) → All (IsNamed R) es → All (IsKnown R) (all_said R es ls)
  all_known [] ls all = All-nil (IsKnown R)
  all_known (e ∷ es) [] all =
      All-cons (IsKnown R) (said_event R e []) (all_said R es []) (said_known e [] (All-head (IsNamed R) e es all)) (all_known es [] (All-tail (IsNamed R) e es all))
  all_known (e ∷ es) (l ∷ ls) all =
      All-cons (IsKnown R) (said_event R e l) (all_said R es ls) (said_known e l (All-head (IsNamed R) e es all)) (all_known es ls (All-tail (IsNamed R) e es all))

  pub long_said : (es : List Event) (ls : List (List ℕ)) → length (all_said R es ls) ≡ length es
  long_said [] ls = refl
  long_said (e ∷ es) [] = omega (arith, long_said es [])
  long_said (e ∷ es) (l ∷ ls) = omega (arith, long_said es ls)

  -- The numbers of a recording of events whose names it has, as its own.
  module _ (X : List NamedEvent) (known : All (IsKnown R) X) (each_thread : IsDistinct bytes_eq R.threads) (each_variable : IsDistinct bytes_eq R.variables) (each_lock : IsDistinct bytes_eq R.locks) where
    abbrev V : Recording
    V = recording_of X

    abbrev pub to_own : Names
    to_own = record {
      thread = translated V.threads R.threads;
      variable = translated V.variables R.variables;
      lock = translated V.locks R.locks;
    }

    pub in_threads : (name : List ℕ) → has V.threads name ≡ true → has R.threads name ≡ true
    in_threads name here = threads_among X known name (has_use (thread_uses X) name here)

    pub in_variables : (name : List ℕ) → has V.variables name ≡ true → has R.variables name ≡ true
    in_variables name here = variables_among X known name (has_use (variable_uses X) name here)

    pub in_locks : (name : List ℕ) → has V.locks name ≡ true → has R.locks name ≡ true
    in_locks name here = locks_among X known name (has_use (lock_uses X) name here)

    pub to_own_apart : AreApart to_own
    to_own_apart = record {
      threads = λ a b. translated_apart V.threads R.threads (distinct_first_uses (thread_uses X)) in_threads a b;
      variables = λ a b. translated_apart V.variables R.variables (distinct_first_uses (variable_uses X)) in_variables a b;
      locks = λ a b. translated_apart V.locks R.locks (distinct_first_uses (lock_uses X)) in_locks a b;
    }

    own_thread : (t : ℕ) → t < length R.threads → has V.threads (name_at R.threads t) ≡ true → translated V.threads R.threads (number_of V.threads (name_at R.threads t)) ≡ t
    own_thread t lt here = translated_is V.threads R.threads (distinct_first_uses (thread_uses X)) in_threads (name_at R.threads t) here ∙ number_at R.threads t each_thread lt

    own_variable : (t : ℕ) → t < length R.variables → has V.variables (name_at R.variables t) ≡ true → translated V.variables R.variables (number_of V.variables (name_at R.variables t)) ≡ t
    own_variable t lt here =
        translated_is V.variables R.variables (distinct_first_uses (variable_uses X)) in_variables (name_at R.variables t) here ∙ number_at R.variables t each_variable lt

    own_lock : (t : ℕ) → t < length R.locks → has V.locks (name_at R.locks t) ≡ true → translated V.locks R.locks (number_of V.locks (name_at R.locks t)) ≡ t
    own_lock t lt here = translated_is V.locks R.locks (distinct_first_uses (lock_uses X)) in_locks (name_at R.locks t) here ∙ number_at R.locks t each_lock lt

    own_op : (op : Op) → IsNamedOp R op → (names_thread (kind_in op) ≡ true → has V.threads (operand R op) ≡ true) → (names_variable (kind_in op) ≡ true → has V.variables (operand R op) ≡ true)
        → (names_lock (kind_in op) ≡ true → has V.locks (operand R op) ≡ true)
        → renamed_op to_own (numbered_op V.threads V.variables V.locks (kind_in op) (operand R op)) ≡ op
    own_op (Read x) lt t v l = ap Read (own_variable x lt (v refl))
    own_op (Write x) lt t v l = ap Write (own_variable x lt (v refl))
    own_op (Acquire x) lt t v l = ap Acquire (own_lock x lt (l refl))
    own_op (Release x) lt t v l = ap Release (own_lock x lt (l refl))
    own_op (Fork u) lt t v l = ap Fork (own_thread u lt (t refl))
    own_op (Join u) lt t v l = ap Join (own_thread u lt (t refl))

    own_event : (e : Event) (location : List ℕ) → IsNamed R e → IsKnown V (said_event R e location)
        → renamed_event to_own (numbered V.threads V.variables V.locks (said_event R e location)) ≡ e
    own_event e location named here =
        event_is (to_own.thread (number_of V.threads (name_at R.threads e.thread))) e.thread (renamed_op to_own (numbered_op V.threads V.variables V.locks (kind_in e.op) (operand R e.op))) e.op
        (own_thread e.thread named.0 here.thread) (own_op e.op named.1 here.of_thread here.of_variable here.of_lock)
      where
        event_is : (t t' : ℕ) (o o' : Op) → t ≡ t' → o ≡ o' → (let x : Event = record { thread = t; op = o } in x) ≡ (record { thread = t'; op = o' })
        event_is t t' o o' a b = cc

    pub own_events : (es : List Event) (ls : List (List ℕ)) → All (IsNamed R) es → All (IsKnown V) (all_said R es ls)
        → renamed to_own (map (numbered V.threads V.variables V.locks) (all_said R es ls)) ≡ es
    own_events [] ls named here = refl
    own_events (e ∷ es) [] named here =
        ap₂ (λ (x : Event) (xs : List Event). x ∷ xs) (own_event e [] (All-head (IsNamed R) e es named) (All-head (IsKnown V) (said_event R e []) (all_said R es []) here))
        (own_events es [] (All-tail (IsNamed R) e es named) (All-tail (IsKnown V) (said_event R e []) (all_said R es []) here))
    own_events (e ∷ es) (l ∷ ls) named here =
        ap₂ (λ (x : Event) (xs : List Event). x ∷ xs) (own_event e l (All-head (IsNamed R) e es named) (All-head (IsKnown V) (said_event R e l) (all_said R es ls) here))
        (own_events es ls (All-tail (IsNamed R) e es named) (All-tail (IsKnown V) (said_event R e l) (all_said R es ls) here))
