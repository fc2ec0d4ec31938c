-- Events by their names, in the numbers of one recording and of another.
use Rattle.std.proofs.Common.{◌≡◌, ℕ, ◌<◌, true, ◌||◌, List, [], ◌∷◌, ◌++◌, length, flat_map, All, bytes_eq, refl, sym, ap, ap₂, ◌∙◌, subst, arith, append_assoc, append-nil, inl, inr}
use Rattle.std.proofs.lemmas.Bool.{cases_Bool, or_left, or_right, false≢true}
use Rattle.std.proofs.lemmas.Grind.{flat_map-append}
use Rattle.std.proofs.lemmas.List.{get_or_append_left, length_push}
use Rattle.std.proofs.lemmas.List.Elements.{All-nil, All-cons, All-head, All-tail}
use Rattle.std.proofs.lemmas.List.Folds.{list_any-append}
use Rattle.rapid_text.specs.Canonical.{name_at}
use Rattle.rapid_text.specs.Reading.{NamedEvent, recording_of, numbered, numbered_op, number_of, first_uses, thread_uses, lock_uses, name_where, names_thread, names_variable, names_lock}
use Rattle.rapid_text.specs.Recording.{Recording, IsNamed, IsNamedOp}
use Rattle.rapid_text.specs.declared.event.Event.{Event}
use Rattle.rapid_text.specs.declared.event.Kind.{Kind}
use Rattle.rapid_text.specs.declared.event.Kind.TheVariants.{Reads, Writes, Acquires, Releases, Forks, Joins}
use Rattle.rapid_text.specs.declared.event.Op.{Op}
use Rattle.rapid_text.specs.declared.event.Op.TheVariants.{Read, Write, Acquire, Release, Fork, Join}
use Rattle.rapid_text.proofs.FirstUses.{first_uses-push, KeepsTable, KeepsTable-refl, KeepsTable-trans, KeepsTable-with_name}
use Rattle.rapid_text.proofs.NameNumbers.{has, has-first_uses}
use Rattle.window.specs.Cuts.{with_name}
use Rattle.window.specs.Renamed.{Names, renamed, renamed_op, renamed_event}
use Rattle.window.specs.Streams.{IsNumbering, IsOf, IsOfOp, by_numbers, read_name}
use Rattle.window.proofs.NameLemmas.{has_use, has_at, distinct_first_uses, translated, translated_apart, translated_is, low_is}
use Rattle.window.proofs.ReadLemmas.{threads_among, locks_among}
use Rattle.window.proofs.TextLemmas.{IsKnown, all_said, said_event, kind_in, operand, known_said, with_last}

event_is : (t t' : ℕ) (o o' : Op) → t ≡ t' → o ≡ o' → (let x : Event = record { thread = t; op = o } in x) ≡ (record { thread = t'; op = o' })
event_is t t' o o' a b = cc

-- Numbers that agree on the names of one recording.
module _ (r R : Recording) (f : Names)
    (threads : (x : List ℕ) → has r.threads x ≡ true → f.thread (number_of r.threads x) ≡ number_of R.threads x)
    (variables : (x : List ℕ) → has r.variables x ≡ true → f.variable (number_of r.variables x) ≡ number_of R.variables x)
    (locks : (x : List ℕ) → has r.locks x ≡ true → f.lock (number_of r.locks x) ≡ number_of R.locks x) where
  moved_op : (kind : Kind) (name : List ℕ) → (names_thread kind ≡ true → has r.threads name ≡ true) → (names_variable kind ≡ true → has r.variables name ≡ true)
      → (names_lock kind ≡ true → has r.locks name ≡ true)
      → renamed_op f (numbered_op r.threads r.variables r.locks kind name) ≡ numbered_op R.threads R.variables R.locks kind name
  moved_op Reads name t v l = ap Read (variables name (v refl))
  moved_op Writes name t v l = ap Write (variables name (v refl))
  moved_op Acquires name t v l = ap Acquire (locks name (l refl))
  moved_op Releases name t v l = ap Release (locks name (l refl))
  moved_op Forks name t v l = ap Fork (threads name (t refl))
  moved_op Joins name t v l = ap Join (threads name (t refl))

  moved_event : (e : NamedEvent) → IsKnown r e → renamed_event f (numbered r.threads r.variables r.locks e) ≡ numbered R.threads R.variables R.locks e
  moved_event e known =
      event_is (f.thread (number_of r.threads e.thread)) (number_of R.threads e.thread)
      (renamed_op f (numbered_op r.threads r.variables r.locks e.kind e.name)) (numbered_op R.threads R.variables R.locks e.kind e.name)
      (threads e.thread known.thread) (moved_op e.kind e.name known.of_thread known.of_variable known.of_lock)

  pub moved : (es : List NamedEvent) → All (IsKnown r) es → renamed f (by_numbers r es) ≡ by_numbers R es
  moved [] known = refl
  moved (e ∷ es) known =
      ap₂ (λ (x : Event) (xs : List Event). x ∷ xs) (moved_event e (All-head (IsKnown r) e es known)) (moved es (All-tail (IsKnown r) e es known))

-- the same numbers
abbrev same_names : Names
same_names = record { thread = λ x. x; variable = λ x. x; lock = λ x. x }

same_op : (op : Op) → renamed_op same_names op ≡ op
same_op (Read x) = refl
same_op (Write x) = refl
same_op (Acquire x) = refl
same_op (Release x) = refl
same_op (Fork x) = refl
same_op (Join x) = refl

same_events : (V : List Event) → renamed same_names V ≡ V
same_events [] = refl
same_events (v ∷ V) = ap₂ (λ (x : Event) (xs : List Event). x ∷ xs) (event_is v.thread v.thread (renamed_op same_names v.op) v.op refl (same_op v.op)) (same_events V)

-- a table that grows keeps its numbers
keeps : (front names : List (List ℕ)) → KeepsTable (first_uses front) (first_uses (front ++ names))
keeps front [] = subst (λ (ns : List (List ℕ)). KeepsTable (first_uses front) (first_uses ns)) (sym (append-nil front)) (KeepsTable-refl (first_uses front))
keeps front (name ∷ names) =
    subst (λ (ns : List (List ℕ)). KeepsTable (first_uses front) (first_uses ns)) (append_assoc front (name ∷ []) names)
    (KeepsTable-trans (first_uses front) (first_uses (front ++ name ∷ [])) (first_uses ((front ++ name ∷ []) ++ names))
    (subst (λ (ns : List (List ℕ)). KeepsTable (first_uses front) ns) (sym (first_uses-push front name)) (KeepsTable-with_name (first_uses front) name))
    (keeps (front ++ name ∷ []) names))

kept_uses : (uses : NamedEvent → List (List ℕ)) (X Z : List NamedEvent) → KeepsTable (first_uses (flat_map uses X)) (first_uses (flat_map uses (X ++ Z)))
kept_uses uses X Z = subst (λ (ns : List (List ℕ)). KeepsTable (first_uses (flat_map uses X)) (first_uses ns)) (sym (flat_map-append uses X Z)) (keeps (flat_map uses X) (flat_map uses Z))

-- the first events have the numbers that they have without the others
pub first_numbers : (X Z : List NamedEvent) → (recording_of X).events ≡ by_numbers (recording_of (X ++ Z)) X
first_numbers X Z =
    let r = recording_of X in
    let R = recording_of (X ++ Z) in
    let threads : KeepsTable r.threads R.threads = kept_uses (λ e. e.thread ∷ name_where names_thread e) X Z in
    let variables : KeepsTable r.variables R.variables = kept_uses (name_where names_variable) X Z in
    let locks : KeepsTable r.locks R.locks = kept_uses (name_where names_lock) X Z in
    sym (same_events r.events)
    ∙ moved r R same_names (λ x here. sym (threads.number x here)) (λ x here. sym (variables.number x here)) (λ x here. sym (locks.number x here)) X (known_said X)

-- Which recordings number events.
pub among_append : (uses : NamedEvent → List (List ℕ)) (table : List (List ℕ)) (X Z : List NamedEvent)
    → ((x : List ℕ) → has (flat_map uses X) x ≡ true → has table x ≡ true) → ((x : List ℕ) → has (flat_map uses Z) x ≡ true → has table x ≡ true)
    → (x : List ℕ) → has (flat_map uses (X ++ Z)) x ≡ true → has table x ≡ true
among_append uses table X Z first second x here =
    let both : (has (flat_map uses X) x || has (flat_map uses Z) x) ≡ true =
    sym (ap (λ (ns : List (List ℕ)). has ns x) (flat_map-append uses X Z) ∙ list_any-append (bytes_eq x) (flat_map uses X) (flat_map uses Z)) ∙ here in
    elim (cases_Bool (has (flat_map uses X) x)) [
      | inl found ↦ first x found
      | inr none ↦ second x (sym (ap (λ b. b || has (flat_map uses Z) x) none) ∙ both)
    ]

pub among_left : (uses : NamedEvent → List (List ℕ)) (X Z : List NamedEvent) (x : List ℕ) → has (flat_map uses X) x ≡ true → has (flat_map uses (X ++ Z)) x ≡ true
among_left uses X Z x here =
    ap (λ (ns : List (List ℕ)). has ns x) (flat_map-append uses X Z) ∙ list_any-append (bytes_eq x) (flat_map uses X) (flat_map uses Z)
    ∙ or_left (has (flat_map uses X) x) (has (flat_map uses Z) x) here

pub among_right : (uses : NamedEvent → List (List ℕ)) (X Z : List NamedEvent) (x : List ℕ) → has (flat_map uses Z) x ≡ true → has (flat_map uses (X ++ Z)) x ≡ true
among_right uses X Z x here =
    ap (λ (ns : List (List ℕ)). has ns x) (flat_map-append uses X Z) ∙ list_any-append (bytes_eq x) (flat_map uses X) (flat_map uses Z)
    ∙ or_right (has (flat_map uses X) x) (has (flat_map uses Z) x) here

abbrev pub of_thread : NamedEvent → List (List ℕ)
of_thread e = e.thread ∷ name_where names_thread e

pub numbering-append : (R : Recording) (X Z : List NamedEvent) → IsNumbering R X → IsNumbering R Z → IsNumbering R (X ++ Z)
numbering-append R X Z first second = record {
  threads = among_append of_thread R.threads X Z first.threads second.threads;
  locks = among_append (name_where names_lock) R.locks X Z first.locks second.locks;
  each_thread = first.each_thread;
  each_lock = first.each_lock;
}

pub numbering-left : (R : Recording) (X Z : List NamedEvent) → IsNumbering R (X ++ Z) → IsNumbering R X
numbering-left R X Z n = record {
  threads = λ x here. n.threads x (among_left of_thread X Z x here);
  locks = λ x here. n.locks x (among_left (name_where names_lock) X Z x here);
  each_thread = n.each_thread;
  each_lock = n.each_lock;
}

pub numbering-right : (R : Recording) (X Z : List NamedEvent) → IsNumbering R (X ++ Z) → IsNumbering R Z
numbering-right R X Z n = record {
  threads = λ x here. n.threads x (among_right of_thread X Z x here);
  locks = λ x here. n.locks x (among_right (name_where names_lock) X Z x here);
  each_thread = n.each_thread;
  each_lock = n.each_lock;
}

pub numbering-self : (Z : List NamedEvent) → IsNumbering (recording_of Z) Z
numbering-self Z = record {
  threads = λ x here. has-first_uses (thread_uses Z) x here;
  locks = λ x here. has-first_uses (lock_uses Z) x here;
  each_thread = distinct_first_uses (thread_uses Z);
  each_lock = distinct_first_uses (lock_uses Z);
}

-- A recording that numbers events X, beside the recording of these.
module _ (R : Recording) (X : List NamedEvent) (is : IsNumbering R X) where
  abbrev r : Recording
  r = recording_of X

  in_threads : (x : List ℕ) → has r.threads x ≡ true → has R.threads x ≡ true
  in_threads x here = is.threads x (has_use (thread_uses X) x here)

  in_locks : (x : List ℕ) → has r.locks x ≡ true → has R.locks x ≡ true
  in_locks x here = is.locks x (has_use (lock_uses X) x here)

  -- the numbers of the one as those of the other
  abbrev pub into : Names
  into = record {
    thread = translated r.threads R.threads;
    variable = λ x. number_of R.variables (name_at (r.variables ++ read_name ∷ []) x);
    lock = translated r.locks R.locks;
  }

  pub into_threads : (a b : ℕ) → into.thread a ≡ into.thread b → a ≡ b
  into_threads a b = translated_apart r.threads R.threads (distinct_first_uses (thread_uses X)) in_threads a b

  pub into_locks : (a b : ℕ) → into.lock a ≡ into.lock b → a ≡ b
  into_locks a b = translated_apart r.locks R.locks (distinct_first_uses (lock_uses X)) in_locks a b

  pub into_is : renamed into r.events ≡ by_numbers R X
  into_is =
      moved r R into
      (λ x here. translated_is r.threads R.threads (distinct_first_uses (thread_uses X)) in_threads x here)
      (λ x here. ap (number_of R.variables) (with_last r.variables read_name x here))
      (λ x here. translated_is r.locks R.locks (distinct_first_uses (lock_uses X)) in_locks x here)
      X (known_said X)

  -- events by the numbers of the recording of X, with one name more
  abbrev R' : Recording
  R' = with_name r read_name

  thread_is : (t : ℕ) → t < length r.threads → number_of R.threads (name_at r.threads t) ≡ into.thread t
  thread_is t lt = sym (low_is r.threads R.threads (distinct_first_uses (thread_uses X)) in_threads t lt)

  lock_name : (l : ℕ) → l < length r.locks → name_at (r.locks ++ read_name ∷ []) l ≡ name_at r.locks l
  lock_name l lt = get_or_append_left r.locks (read_name ∷ []) [] l lt

  lock_is : (l : ℕ) → l < length r.locks → number_of R.locks (name_at (r.locks ++ read_name ∷ []) l) ≡ into.lock l
  lock_is l lt = ap (number_of R.locks) (lock_name l lt) ∙ sym (low_is r.locks R.locks (distinct_first_uses (lock_uses X)) in_locks l lt)

  op_is : (op : Op) → IsOfOp r op → numbered_op R.threads R.variables R.locks (kind_in op) (operand R' op) ≡ renamed_op into op
  op_is (Read x) of = refl
  op_is (Write x) of = refl
  op_is (Acquire l) of = ap Acquire (lock_is l of)
  op_is (Release l) of = ap Release (lock_is l of)
  op_is (Fork u) of = ap Fork (thread_is u of)
  op_is (Join u) of = ap Join (thread_is u of)

  pub summary_is : (es : List Event) → All (IsOf r) es → by_numbers R (all_said R' es []) ≡ renamed into es
  summary_is [] all = refl
  summary_is (e ∷ es) all =
      let of : IsOf r e = All-head (IsOf r) e es all in
      ap₂ (λ (x : Event) (xs : List Event). x ∷ xs)
      (event_is (number_of R.threads (name_at r.threads e.thread)) (into.thread e.thread) (numbered_op R.threads R.variables R.locks (kind_in e.op) (operand R' e.op)) (renamed_op into e.op)
      (thread_is e.thread of.0) (op_is e.op of.1))
      (summary_is es (All-tail (IsOf r) e es all))

  -- R, which knows all variables too
  abbrev R⁺ : Recording
  R⁺ = record R { variables = R'.variables }

  summary_known : (e : Event) → IsOf r e → IsKnown R⁺ (said_event R' e [])
  summary_known e of = record {
    thread = in_threads (name_at r.threads e.thread) (has_at r.threads e.thread of.0);
    of_thread = λ passes. by_thread e.op of.1 passes;
    of_variable = λ passes. by_variable e.op of.1 passes;
    of_lock = λ passes. by_lock e.op of.1 passes;
  }
    where
      by_thread : (op : Op) → IsOfOp r op → names_thread (kind_in op) ≡ true → has R.threads (operand R' op) ≡ true
      by_thread (Fork u) lt passes = in_threads (name_at r.threads u) (has_at r.threads u lt)
      by_thread (Join u) lt passes = in_threads (name_at r.threads u) (has_at r.threads u lt)
      by_thread (Read x) lt passes = absurd (false≢true passes)
      by_thread (Write x) lt passes = absurd (false≢true passes)
      by_thread (Acquire l) lt passes = absurd (false≢true passes)
      by_thread (Release l) lt passes = absurd (false≢true passes)

      by_variable : (op : Op) → IsOfOp r op → names_variable (kind_in op) ≡ true → has R'.variables (operand R' op) ≡ true
      by_variable (Read x) le passes = has_at R'.variables x (omega (arith, le, length_push r.variables read_name))
      by_variable (Write x) le passes = has_at R'.variables x (omega (arith, le, length_push r.variables read_name))
      by_variable (Fork u) lt passes = absurd (false≢true passes)
      by_variable (Join u) lt passes = absurd (false≢true passes)
      by_variable (Acquire l) lt passes = absurd (false≢true passes)
      by_variable (Release l) lt passes = absurd (false≢true passes)

      by_lock : (op : Op) → IsOfOp r op → names_lock (kind_in op) ≡ true → has R.locks (operand R' op) ≡ true
      by_lock (Acquire l) lt passes = subst (λ (n : List ℕ). has R.locks n ≡ true) (sym (lock_name l lt)) (in_locks (name_at r.locks l) (has_at r.locks l lt))
      by_lock (Release l) lt passes = subst (λ (n : List ℕ). has R.locks n ≡ true) (sym (lock_name l lt)) (in_locks (name_at r.locks l) (has_at r.locks l lt))
      by_lock (Read x) lt passes = absurd (false≢true passes)
      by_lock (Write x) lt passes = absurd (false≢true passes)
      by_lock (Fork u) lt passes = absurd (false≢true passes)
      by_lock (Join u) lt passes = absurd (false≢true passes)

  all_known : (es : List Event) → All (IsOf r) es → All (IsKnown R⁺) (all_said R' es [])
  all_known [] all = All-nil (IsKnown R⁺)
  all_known (e ∷ es) all =
      All-cons (IsKnown R⁺) (said_event R' e []) (all_said R' es []) (summary_known e (All-head (IsOf r) e es all)) (all_known es (All-tail (IsOf r) e es all))

  pub summary-numbering : (es : List Event) → All (IsOf r) es → IsNumbering R (all_said R' es [])
  summary-numbering es all = record {
    threads = λ x here. threads_among R⁺ (all_said R' es []) (all_known es all) x here;
    locks = λ x here. locks_among R⁺ (all_said R' es []) (all_known es all) x here;
    each_thread = is.each_thread;
    each_lock = is.each_lock;
  }

-- the events of a recording are its own
pub of_named : (r : Recording) (e : Event) → IsOf r e → IsNamed (with_name r read_name) e
of_named r e of = (of.0, by_op e.op of.1)
  where
    by_op : (op : Op) → IsOfOp r op → IsNamedOp (with_name r read_name) op
    by_op (Read x) le = omega (arith, le, length_push r.variables read_name)
    by_op (Write x) le = omega (arith, le, length_push r.variables read_name)
    by_op (Acquire l) lt = omega (arith, lt, length_push r.locks read_name)
    by_op (Release l) lt = omega (arith, lt, length_push r.locks read_name)
    by_op (Fork u) lt = lt
    by_op (Join u) lt = lt
