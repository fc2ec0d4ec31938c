-- The lines of a recording that was read, and those of a recording with the same names and one more of each kind.
use Rattle.std.proofs.Common.{◌≡◌, ℕ, zero, suc, ◌<◌, ◌≤◌, Bool, true, false, cond, ◌||◌, List, [], ◌∷◌, ◌++◌, length, map, flat_map, replicate, get_or, All, codes, Ok, bytes_eq, refl, sym, ap, ap₂, ◌∙◌, subst, arith, append_assoc, inl, inr}
use Rattle.std.specs.List.{slice_split, onto_first, cons_option, suffix_len}
use Rattle.std.specs.Cmp.Lexicographic.{bytes_decides}
use Rattle.std.proofs.lemmas.Bool.{cases_Bool, cases_lt, or_left, or_right, false≢true}
use Rattle.std.proofs.lemmas.List.{length-replicate, get_or_append_left, get_or_push, length_push}
use Rattle.std.proofs.lemmas.List.Elements.{All-nil, All-cons, All-head, All-tail, All-append, All-replicate}
use Rattle.std.proofs.lemmas.List.Folds.{list_any-append}
use Rattle.rapid_text.specs.Canonical.{name_at, op_text, event_text, events_text}
use Rattle.rapid_text.specs.Limits.{name_limit}
use Rattle.rapid_text.specs.Reading.{is_line_feed, is_bar, is_blank, NamedEvent, LineReading, Skipped, Refused, Says, line_reading, event_said, named_events, refusals_of, reading_by, reading_of, recording_of, numbered, numbered_op, number_of, thread_uses, variable_uses, lock_uses, name_where, names_thread, names_variable, names_lock}
use Rattle.rapid_text.specs.Recording.{Recording, IsNamed, IsNamedOp}
use Rattle.rapid_text.specs.declared.event.Event.{Event}
use Rattle.rapid_text.specs.declared.event.Kind.{Kind}
use Rattle.rapid_text.specs.declared.event.Kind.TheVariants.{Reads, Writes, Acquires, Releases, Forks, Joins}
use Rattle.rapid_text.specs.declared.event.Op.{Op}
use Rattle.rapid_text.specs.declared.event.Op.TheVariants.{Read, Write, Acquire, Release, Fork, Join}
use Rattle.rapid_text.specs.declared.refusal.TextRefusal.{TextRefusal}
use Rattle.rapid_text.proofs.Cuts.{Fails, fails-each}
use Rattle.rapid_text.proofs.CanonicalLines.{lines_text}
use Rattle.rapid_text.proofs.NameNumbers.{has, bytes_eq-refl, name_at-number_of, has-first_uses, uses-each}
use Rattle.rapid_text.proofs.PrintedLines.{IsName, IsPrintable, line_of, op_line, length-word_of-le}
use Rattle.rapid_text.proofs.SaidLines.{IsPrintable-said, length-line_of}
use Rattle.rapid_text.proofs.Trims.{back-append}
use Rattle.window.specs.Cuts.{name_with, with_name}
use Rattle.window.proofs.NameLemmas.{has_use, has_at, number_within}

-- What a reading tells: its events by name, each of which can be printed.
abbrev HasNoFeed : List ℕ → Type 0
HasNoFeed line = All (Fails is_line_feed) line

onto_first-no_feed : (c : ℕ) (lines : List (List ℕ)) → is_line_feed c ≡ false → All HasNoFeed lines → All HasNoFeed (onto_first c lines)
onto_first-no_feed c [] other clear =
    let single = All-cons (Fails is_line_feed) c [] other (All-nil (Fails is_line_feed)) in
    All-cons HasNoFeed (c ∷ []) [] single (All-nil HasNoFeed)
onto_first-no_feed c (line ∷ lines) other clear =
    let longer = All-cons (Fails is_line_feed) c line other (All-head HasNoFeed line lines clear) in
    All-cons HasNoFeed (c ∷ line) lines longer (All-tail HasNoFeed line lines clear)

cond-no_feed : (b : Bool) (c : ℕ) (lines : List (List ℕ)) → is_line_feed c ≡ b → All HasNoFeed lines → All HasNoFeed (cond b ([] ∷ lines) (onto_first c lines))
cond-no_feed true c lines is clear = All-cons HasNoFeed [] lines (All-nil (Fails is_line_feed)) clear
cond-no_feed false c lines is clear = onto_first-no_feed c lines is clear

lines-no_feed : (text : List ℕ) → All HasNoFeed (slice_split is_line_feed text)
lines-no_feed [] = All-cons HasNoFeed [] [] (All-nil (Fails is_line_feed)) (All-nil HasNoFeed)
lines-no_feed (c ∷ text) = cond-no_feed (is_line_feed c) c (slice_split is_line_feed text) refl (lines-no_feed text)

cons_option-printable : (line : List ℕ) (reading : LineReading) (events : List NamedEvent) → HasNoFeed line → line_reading line ≡ reading → All IsPrintable events
    → All IsPrintable (cons_option (event_said reading) events)
cons_option-printable line Skipped events clear is printable = printable
cons_option-printable line (Refused why) events clear is printable = printable
cons_option-printable line (Says event) events clear is printable = All-cons IsPrintable event events (IsPrintable-said line event clear is) printable

events-printable : (lines : List (List ℕ)) → All HasNoFeed lines → All IsPrintable (named_events lines)
events-printable [] clear = All-nil IsPrintable
events-printable (line ∷ lines) clear =
    let later = events-printable lines (All-tail HasNoFeed line lines clear) in
    cons_option-printable line (line_reading line) (named_events lines) (All-head HasNoFeed line lines clear) refl later

pub reading_by-Ok : (lines : List (List ℕ)) (refusals : List TextRefusal) (r : Recording) → reading_by lines refusals ≡ Ok r → r ≡ recording_of (named_events lines)
reading_by-Ok lines [] r is = (cc is)
reading_by-Ok lines (refusal ∷ later) r is = absurd (cc is)

pub said : (text : List ℕ) (r : Recording) → reading_of text ≡ Ok r → (events : List NamedEvent) × (r ≡ recording_of events) × All IsPrintable events
unfolding reading_of
said text r is =
    let lines = slice_split is_line_feed text in
    (named_events lines, reading_by-Ok lines (refusals_of lines) r is, events-printable lines (lines-no_feed text))

-- each of what the lines of a text say can be printed
pub printable_lines : (text : List ℕ) → All IsPrintable (named_events (slice_split is_line_feed text))
printable_lines text = events-printable (slice_split is_line_feed text) (lines-no_feed text)

-- what is read is what the lines say
pub read_as : (text : List ℕ) (r : Recording) → reading_of text ≡ Ok r → r ≡ recording_of (named_events (slice_split is_line_feed text))
unfolding reading_of
read_as text r is = let lines = slice_split is_line_feed text in reading_by-Ok lines (refusals_of lines) r is

-- the names of printable events are names
use_name : (uses : NamedEvent → List (List ℕ)) → ((e : NamedEvent) (name : List ℕ) → IsPrintable e → has (uses e) name ≡ true → IsName name)
    → (events : List NamedEvent) (name : List ℕ) → All IsPrintable events → has (flat_map uses events) name ≡ true → IsName name
use_name uses each [] name all here = absurd (cc here)
use_name uses each (e ∷ events) name all here =
    elim (cases_Bool (has (uses e) name)) [
      | inl own ↦ each e name (All-head IsPrintable e events all) own
      | inr other ↦
          let rest : has (flat_map uses events) name ≡ true =
          sym (ap (λ b. b || has (flat_map uses events) name) other) ∙ sym (list_any-append (bytes_eq name) (uses e) (flat_map uses events)) ∙ here in
          use_name uses each events name (All-tail IsPrintable e events all) rest
    ]

same_name : (name other : List ℕ) → bytes_eq name other ≡ true → IsName other → IsName name
same_name name other same is = subst IsName (sym ((bytes_decides name other).0 same)) is

where_name : (b : Bool) (e : NamedEvent) (name : List ℕ) → IsPrintable e → has (cond b (e.name ∷ []) []) name ≡ true → IsName name
where_name true e name ok here =
    elim (cases_Bool (bytes_eq name e.name)) [
      | inl same ↦ same_name name e.name same ok.name
      | inr other ↦ absurd (false≢true (sym (ap (λ b. b || false) other) ∙ here))
    ]
where_name false e name ok here = absurd (false≢true here)

thread_name : (e : NamedEvent) (name : List ℕ) → IsPrintable e → has (e.thread ∷ name_where names_thread e) name ≡ true → IsName name
thread_name e name ok here =
    elim (cases_Bool (bytes_eq name e.thread)) [
      | inl same ↦ same_name name e.thread same ok.thread
      | inr other ↦ where_name (names_thread e.kind) e name ok (sym (ap (λ b. b || has (name_where names_thread e) name) other) ∙ here)
    ]

-- each name of the recording can be printed
pub record HasNames (r : Recording) : Type 0 where
  pub threads : (name : List ℕ) → has r.threads name ≡ true → IsName name
  pub variables : (name : List ℕ) → has r.variables name ≡ true → IsName name
  pub locks : (name : List ℕ) → has r.locks name ≡ true → IsName name

pub said_names : (events : List NamedEvent) → All IsPrintable events → HasNames (recording_of events)
said_names events all = record {
  threads = λ name here.
      use_name (λ e. e.thread ∷ name_where names_thread e) (λ e n. thread_name e n) events name all (has_use (thread_uses events) name here);
  variables = λ name here.
      use_name (name_where names_variable) (λ e n ok h. where_name (names_variable e.kind) e n ok h) events name all (has_use (variable_uses events) name here);
  locks = λ name here.
      use_name (name_where names_lock) (λ e n ok h. where_name (names_lock e.kind) e n ok h) events name all (has_use (lock_uses events) name here);
}

no_blanks : (j : ℕ) → suffix_len is_blank (replicate j 95) ≡ 0
no_blanks zero = refl
no_blanks (suc j) = back-append is_blank [] 95 (replicate j 95) (no_blanks j) refl

-- the name of a prologue's variable and lock
pub new_is_name : (j : ℕ) → length (name_with j) ≤ name_limit → IsName (name_with j)
new_is_name j short = record {
  some = omega (arith, length-replicate {A = ℕ} j 95);
  short = short;
  bare = record { front = refl; back = back-append is_blank (codes "windo") 119 (replicate j 95) (no_blanks j) refl };
  no_bar = All-append (Fails is_bar) (codes "window") (replicate j 95) (fails-each is_bar (codes "window") refl) (All-replicate (Fails is_bar) j 95 refl);
  no_feed =
      All-append (Fails is_line_feed) (codes "window") (replicate j 95) (fails-each is_line_feed (codes "window") refl)
      (All-replicate (Fails is_line_feed) j 95 refl);
}

-- An event of a recording by its names.
abbrev pub kind_in : Op → Kind
kind_in (Read x) = Reads
kind_in (Write x) = Writes
kind_in (Acquire l) = Acquires
kind_in (Release l) = Releases
kind_in (Fork u) = Forks
kind_in (Join u) = Joins

abbrev pub operand : Recording → Op → List ℕ
operand R (Read x) = name_at R.variables x
operand R (Write x) = name_at R.variables x
operand R (Acquire l) = name_at R.locks l
operand R (Release l) = name_at R.locks l
operand R (Fork u) = name_at R.threads u
operand R (Join u) = name_at R.threads u

abbrev pub said_event : Recording → Event → List ℕ → NamedEvent
said_event R e location = record { thread = name_at R.threads e.thread; kind = kind_in e.op; name = operand R e.op; location = location }

abbrev pub all_said : Recording → List Event → List (List ℕ) → List NamedEvent
all_said R [] locations = []
all_said R (e ∷ es) [] = said_event R e [] ∷ all_said R es []
all_said R (e ∷ es) (location ∷ locations) = said_event R e location ∷ all_said R es locations

regroup : (thread op location : List ℕ) → thread ++ codes "|" ++ op ++ codes "|" ++ location ++ codes "\n" ≡ (thread ++ 124 ∷ (op ++ 124 ∷ location)) ++ 10 ∷ []
regroup thread op location = simp append_assoc

op_said : (R : Recording) (op : Op) → op_text R op ≡ op_line (kind_in op) (operand R op)
op_said R (Read x) = refl
op_said R (Write x) = refl
op_said R (Acquire l) = refl
op_said R (Release l) = refl
op_said R (Fork u) = refl
op_said R (Join u) = refl

event_said_text : (R : Recording) (e : Event) (location : List ℕ) → event_text R e location ≡ line_of (said_event R e location) ++ 10 ∷ []
event_said_text R e location =
    ap (λ (op : List ℕ). name_at R.threads e.thread ++ codes "|" ++ op ++ codes "|" ++ location ++ codes "\n") (op_said R e.op)
    ∙ regroup (name_at R.threads e.thread) (op_line (kind_in e.op) (operand R e.op)) location

pub lines_said : (R : Recording) (es : List Event) (ls : List (List ℕ)) → events_text R es ls ≡ lines_text (all_said R es ls)
lines_said R [] ls = refl
lines_said R (e ∷ es) [] = ap₂ (λ (a b : List ℕ). a ++ b) (event_said_text R e []) (lines_said R es [])
lines_said R (e ∷ es) (l ∷ ls) = ap₂ (λ (a b : List ℕ). a ++ b) (event_said_text R e l) (lines_said R es ls)

-- The names of events that were read.
pub record IsKnown (r : Recording) (e : NamedEvent) : Type 0 where
  pub thread : has r.threads e.thread ≡ true
  pub of_thread : names_thread e.kind ≡ true → has r.threads e.name ≡ true
  pub of_variable : names_variable e.kind ≡ true → has r.variables e.name ≡ true
  pub of_lock : names_lock e.kind ≡ true → has r.locks e.name ≡ true

has_where : (b : Bool) (name : List ℕ) → b ≡ true → has (cond b (name ∷ []) []) name ≡ true
has_where true name passes = or_left (bytes_eq name name) false (bytes_eq-refl name)
has_where false name passes = absurd (false≢true passes)

pub known_said : (events : List NamedEvent) → All (IsKnown (recording_of events)) events
known_said events k d lt =
    let thread_use = λ (e : NamedEvent). e.thread ∷ name_where names_thread e in
    let of_threads = uses-each thread_use events k d lt in
    let of_variables = uses-each (name_where names_variable) events k d lt in
    let of_locks = uses-each (name_where names_lock) events k d lt in
    let e : NamedEvent = get_or events k d in
    record {
      thread = has-first_uses (thread_uses events) e.thread (of_threads e.thread (or_left (bytes_eq e.thread e.thread) (has (name_where names_thread e) e.thread) (bytes_eq-refl e.thread)));
      of_thread = λ passes.
          has-first_uses (thread_uses events) e.name (of_threads e.name (or_right (bytes_eq e.name e.thread) (has (name_where names_thread e) e.name) (has_where (names_thread e.kind) e.name passes)));
      of_variable = λ passes. has-first_uses (variable_uses events) e.name (of_variables e.name (has_where (names_variable e.kind) e.name passes));
      of_lock = λ passes. has-first_uses (lock_uses events) e.name (of_locks e.name (has_where (names_lock e.kind) e.name passes));
    }

-- a name among the others leads back to itself, with one more name too
pub with_last : (names : List (List ℕ)) (own name : List ℕ) → has names name ≡ true → name_at (names ++ own ∷ []) (number_of names name) ≡ name
with_last names own name here =
    get_or_append_left names (own ∷ []) [] (number_of names name) (number_within names name here) ∙ name_at-number_of names name here

-- With one more name of each kind an event that was read is said as before.
module _ (r : Recording) (own : List ℕ) where
  abbrev R : Recording
  R = with_name r own

  said_op : (kind : Kind) (name : List ℕ) → (names_thread kind ≡ true → has r.threads name ≡ true) → (names_variable kind ≡ true → has r.variables name ≡ true)
      → (names_lock kind ≡ true → has r.locks name ≡ true)
      → (kind_in (numbered_op r.threads r.variables r.locks kind name) ≡ kind) × (operand R (numbered_op r.threads r.variables r.locks kind name) ≡ name)
  said_op Reads name t v l = (refl, with_last r.variables own name (v refl))
  said_op Writes name t v l = (refl, with_last r.variables own name (v refl))
  said_op Acquires name t v l = (refl, with_last r.locks own name (l refl))
  said_op Releases name t v l = (refl, with_last r.locks own name (l refl))
  said_op Forks name t v l = (refl, name_at-number_of r.threads name (t refl))
  said_op Joins name t v l = (refl, name_at-number_of r.threads name (t refl))

  said_again : (e : NamedEvent) → IsKnown r e → said_event R (numbered r.threads r.variables r.locks e) e.location ≡ e
  said_again e known =
      let op = said_op e.kind e.name known.of_thread known.of_variable known.of_lock in
      let thread : name_at r.threads (number_of r.threads e.thread) ≡ e.thread = name_at-number_of r.threads e.thread known.thread in
      event_is (name_at r.threads (number_of r.threads e.thread)) e.thread (kind_in (numbered_op r.threads r.variables r.locks e.kind e.name)) e.kind
      (operand R (numbered_op r.threads r.variables r.locks e.kind e.name)) e.name e.location thread op.0 op.1
    where
      event_is : (t t' : List ℕ) (k k' : Kind) (n n' location : List ℕ) → t ≡ t' → k ≡ k' → n ≡ n'
          → (let x : NamedEvent = record { thread = t; kind = k; name = n; location = location } in x) ≡ (record { thread = t'; kind = k'; name = n'; location = location })
      event_is t t' k k' n n' location a b c = cc

  pub all_again : (es : List NamedEvent) → All (IsKnown r) es
      → all_said R (map (numbered r.threads r.variables r.locks) es) (map (λ e. e.location) es) ≡ es
  all_again [] known = refl
  all_again (e ∷ es) known =
      ap₂ (λ (x : NamedEvent) (xs : List NamedEvent). x ∷ xs) (said_again e (All-head (IsKnown r) e es known)) (all_again es (All-tail (IsKnown r) e es known))

  -- An event of the prologue can be printed.
  module _ (names : HasNames r) (own_is : IsName own) where
    name_in : (table : List (List ℕ)) → ((name : List ℕ) → has table name ≡ true → IsName name) → (x : ℕ) → x < length (table ++ own ∷ []) → IsName (name_at (table ++ own ∷ []) x)
    name_in table each x lt =
        elim (cases_lt x (length table)) [
          | inl low ↦ subst IsName (sym (get_or_append_left table (own ∷ []) [] x low)) (each (name_at table x) (has_at table x low))
          | inr le ↦ subst IsName (sym (get_or_push table own [] x (omega (arith, lt, le, length_push table own)))) own_is
        ]

    operand_name : (op : Op) → IsNamedOp R op → IsName (operand R op)
    operand_name (Read x) lt = name_in r.variables names.variables x lt
    operand_name (Write x) lt = name_in r.variables names.variables x lt
    operand_name (Acquire l) lt = name_in r.locks names.locks l lt
    operand_name (Release l) lt = name_in r.locks names.locks l lt
    operand_name (Fork u) lt = names.threads (name_at r.threads u) (has_at r.threads u lt)
    operand_name (Join u) lt = names.threads (name_at r.threads u) (has_at r.threads u lt)

    pub said_printable : (e : Event) → IsNamed R e → IsPrintable (said_event R e [])
    said_printable e named =
        let t : IsName (name_at r.threads e.thread) = names.threads (name_at r.threads e.thread) (has_at r.threads e.thread named.0) in
        let n : IsName (operand R e.op) = operand_name e.op named.1 in
        record {
          thread = t;
          name = n;
          bare = record { front = refl; back = refl };
          no_feed = All-nil (Fails is_line_feed);
          fits = omega (arith, length-line_of (said_event R e []), length-word_of-le (kind_in e.op), t.short, n.short);
        }

    pub all_printable : (es : List Event) → All (IsNamed R) es → All IsPrintable (all_said R es [])
    all_printable [] all = All-nil IsPrintable
    all_printable (e ∷ es) all =
        All-cons IsPrintable (said_event R e []) (all_said R es []) (said_printable e (All-head (IsNamed R) e es all)) (all_printable es (All-tail (IsNamed R) e es all))
