-- What holds of the event that a line says: its canonical line can be read back.
use Rattle.std.proofs.Common.{◌≡◌, ℕ, ◌+◌, ◌-◌, ◌<◌, ◌≤◌, Bool, true, false, cond, not, ◌||◌, List, [], ◌∷◌, ◌++◌, length, nat_eq, nat_lt, ◌==◌, codes, All, Option, Some, None, bytes_eq, find, refl, sym, ap, ◌∙◌, subst, arith, inl, inr}
use Rattle.std.specs.List.{ends_with, list_any, position_or_len, suffix_len, before_first, after_first, before_last}
use Rattle.std.specs.Cmp.Lexicographic.{bytes_decides}
use Rattle.std.proofs.lemmas.Bool.{cases_lt, or_parts, eqb-false, ltb-false, not-false}
use Rattle.std.proofs.lemmas.List.{length-append}
use Rattle.std.proofs.lemmas.List.Elements.{All-take, All-drop}
use Rattle.rapid_text.specs.declared.event.Kind.{Kind}
use Rattle.rapid_text.specs.Limits.{line_limit, name_limit}
use Rattle.rapid_text.specs.declared.refusal.TextCause.{TextCause}
use Rattle.rapid_text.specs.declared.refusal.TextCause.TheVariants.{NoBar, BadParentheses, UnknownOperation, EmptyName, NameTooLong, LineTooLong}
use Rattle.rapid_text.specs.Reading.{is_line_feed, is_bar, is_open, is_close, trimmed, word_of, kinds, kind_of, is_mark, NamedEvent, LineReading, Skipped, Refused, Says, named_reading, operation_reading, fields_reading, line_reading}
use Rattle.rapid_text.proofs.Cuts.{Fails, has-first, before_first-fails, length-parts, after_first-none, length-before_last-lt}
use Rattle.rapid_text.proofs.PrintedLines.{op_line, line_of, IsName, IsPrintable, length-word_of-le}
use Rattle.rapid_text.proofs.Trims.{IsBare, bare-trimmed, length-trimmed-le, All-trimmed}

-- where a test sends to no event, and yet there is one, it was false
skip-said : (b : Bool) (x y : LineReading) (event : NamedEvent) → (x ≡ Says event → ⊥)
    → cond b x y ≡ Says event → (b ≡ false) × (y ≡ Says event)
skip-said true x y event no_event is = absurd (no_event is)
skip-said false x y event no_event is = (refl, is)

Skipped≢Says : (event : NamedEvent) → Skipped ≡ Says event → ⊥
Skipped≢Says event is = cc

Refused≢Says : (why : TextCause) (event : NamedEvent) → Refused why ≡ Says event → ⊥
Refused≢Says why event is = cc

-- the event of a line is made of these parts, and its names are in range
record IsMadeOf (thread : List ℕ) (kind : Option Kind) (name location : List ℕ) (event : NamedEvent) : Type 0 where
  thread_is : event.thread ≡ thread
  kind_is : kind ≡ Some event.kind
  name_is : event.name ≡ name
  location_is : event.location ≡ location
  thread_some : 0 < length thread
  name_some : 0 < length name
  thread_short : length thread ≤ name_limit
  name_short : length name ≤ name_limit

named_reading-said : (thread : List ℕ) (kind : Option Kind) (name location : List ℕ) (event : NamedEvent)
    → named_reading thread kind name location ≡ Says event → IsMadeOf thread kind name location event
named_reading-said thread None name location event is = absurd (Refused≢Says UnknownOperation event is)
named_reading-said thread (Some kind) name location event is =
    let some = skip-said (length thread == 0 || length name == 0) (Refused EmptyName) _ event (Refused≢Says EmptyName event) is in
    let short = skip-said (nat_lt name_limit (length thread) || nat_lt name_limit (length name)) (Refused NameTooLong) _ event (Refused≢Says NameTooLong event) some.1 in
    let both_some = or_parts (length thread == 0) (length name == 0) some.0 in
    let both_short = or_parts (nat_lt name_limit (length thread)) (nat_lt name_limit (length name)) short.0 in
    let thread_some : length thread ≡ 0 → ⊥ = eqb-false (length thread) 0 both_some.0 in
    let name_some : length name ≡ 0 → ⊥ = eqb-false (length name) 0 both_some.1 in
    let same = short.1 in
    record {
      thread_is = (cc same);
      kind_is = (cc same);
      name_is = (cc same);
      location_is = (cc same);
      thread_some = omega arith;
      name_some = omega arith;
      thread_short = ltb-false name_limit (length thread) both_short.0;
      name_short = ltb-false name_limit (length name) both_short.1;
    }

-- the word and the name of an operation
abbrev word_in : List ℕ → List ℕ
word_in op = trimmed (before_first is_open op)

abbrev name_in : List ℕ → List ℕ
name_in op = trimmed (before_last is_close (after_first is_open op))

-- an operation that says an event has a parenthesis, and its word and its name make the event
operation_reading-said : (thread op location : List ℕ) (event : NamedEvent)
    → operation_reading thread op location ≡ Says event
    → (list_any is_open op ≡ true) × (named_reading thread (kind_of (word_in op)) (name_in op) location ≡ Says event)
operation_reading-said thread op location event is =
    let unmarked = skip-said (is_mark op) Skipped _ event (Skipped≢Says event) is in
    let closed = skip-said (not (list_any is_open op) || not (ends_with nat_eq op (codes ")"))) (Refused BadParentheses) _ event (Refused≢Says BadParentheses event) unmarked.1 in
    let event_word = skip-said (is_mark (word_in op)) Skipped _ event (Skipped≢Says event) closed.1 in
    let parts = or_parts (not (list_any is_open op)) (not (ends_with nat_eq op (codes ")"))) closed.0 in
    (not-false (list_any is_open op) parts.0, event_word.1)

-- a line that says an event is short enough and has a bar
line_reading-said : (raw : List ℕ) (event : NamedEvent) → line_reading raw ≡ Says event
    → (length (trimmed raw) ≤ line_limit) × (list_any is_bar (trimmed raw) ≡ true) × (fields_reading (trimmed raw) ≡ Says event)
line_reading-said raw event is =
    let line = trimmed raw in
    let some = skip-said (length line == 0) Skipped _ event (Skipped≢Says event) is in
    let short = skip-said (nat_lt line_limit (length line)) (Refused LineTooLong) _ event (Refused≢Says LineTooLong event) some.1 in
    let barred = skip-said (not (list_any is_bar line)) (Refused NoBar) (fields_reading line) event (Refused≢Says NoBar event) short.1 in
    (ltb-false line_limit (length line) short.0, not-false (list_any is_bar line) barred.0, barred.1)

-- the first element passes, or another one is found behind it
found-passes : {X : Type 0} (p : X → Bool) (b : Bool) (y x : X) (rest : Option X) → p y ≡ b
    → cond b (Some y) rest ≡ Some x → (rest ≡ Some x → p x ≡ true) → p x ≡ true
found-passes p true y x rest passes at behind = (let same : y ≡ x = (cc at) in ap p (sym same) ∙ passes)
found-passes p false y x rest fails at behind = behind at

-- what `find` finds passes the test
find-passes : {X : Type 0} (p : X → Bool) (xs : List X) (x : X) → find p xs ≡ Some x → p x ≡ true
find-passes p [] x is = cc
find-passes p (y ∷ ys) x is = found-passes p (p y) y x (find p ys) refl is (find-passes p ys x)

-- the word of a kind that was read is the word of that kind
kind_of-is : (word : List ℕ) (kind : Kind) → kind_of word ≡ Some kind → word ≡ word_of kind
kind_of-is word kind is = (bytes_decides word (word_of kind)).0 (find-passes (λ kind. bytes_eq word (word_of kind)) kinds kind is)

-- the parts of an operation are no longer than the operation
length-op-le : (op word : List ℕ) → list_any is_open op ≡ true → word ≡ word_in op → 0 < length (name_in op)
    → length word + 1 + length (name_in op) + 1 ≤ length op
length-op-le op word opened is some =
    let rest = after_first is_open op in
    let front = before_first is_open op in
    let inner = before_last is_close rest in
    let parts = length-parts is_open op (has-first is_open op opened) in
    let word_le : length word ≤ length front = omega (arith, ap length is, length-trimmed-le front) in
    let name_le : length (name_in op) ≤ length inner = length-trimmed-le inner in
    let inner_le : length inner + 1 ≤ length rest = length-before_last-lt is_close rest (omega arith) in
    omega arith

-- how long a canonical line is
pub length-line_of : (event : NamedEvent)
    → length (line_of event) ≡ length event.thread + 1 + length (word_of event.kind) + 1 + length event.name + 1 + 1 + length event.location
length-line_of event =
    let word = word_of event.kind in
    omega (arith, length-append event.thread (124 ∷ (op_line event.kind event.name ++ 124 ∷ event.location)), length-append (op_line event.kind event.name) (124 ∷ event.location), length-append word (40 ∷ (event.name ++ 41 ∷ [])), length-append event.name (41 ∷ []))

-- what holds of each byte holds of each before the first one that passes, and behind it
All-before_first : (P : ℕ → Type 0) (p : ℕ → Bool) (xs : List ℕ) → All P xs → All P (before_first p xs)
All-before_first P p xs all = All-take P (position_or_len p xs) xs all

All-after_first : (P : ℕ → Type 0) (p : ℕ → Bool) (xs : List ℕ) → All P xs → All P (after_first p xs)
All-after_first P p xs all = All-drop P (position_or_len p xs + 1) xs all

-- a trimmed part in range is a name
IsName-trimmed : (part : List ℕ) → 0 < length (trimmed part) → length (trimmed part) ≤ name_limit
    → All (Fails is_bar) part → All (Fails is_line_feed) part → IsName (trimmed part)
IsName-trimmed part some short no_bar no_feed =
    record {
      some = some;
      short = short;
      bare = bare-trimmed part;
      no_bar = All-trimmed (Fails is_bar) part no_bar;
      no_feed = All-trimmed (Fails is_line_feed) part no_feed;
    }

-- what a part of an operation's bytes keeps
All-name_in : (P : ℕ → Type 0) (op : List ℕ) → All P op → All P (before_last is_close (after_first is_open op))
All-name_in P op all =
    let rest = after_first is_open op in
    All-take P (length rest - suffix_len (λ x. not (is_close x)) rest - 1) rest (All-after_first P is_open op all)

-- the canonical line is no longer than the line that was read, or its location is empty
fits-line_of : (line : List ℕ) (event : NamedEvent) → length line ≤ line_limit → list_any is_bar line ≡ true
    → length event.thread ≤ length (before_first is_bar line) → length event.thread ≤ name_limit
    → length event.name ≤ name_limit
    → length (word_of event.kind) + 1 + length event.name + 1 ≤ length (before_first is_bar (after_first is_bar line))
    → length event.location ≤ length (after_first is_bar (after_first is_bar line))
    → length (line_of event) ≤ line_limit
fits-line_of line event short bar thread thread_short name_short op location =
    let rest = after_first is_bar line in
    let whole = length-parts is_bar line (has-first is_bar line bar) in
    let long = length-line_of event in
    let word = length-word_of-le event.kind in
    elim (cases_lt (position_or_len is_bar rest) (length rest)) [
      | inl lt ↦ (let parts = length-parts is_bar rest lt in omega arith)
      | inr ge ↦ (let none : length (after_first is_bar rest) ≡ 0 = ap length (after_first-none is_bar rest ge) in omega arith)
    ]

-- of the parts of a line
IsPrintable-parts : (line : List ℕ) (op : List ℕ) (event : NamedEvent) → length line ≤ line_limit
    → list_any is_bar line ≡ true → All (Fails is_line_feed) line
    → op ≡ trimmed (before_first is_bar (after_first is_bar line)) → list_any is_open op ≡ true
    → IsMadeOf (trimmed (before_first is_bar line)) (kind_of (word_in op)) (name_in op) (trimmed (after_first is_bar (after_first is_bar line))) event
    → IsPrintable event
IsPrintable-parts line op event short bar clear op_is opened made =
    let front = before_first is_bar line in
    let rest = after_first is_bar line in
    let middle = before_first is_bar rest in
    let end = after_first is_bar rest in
    let clear_rest = All-after_first (Fails is_line_feed) is_bar line clear in
    let clear_middle = All-before_first (Fails is_line_feed) is_bar rest clear_rest in
    let clear_end = All-after_first (Fails is_line_feed) is_bar rest clear_rest in
    let clear_op : All (Fails is_line_feed) op =
    subst (λ (xs : List ℕ). All (Fails is_line_feed) xs) (sym op_is) (All-trimmed (Fails is_line_feed) middle clear_middle) in
    let barless_op : All (Fails is_bar) op =
    subst (λ (xs : List ℕ). All (Fails is_bar) xs) (sym op_is) (All-trimmed (Fails is_bar) middle (before_first-fails is_bar rest)) in
    let thread : IsName (trimmed front) =
    IsName-trimmed front made.thread_some made.thread_short (before_first-fails is_bar line) (All-before_first (Fails is_line_feed) is_bar line clear) in
    let name : IsName (name_in op) =
    IsName-trimmed (before_last is_close (after_first is_open op)) made.name_some made.name_short
    (All-name_in (Fails is_bar) op barless_op) (All-name_in (Fails is_line_feed) op clear_op) in
    let word : word_in op ≡ word_of event.kind = kind_of-is (word_in op) event.kind made.kind_is in
    let op_le = length-op-le op (word_of event.kind) opened (sym word) made.name_some in
    let op_short : length op ≤ length middle = omega (arith, ap length op_is, length-trimmed-le middle) in
    let thread_length : length event.thread ≡ length (trimmed front) = ap length made.thread_is in
    let name_length : length event.name ≡ length (name_in op) = ap length made.name_is in
    let location_length : length event.location ≡ length (trimmed end) = ap length made.location_is in
    let thread_short = made.thread_short in
    let name_short = made.name_short in
    let thread_le = length-trimmed-le front in
    let location_le = length-trimmed-le end in
    record {
      thread = subst IsName (sym made.thread_is) thread;
      name = subst IsName (sym made.name_is) name;
      bare = subst IsBare (sym made.location_is) (bare-trimmed end);
      no_feed = subst (λ (xs : List ℕ). All (Fails is_line_feed) xs) (sym made.location_is) (All-trimmed (Fails is_line_feed) end clear_end);
      fits = fits-line_of line event short bar (omega arith) (omega arith) (omega arith) (omega arith) (omega arith);
    }

-- an event that a line says can be printed
pub IsPrintable-said : (raw : List ℕ) (event : NamedEvent) → All (Fails is_line_feed) raw
    → line_reading raw ≡ Says event → IsPrintable event
IsPrintable-said raw event clear is =
    let line = trimmed raw in
    let rest = after_first is_bar line in
    let thread = trimmed (before_first is_bar line) in
    let op = trimmed (before_first is_bar rest) in
    let location = trimmed (after_first is_bar rest) in
    let said = line_reading-said raw event is in
    let parts = operation_reading-said thread op location event said.2 in
    let made = named_reading-said thread (kind_of (word_in op)) (name_in op) location event parts.1 in
    IsPrintable-parts line op event said.0 said.1 (All-trimmed (Fails is_line_feed) raw clear) refl parts.0 made
