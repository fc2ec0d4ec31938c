-- The canonical line of an event, and that it reads back as that event.
use Rattle.std.proofs.Common.{◌≡◌, ℕ, ◌-◌, ◌<◌, ◌≤◌, Bool, true, false, cond, not, ◌||◌, List, [], ◌∷◌, ◌++◌, length, drop, nat_eq, nat_lt, ◌==◌, codes, All, Option, Some, refl, sym, ap, ◌∙◌, arith, append_assoc, drop_at}
use Rattle.std.specs.List.{ends_with, list_any, prefix_len, suffix_len, before_first, after_first, before_last}
use Rattle.std.specs.Cmp.Lexicographic.{pointwise}
use Rattle.std.proofs.lemmas.Bool.{cond-false, ne_eqb, le-ltb, or_from}
use Rattle.std.proofs.lemmas.List.{length-append}
use Rattle.std.proofs.lemmas.List.Elements.{All-append, All-cons, All-nil}
use Rattle.std.proofs.lemmas.List.Folds.{list_any-append}
use Rattle.rapid_text.specs.declared.event.Kind.{Kind}
use Rattle.rapid_text.specs.declared.event.Kind.TheVariants.{Reads, Writes, Acquires, Releases, Forks, Joins}
use Rattle.rapid_text.specs.Limits.{line_limit, name_limit}
use Rattle.rapid_text.specs.declared.refusal.TextCause.TheVariants.{NoBar, BadParentheses, EmptyName, NameTooLong, LineTooLong}
use Rattle.rapid_text.specs.Reading.{is_blank, is_line_feed, is_bar, is_open, is_close, trimmed, word_of, kind_of, is_mark, NamedEvent, LineReading, Skipped, Refused, Says, named_reading, operation_reading, fields_reading, line_reading}
use Rattle.rapid_text.proofs.Cuts.{Fails, fails-each, before_first-at, after_first-at, before_last-push}
use Rattle.rapid_text.proofs.Trims.{IsBare, trimmed-bare, front-append, back-append}

-- an operation as `word(name)`
abbrev pub op_line : Kind → List ℕ → List ℕ
op_line kind name = word_of kind ++ 40 ∷ (name ++ 41 ∷ [])

-- the canonical line, without its line feed
abbrev pub line_of : NamedEvent → List ℕ
line_of event = event.thread ++ 124 ∷ (op_line event.kind event.name ++ 124 ∷ event.location)

-- what holds of the names that a line can say
pub record IsName (name : List ℕ) : Type 0 where
  pub some : 0 < length name
  pub short : length name ≤ name_limit
  pub bare : IsBare name
  pub no_bar : All (Fails is_bar) name
  pub no_feed : All (Fails is_line_feed) name

-- what holds of the events that a line can say
pub record IsPrintable (event : NamedEvent) : Type 0 where
  pub thread : IsName event.thread
  pub name : IsName event.name
  pub bare : IsBare event.location
  pub no_feed : All (Fails is_line_feed) event.location
  pub fits : length (line_of event) ≤ line_limit

-- what the canonical line of an event reads as
abbrev pub ReadsBack : NamedEvent → Type 0
ReadsBack event = line_reading (line_of event) ≡ Says event

-- what holds of each of the six kinds holds of any kind
each-kind : (P : Kind → Type 0) → P Reads → P Writes → P Acquires → P Releases → P Forks → P Joins
    → (kind : Kind) → P kind
each-kind P r w a l f j Reads = r
each-kind P r w a l f j Writes = w
each-kind P r w a l f j Acquires = a
each-kind P r w a l f j Releases = l
each-kind P r w a l f j Forks = f
each-kind P r w a l f j Joins = j

-- an operation with its parenthesis is no bare mark
is_mark-op : (kind : Kind) (rest : List ℕ) → is_mark (word_of kind ++ 40 ∷ rest) ≡ false
is_mark-op kind rest = each-kind (λ k. is_mark (word_of k ++ 40 ∷ rest) ≡ false) refl refl refl refl refl refl kind

-- nor is its word
is_mark-word : (kind : Kind) → is_mark (word_of kind) ≡ false
is_mark-word kind = each-kind (λ k. is_mark (word_of k) ≡ false) refl refl refl refl refl refl kind

has_open-op : (kind : Kind) (rest : List ℕ) → list_any is_open (word_of kind ++ 40 ∷ rest) ≡ true
has_open-op kind rest = each-kind (λ k. list_any is_open (word_of k ++ 40 ∷ rest) ≡ true) refl refl refl refl refl refl kind

-- the word before the parenthesis, without the blanks that it does not have
word-op : (kind : Kind) (rest : List ℕ)
    → trimmed (before_first is_open (word_of kind ++ 40 ∷ rest)) ≡ word_of kind
word-op kind rest =
    each-kind (λ k. trimmed (before_first is_open (word_of k ++ 40 ∷ rest)) ≡ word_of k) refl refl refl refl refl refl kind

-- what stands behind the parenthesis
after_open-op : (kind : Kind) (rest : List ℕ) → after_first is_open (word_of kind ++ 40 ∷ rest) ≡ rest
after_open-op kind rest =
    each-kind (λ k. after_first is_open (word_of k ++ 40 ∷ rest) ≡ rest) refl refl refl refl refl refl kind

-- the words of the kinds differ
kind_of-word_of : (kind : Kind) → kind_of (word_of kind) ≡ Some kind
kind_of-word_of kind = each-kind (λ k. kind_of (word_of k) ≡ Some k) refl refl refl refl refl refl kind

-- no word begins with a blank, or has a bar or a line feed
front-op : (kind : Kind) (rest : List ℕ) → prefix_len is_blank (word_of kind ++ 40 ∷ rest) ≡ 0
front-op kind rest = each-kind (λ k. prefix_len is_blank (word_of k ++ 40 ∷ rest) ≡ 0) refl refl refl refl refl refl kind

no_bar-word : (kind : Kind) → list_any is_bar (word_of kind) ≡ false
no_bar-word kind = each-kind (λ k. list_any is_bar (word_of k) ≡ false) refl refl refl refl refl refl kind

no_feed-word : (kind : Kind) → list_any is_line_feed (word_of kind) ≡ false
no_feed-word kind = each-kind (λ k. list_any is_line_feed (word_of k) ≡ false) refl refl refl refl refl refl kind

-- no word is longer than `fork`
pub length-word_of-le : (kind : Kind) → length (word_of kind) ≤ 4
length-word_of-le kind =
    each-kind (λ k. length (word_of k) ≤ 4) (omega arith) (omega arith) (omega arith) (omega arith) (omega arith) (omega arith) kind

-- the operation, with its last parenthesis apart
op_line-push : (kind : Kind) (name : List ℕ) → op_line kind name ≡ (word_of kind ++ 40 ∷ name) ++ 41 ∷ []
op_line-push kind name = sym (append_assoc (word_of kind) (40 ∷ name) (41 ∷ []))

ends_with-op : (kind : Kind) (name : List ℕ) → ends_with nat_eq (op_line kind name) (41 ∷ []) ≡ true
ends_with-op kind name =
    let front = word_of kind ++ 40 ∷ name in
    ap (λ (xs : List ℕ). pointwise nat_eq (41 ∷ []) (drop (length xs - 1) xs)) (op_line-push kind name)
    ∙ ap (pointwise nat_eq (41 ∷ [])) (drop_at front (41 ∷ []) (length (front ++ 41 ∷ []) - 1) (omega (arith, length-append front (41 ∷ []))))

bare-op : (kind : Kind) (name : List ℕ) → IsBare (op_line kind name)
bare-op kind name =
    record {
      front = front-op kind (name ++ 41 ∷ []);
      back = ap (suffix_len is_blank) (op_line-push kind name) ∙ back-append is_blank (word_of kind ++ 40 ∷ name) 41 [] refl refl;
    }

-- a text around a byte keeps what holds of each byte
All-around : (P : ℕ → Type 0) → (xs : List ℕ) (y : ℕ) (ys : List ℕ) → All P xs → P y → All P ys
    → All P (xs ++ y ∷ ys)
All-around P xs y ys left at right = All-append P xs (y ∷ ys) left (All-cons P y ys at right)

no_bar-op : (kind : Kind) (name : List ℕ) → All (Fails is_bar) name → All (Fails is_bar) (op_line kind name)
no_bar-op kind name clear =
    All-around (Fails is_bar) (word_of kind) 40 (name ++ 41 ∷ []) (fails-each is_bar (word_of kind) (no_bar-word kind)) refl
    (All-around (Fails is_bar) name 41 [] clear refl (All-nil (Fails is_bar)))

no_feed-op : (kind : Kind) (name : List ℕ) → All (Fails is_line_feed) name
    → All (Fails is_line_feed) (op_line kind name)
no_feed-op kind name clear =
    All-around (Fails is_line_feed) (word_of kind) 40 (name ++ 41 ∷ []) (fails-each is_line_feed (word_of kind) (no_feed-word kind)) refl
    (All-around (Fails is_line_feed) name 41 [] clear refl (All-nil (Fails is_line_feed)))

-- a canonical line has no line feed
pub no_feed-line_of : (event : NamedEvent) → IsPrintable event → All (Fails is_line_feed) (line_of event)
no_feed-line_of event ok =
    All-around (Fails is_line_feed) event.thread 124 (op_line event.kind event.name ++ 124 ∷ event.location) ok.thread.no_feed refl
    (All-around (Fails is_line_feed) (op_line event.kind event.name) 124 event.location (no_feed-op event.kind event.name ok.name.no_feed) refl ok.no_feed)

-- names in range are no fault
named_reading-name : (event : NamedEvent) → IsName event.thread → IsName event.name
    → named_reading event.thread (Some event.kind) event.name event.location ≡ Says event
named_reading-name event thread name =
    let m = length event.thread in
    let n = length event.name in
    let thread_some = thread.some in
    let name_some = name.some in
    let some : (m == 0 || n == 0) ≡ false =
    or_from (m == 0) (n == 0) (ne_eqb m 0 (λ e. omega arith)) (ne_eqb n 0 (λ e. omega arith)) in
    let short : (nat_lt name_limit m || nat_lt name_limit n) ≡ false =
    or_from (nat_lt name_limit m) (nat_lt name_limit n) (le-ltb name_limit m thread.short) (le-ltb name_limit n name.short) in
    cond-false (m == 0 || n == 0) (Refused EmptyName) _ some
    ∙ cond-false (nat_lt name_limit m || nat_lt name_limit n) (Refused NameTooLong) (Says event) short

-- of the word and the name of an operation that is no bare mark
abbrev word_reading : List ℕ → List ℕ → List ℕ → List ℕ → LineReading
word_reading thread location word name = cond (is_mark word) Skipped (named_reading thread (kind_of word) name location)

-- an operation reads as its kind and its name
operation_reading-op : (event : NamedEvent) → IsName event.thread → IsName event.name
    → operation_reading event.thread (op_line event.kind event.name) event.location ≡ Says event
operation_reading-op event thread name =
    let kind = event.kind in
    let op = op_line event.kind event.name in
    let behind = event.name ++ 41 ∷ [] in
    let word = trimmed (before_first is_open op) in
    let inner = trimmed (before_last is_close (after_first is_open op)) in
    let same_name : inner ≡ event.name =
    ap (λ (xs : List ℕ). trimmed (before_last is_close xs)) (after_open-op kind behind)
    ∙ ap trimmed (before_last-push is_close event.name 41 refl)
    ∙ trimmed-bare event.name name.bare in
    let no_paren = not (list_any is_open op) in
    let no_end = not (ends_with nat_eq op (codes ")")) in
    let closed : (no_paren || no_end) ≡ false =
    or_from no_paren no_end (ap not (has_open-op kind behind)) (ap not (ends_with-op kind event.name)) in
    let reading = word_reading event.thread event.location in
    cond-false (is_mark op) Skipped _ (is_mark-op kind behind)
    ∙ cond-false (no_paren || no_end) (Refused BadParentheses) (reading word inner) closed
    ∙ ap (λ (xs : List ℕ). reading xs inner) (word-op kind behind)
    ∙ ap (reading (word_of kind)) same_name
    ∙ cond-false (is_mark (word_of kind)) Skipped _ (is_mark-word kind)
    ∙ ap (λ (o : Option Kind). named_reading event.thread o event.name event.location) (kind_of-word_of kind)
    ∙ named_reading-name event thread name

-- the fields of a canonical line are those of its event
fields_reading-line_of : (event : NamedEvent) → IsPrintable event → fields_reading (line_of event) ≡ Says event
fields_reading-line_of event ok =
    let op = op_line event.kind event.name in
    let tail = op ++ 124 ∷ event.location in
    let rest = after_first is_bar (line_of event) in
    let behind : rest ≡ tail = after_first-at is_bar event.thread 124 tail ok.thread.no_bar refl in
    let clear = no_bar-op event.kind event.name ok.name.no_bar in
    let thread : trimmed (before_first is_bar (line_of event)) ≡ event.thread =
    ap trimmed (before_first-at is_bar event.thread 124 tail ok.thread.no_bar refl)
    ∙ trimmed-bare event.thread ok.thread.bare in
    let operation : trimmed (before_first is_bar rest) ≡ op =
    ap (λ (xs : List ℕ). trimmed (before_first is_bar xs)) behind
    ∙ ap trimmed (before_first-at is_bar op 124 event.location clear refl)
    ∙ trimmed-bare op (bare-op event.kind event.name) in
    let location : trimmed (after_first is_bar rest) ≡ event.location =
    ap (λ (xs : List ℕ). trimmed (after_first is_bar xs)) behind
    ∙ ap trimmed (after_first-at is_bar op 124 event.location clear refl)
    ∙ trimmed-bare event.location ok.bare in
    ap (λ (xs : List ℕ). operation_reading xs (trimmed (before_first is_bar rest)) (trimmed (after_first is_bar rest))) thread
    ∙ ap (λ (xs : List ℕ). operation_reading event.thread xs (trimmed (after_first is_bar rest))) operation
    ∙ ap (operation_reading event.thread op) location
    ∙ operation_reading-op event ok.thread ok.name

-- a canonical line has no blank at either end
bare-line_of : (event : NamedEvent) → IsPrintable event → IsBare (line_of event)
bare-line_of event ok =
    let op = op_line event.kind event.name in
    let apart : line_of event ≡ (event.thread ++ 124 ∷ op) ++ 124 ∷ event.location = sym (append_assoc event.thread (124 ∷ op) (124 ∷ event.location)) in
    record {
      front = front-append is_blank event.thread (124 ∷ (op ++ 124 ∷ event.location)) ok.thread.some ok.thread.bare.front;
      back = ap (suffix_len is_blank) apart ∙ back-append is_blank (event.thread ++ 124 ∷ op) 124 event.location ok.bare.back refl;
    }

-- of a line without the blanks at its ends
abbrev bare_reading : List ℕ → LineReading
bare_reading line = cond (length line == 0) Skipped (cond (nat_lt line_limit (length line)) (Refused LineTooLong) (cond (not (list_any is_bar line)) (Refused NoBar) (fields_reading line)))

has-bar : (a b : Bool) → (a || (true || b)) ≡ true
has-bar true b = refl
has-bar false b = refl

-- a canonical line reads back
pub line_reading-line_of : (event : NamedEvent) → IsPrintable event → line_reading (line_of event) ≡ Says event
line_reading-line_of event ok =
    let line = line_of event in
    let tail = op_line event.kind event.name ++ 124 ∷ event.location in
    let some : length line ≡ 0 → ⊥ = (λ e. omega (arith, length-append event.thread (124 ∷ tail))) in
    let bar : list_any is_bar line ≡ true = list_any-append is_bar event.thread (124 ∷ tail) ∙ has-bar (list_any is_bar event.thread) (list_any is_bar tail) in
    ap bare_reading (trimmed-bare line (bare-line_of event ok))
    ∙ cond-false (length line == 0) Skipped _ (ne_eqb (length line) 0 some)
    ∙ cond-false (nat_lt line_limit (length line)) (Refused LineTooLong) _ (le-ltb line_limit (length line) ok.fits)
    ∙ cond-false (not (list_any is_bar line)) (Refused NoBar) (fields_reading line) (ap not bar)
    ∙ fields_reading-line_of event ok
