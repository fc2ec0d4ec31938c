-- What is kept of a trace that was read so far, and why a piece after it is refused.
use Rattle.std.proofs.Common.{◌≡◌, ◌≢◌, ◌⊎◌, ℕ, zero, suc, ◌+◌, ◌-◌, ◌<◌, ◌≤◌, ◌||◌, true, bytes_eq, List, [], ◌∷◌, ◌++◌, Ok, Err, length, take, slice_index, refl, sym, ap, ap₂, ◌∙◌, subst, arith, inl, inr}
use Rattle.std.proofs.lemmas.List.{length-append, length-map, length_push, take_all, take_more, get_or_push}
use Rattle.rapid_text.specs.Reading.{NamedEvent, first_uses, numbered, reading_of, recording_of, thread_uses}
use Rattle.rapid_text.specs.Recording.{Recording}
use Rattle.rapid_text.specs.declared.refusal.TextCause.TheVariants.{TooManyEvents, TooManyNames}
use Rattle.rapid_text.specs.declared.refusal.TextRefusal.{TextRefusal}
use Rattle.rapid_text.specs.Refusals.{no_memory as no_text}
use Rattle.trace_rules.specs.Rules.{IsDisciplined, IsFirstBreach, no_memory}
use Rattle.trace_rules.specs.declared.refusal.RuleCause.TheVariants.{OutOfMemory}
use Rattle.trace_rules.specs.declared.refusal.RuleRefusal.{RuleRefusal}
use Rattle.window.specs.Fronts.{HasTooManyEvents, IsLongest, IsLongestBy, IsOver, KeepsOn}
use Rattle.window.specs.declared.cutting.Window.{Window}
use Rattle.window.specs.Heads.{IsReadAfter}
use Rattle.window.specs.Tables.{found_name, has_fork, has_join, has_thread}
use Rattle.window.specs.Streams.{IsFirstRefused, IsFront, IsHeldText, IsPast, IsUnrefused, IsKept, IsWhole, Past, Stands, Stream, feeds, fork_uses, join_uses, long_trace, no_past, own_uses, said_in}
use Rattle.rapid_text.proofs.NameNumbers.{has, has-first_uses}
use Rattle.window.proofs.NameLemmas.{few_uses}
use Rattle.window.proofs.UsesLemmas.{forks_among, joins_among, one_of_three, own_among, three_uses}
use Rattle.std.specs.List.{IsDistinct}
use Rattle.std.proofs.Math.Nat.{le_antisymm}
use Rattle.std.proofs.lemmas.Cmp.{nat_list_eq_equiv}
use Rattle.std.proofs.lemmas.Map.Made.{length-le_from_is_member}
use Rattle.window.proofs.KnownLemmas.{next_is}
use Rattle.window.proofs.RefusalLemmas.{feeds-append, none_behind, unrefused-append, refuses_law, too_large}
use Rattle.window.proofs.StreamLemmas.{begins_law, breaks_law, read_is, rules_law, said-append}
use Rattle.window.proofs.SummaryLemmas.{goes_law, long_piece, summary-size}

pub whole-none : (text : List ℕ) → length text ≡ 0 → IsWhole text
whole-none [] none = inl refl
whole-none (c ∷ text) none = absurd (omega (arith, none))

pub whole-last : (text : List ℕ) → 0 < length text → slice_index text (length text - 1) ≡ 10 → IsWhole text
whole-last text some last =
    let i : ℕ = length text - 1 in
    let n : length text ≡ i + 1 = omega (arith, some) in
    inr (
      take i text,
      sym (take_all (length text) text (omega arith)) ∙ ap (λ (j : ℕ). take j text) n ∙ take_more text i 0 (omega (arith, some))
          ∙ ap (λ (c : ℕ). take i text ++ c ∷ []) last,
    )

pub last-whole : (text : List ℕ) → IsWhole text → 0 < length text → slice_index text (length text - 1) ≡ 10
last-whole text (inl none) some = absurd (omega (arith, some, ap (λ (t : List ℕ). length t) none))
last-whole text (inr (front, is)) some =
    ap (λ (t : List ℕ). slice_index t (length t - 1)) is
    ∙ get_or_push front 10 0 (length (front ++ 10 ∷ []) - 1) (omega (arith, length_push front 10))

nothing_reads : reading_of [] ≡ Ok (recording_of [])
unfolding reading_of
nothing_reads = refl

none_refused : IsUnrefused []
none_refused zero lt = refl
none_refused (suc i) lt = absurd (omega (arith, lt))

past_is : (f g j : List (List ℕ)) (h : List ℕ) → f ≡ [] → g ≡ [] → j ≡ [] → h ≡ [] → (let p : Past = record { forked = f; seen = g; joined = j; held = h } in p) ≡ no_past
past_is f g j h no_f no_g no_j no_h = cc

pub front_begins : (past : Past) (holds : ℕ) → past.forked ≡ [] → past.seen ≡ [] → past.joined ≡ [] → past.held ≡ [] → holds ≡ 0 → IsFront [] past holds 0 0
front_begins past holds no_f no_g no_j no_h none =
    let none_kept : past ≡ no_past = past_is past.forked past.seen past.joined past.held no_f no_g no_j no_h in
    record {
      is_past = subst (IsPast []) (sym none_kept) begins_law;
      unrefused = λ i lt. none_refused i lt;
      holds_are = none ∙ sym (ap (λ (t : List ℕ). length (said_in t)) no_h);
      number_is = refl;
      number_small = omega arith;
      lines_are = refl;
    }

-- how many events a text has that is read
pub size_is : (text : List ℕ) (r : Recording) → reading_of text ≡ Ok r → length r.events ≡ length (said_in text)
size_is text r reads =
    let s : Recording = recording_of (said_in text) in
    ap (λ (q : Recording). length q.events) (read_is text r reads) ∙ length-map (said_in text) (numbered s.threads s.variables s.locks)

-- The text that is kept keeps the rules.
kept_rules : (kept : List ℕ) → IsKept kept → IsDisciplined (long_trace kept)
kept_rules kept (r, reads, rules) = subst (λ (s : Recording). IsDisciplined s.events) (read_is kept r reads) rules

-- a piece without events
pub no_events : (kept more : List ℕ) (r : Recording) → IsWhole kept → reading_of (kept ++ more) ≡ Ok r → length r.events ≤ length (said_in kept) → said_in more ≡ []
no_events kept more r whole reads few = none (said_in more) (omega (arith, few, long_piece kept more r whole reads))
  where
    none : (es : List NamedEvent) → length es ≡ 0 → es ≡ []
    none [] nil = refl
    none (e ∷ es) nil = absurd (omega (arith, nil))

-- what is known of the fields, of what a clause sees
pub front_of : (read : List ℕ) (past : Past) (holds number lines : ℕ) (s : Stream) → (let t : Stream = record { read = read; past = past } in t) ≡ s → IsFront read past holds number lines
    → IsFront s.read s.past holds number lines
front_of read past holds number lines s is front = subst (λ (t : Stream). IsFront t.read t.past holds number lines) is front

module _ (read : List ℕ) (past : Past) (holds number lines : ℕ) (is : IsFront read past holds number lines) (more : List ℕ) where
  -- what is kept after a piece
  pub front_after : (next : Past) (holds' number' lines' events : ℕ) → IsPast (read ++ more) next → IsUnrefused more → holds' ≡ length (said_in next.held) → number' ≡ number + events
      → events ≡ length (said_in more) → number' < 1000000000000000000 → lines' ≡ lines + feeds more → IsFront (read ++ more) next holds' number' lines'
  front_after next holds' number' lines' events kept own held summed counted small lined = record {
    is_past = kept;
    unrefused = unrefused-append read more is.is_past.whole is.unrefused own;
    holds_are = held;
    number_is =
        omega (
          arith,
          is.number_is,
          summed,
          counted,
          ap (λ (es : List NamedEvent). length es) (said-append read more is.is_past.whole),
          length-append (said_in read) (said_in more),
        );
    number_small = small;
    lines_are = omega (arith, is.lines_are, lined, feeds-append read more);
  }

  -- an event that breaks a rule
  pub breach_told : (head : List ℕ) (size : ℕ) (r : Recording) (why : RuleRefusal) (event : ℕ) → Stands read head more → IsKept head → size ≡ length (said_in head) → reading_of (head ++ more) ≡ Ok r
      → (why ≡ no_memory) ⊎ IsFirstBreach r.events why → why.why ≢ OutOfMemory → event ≡ number + (why.event - size)
      → IsFirstBreach (long_trace (read ++ more)) (record { event = event; why = why.why })
  breach_told head size r why event stands kept sized reads (inl none) other here = absurd (other (ap (λ (w : RuleRefusal). w.why) none))
  breach_told head size r why event stands kept sized reads (inr first) other here =
      let told = breaks_law read head more r why stands (kept_rules head kept) reads first in
      let place : length (said_in read) + (why.event - length (said_in head)) ≡ event = omega (arith, here, is.number_is, sized) in
      subst (λ (i : ℕ). let w : RuleRefusal = record { event = i; why = why.why } in IsFirstBreach (long_trace (read ++ more)) w) place told.1

  -- a line that is refused
  pub line_told : (why : TextRefusal) (line : ℕ) → (why ≡ no_text) ⊎ (reading_of more ≡ Err why) → 0 < why.line → why.why ≢ TooManyEvents → why.why ≢ TooManyNames → line ≡ lines + why.line
      → IsFirstRefused (read ++ more) line why.why
  line_told why line (inl none) some few narrow here = absurd (omega (arith, some, ap (λ (w : TextRefusal). w.line) none))
  line_told why line (inr refused) some few narrow here =
      let told = refuses_law read more why is.is_past.whole is.unrefused refused few narrow in
      let place : feeds read + why.line ≡ line = omega (arith, here, is.lines_are) in
      subst (λ (i : ℕ). IsFirstRefused (read ++ more) i why.why) place told

-- How many events a piece has that was read after a text in the place of what was read.
pub long_after : (read more : List ℕ) (r : Recording) (from : ℕ) → IsReadAfter read more r from → length r.events ≡ from + length (said_in more)
long_after read more r from (head, stands, reads, size) = omega (arith, size, long_piece head more r stands.ends reads)

-- What is kept after such a piece.
pub goes_after : (read more : List ℕ) (past next : Past) (r : Recording) (from : ℕ) → IsPast read past → IsWhole more → IsReadAfter read more r from → IsDisciplined r.events
    → ((name : List ℕ) → has next.forked name ≡ (has past.forked name || found_name r.threads (has_fork r.events from (length r.events)) (length r.threads) name))
    → ((name : List ℕ) → has next.seen name ≡ (has past.seen name || found_name r.threads (has_thread r.events from (length r.events)) (length r.threads) name))
    → ((name : List ℕ) → has next.joined name ≡ (has past.joined name || found_name r.threads (has_join r.events from (length r.events)) (length r.threads) name))
    → {holds : ℕ} → (is : IsHeldText r next.held) × (holds ≡ length is.events)
    → IsPast (read ++ more) next × IsUnrefused more × (holds ≡ length (said_in next.held))
goes_after read more past next r from is whole (head, stands, reads, size) rules forked seen joined {holds} held =
    let piece : r ≡ recording_of (said_in head ++ said_in more) = read_is (head ++ more) r reads ∙ ap recording_of (said-append head more stands.ends) in
    let on = next_is past next head more r from piece size forked seen joined held.0 in (
      goes_law read head more r past next is stands whole reads rules on,
      none_behind head more r stands.ends reads,
      held.1 ∙ sym (summary-size (head ++ more) r reads next.held held.0),
    )

-- a piece that is read, but not after the head
pub size_told : (head more : List ℕ) (why : TextRefusal) → IsWhole head → IsKept head → ((s : Recording) × (reading_of more ≡ Ok s)) → (why ≡ no_text) ⊎ (reading_of (head ++ more) ≡ Err why) → 0 < why.line
    → why.why ≢ TooManyNames → HasTooManyEvents (head ++ more)
size_told head more why whole kept own (inl none) some narrow = absurd (omega (arith, some, ap (λ (w : TextRefusal). w.line) none))
size_told head more why whole kept own (inr refused) some narrow =
    elim (too_large head more kept.0 own.0 why whole kept.1 own.1 refused) [
      | inl many ↦ (why, refused, many)
      | inr many ↦ absurd (narrow many)
    ]

-- the refusal is one of the text
pub refused_told : (text : List ℕ) (why : TextRefusal) → (why ≡ no_text) ⊎ (reading_of text ≡ Err why) → 0 < why.line → reading_of text ≡ Err why
refused_told text why (inl none) some = absurd (omega (arith, some, ap (λ (w : TextRefusal). w.line) none))
refused_told text why (inr refused) some = refused

-- The threads of what was read are those that are kept.
pub threads_are : (read : List ℕ) (past : Past) (all : List (List ℕ)) → IsPast read past → IsDistinct bytes_eq all
    → ((name : List ℕ) → has all name ≡ ((has past.seen name || has past.forked name) || has past.joined name)) → length all ≡ length (first_uses (thread_uses (said_in read)))
threads_are read past all is each same =
    le_antisymm
    (length-le_from_is_member nat_list_eq_equiv all (first_uses (thread_uses (said_in read))) each (λ x here. has-first_uses (thread_uses (said_in read)) x (named x (sym (same x) ∙ here))))
    (few_uses (thread_uses (said_in read)) all (λ x here. same x ∙ noted x (three_uses (said_in read) x here)))
  where
    named : (x : List ℕ) → ((has past.seen x || has past.forked x) || has past.joined x) ≡ true → has (thread_uses (said_in read)) x ≡ true
    named x some =
        elim (one_of_three (has past.seen x) (has past.forked x) (has past.joined x) some) [
          | inl seen ↦ own_among (said_in read) x (is.seen x ∙ seen)
          | inr rest ↦ elim rest [
            | inl forked ↦ forks_among (said_in read) x (is.forked x ∙ forked)
            | inr joined ↦ joins_among (said_in read) x (is.joined x ∙ joined)
          ]
        ]

    noted : (x : List ℕ) → ((has (own_uses (said_in read)) x || has (fork_uses (said_in read)) x) || has (join_uses (said_in read)) x) ≡ true
        → ((has past.seen x || has past.forked x) || has past.joined x) ≡ true
    noted x some = sym (ap₂ (λ a b. a || b) (ap₂ (λ a b. a || b) (is.seen x) (is.forked x)) (is.joined x)) ∙ some

-- what was read and a piece that keeps the rules after a head
pub keeps_on : (read head more : List ℕ) → IsUnrefused read → Stands read head more → IsKept (head ++ more) → KeepsOn read more
keeps_on read head more own stands (r, reads, rules) = (
  rules_law read head more r stands reads rules,
  unrefused-append read more stands.whole own (none_behind head more r stands.ends reads),
)

-- the longest window after one head
pub longest_on : (read head more : List ℕ) (most : ℕ) (w : Window) → Stands read head more → IsLongestBy (IsOver head more) more most w → IsLongest read more most w
longest_on read head more most w stands (inl all) = inl all
longest_on read head more most w stands (inr part) = inr (part.0, part.1, part.2, (head, stands, part.3))
