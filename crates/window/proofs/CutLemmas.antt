-- What is cut from a trace that was read reads as its window.
use Rattle.std.proofs.Common.{◌≡◌, ℕ, zero, suc, ◌+◌, ◌-◌, ◌<◌, ◌≤◌, false, cond, List, [], ◌∷◌, ◌++◌, length, map, take, drop, replicate, All, Ok, bytes_eq, Some, slice_get, refl, sym, ap, ap₂, ◌∙◌, subst, arith, append_assoc, inl, inr}
use Rattle.std.specs.List.{IsDistinct, slice_split}
use Rattle.std.proofs.lemmas.Bool.{cases_lt, or_parts, lt-ltb, le-ltb}
use Rattle.std.proofs.lemmas.Grind.{flat_map-append}
use Rattle.std.proofs.Math.Seq.{drop-append_seam}
use Rattle.std.proofs.lemmas.List.{length-append, take-map, length_push}
use Rattle.std.proofs.lemmas.List.Elements.{All-nil, All-append, All-take, All-drop, All-weaker}
use Rattle.std.proofs.lemmas.Option.{slice_get_within, get_or_from_slice_get}
use Rattle.rapid_text.specs.Limits.{event_limit, name_limit}
use Rattle.rapid_text.specs.Canonical.{events_text}
use Rattle.rapid_text.specs.Reading.{NamedEvent, is_line_feed, named_events, reading_of, recording_of, numbered, thread_uses, variable_uses, lock_uses}
use Rattle.rapid_text.specs.Recording.{Recording, IsWellFormed, IsNamed, IsNamedOp}
use Rattle.rapid_text.specs.declared.event.Event.{Event}
use Rattle.rapid_text.specs.declared.event.Op.{Op}
use Rattle.rapid_text.specs.declared.event.Op.TheVariants.{Read, Write, Acquire, Release, Fork, Join}
use Rattle.rapid_text.proofs.CanonicalLines.{lines_text}
use Rattle.rapid_text.proofs.NameNumbers.{has}
use Rattle.rapid_text.proofs.PrintedLines.{IsName, IsPrintable, line_of}
use Rattle.rapid_text.proofs.Turns.{Follow}
use Rattle.trace_rules.specs.Rules.{IsDisciplined}
use Rattle.window.specs.CutLaws.{CutAtReadsAsWindow, CutReadsAsWindow, CutIsSound, IsWindowText}
use Rattle.window.specs.Cuts.{IsCutAt, IsNewName, Fits, last_end, prologue_of, prologue_size, begin_line, window_text, window_text_at, with_name}
use Rattle.window.specs.Streams.{said_in}
use Rattle.window.specs.Made.{IsUnused, chain_length, part_of}
use Rattle.window.specs.Renamed.{renamed}
use Rattle.window.specs.Window.{IsWindow}
use Rattle.window.proofs.BeginLemmas.{begin_is, head_line, head_skipped, head_unbroken}
use Rattle.window.proofs.DisciplineLemmas.{window-disciplined}
use Rattle.window.proofs.HoldsLemmas.{of_law, long_part}
use Rattle.window.proofs.NameLemmas.{distinct_first_uses, distinct_push}
use Rattle.window.proofs.PrologueLemmas.{bounded_of, prologue_long, prologue_named}
use Rattle.window.proofs.ReadLemmas.{reads_after, said_after, follow_up, all_known, long_said, to_own, to_own_apart, own_events}
use Rattle.window.proofs.RenamedLemmas.{renamed_law}
use Rattle.window.proofs.SoundLemmas.{sound_law}
use Rattle.window.proofs.TextLemmas.{HasNames, IsKnown, printable_lines, read_as, said_names, known_said, new_is_name, all_said, lines_said, all_again, all_printable}

drop_map : {X Y : Type 0} (f : X → Y) (n : ℕ) (xs : List X) → drop n (map f xs) ≡ map f (drop n xs)
drop_map f zero xs = refl
drop_map f (suc n) [] = refl
drop_map f (suc n) (x ∷ xs) = drop_map f n xs

-- events with no locations, and then others
said_join : (R : Recording) (es fs : List Event) (ls : List (List ℕ)) → all_said R (es ++ fs) (replicate (length es) [] ++ ls) ≡ all_said R es [] ++ all_said R fs ls
said_join R [] fs ls = refl
said_join R (e ∷ es) fs ls = ap (λ (xs : List NamedEvent). all_said R (e ∷ []) [] ++ xs) (said_join R es fs ls)

-- The window of the trace at k to m, its name being new.
module _ (bytes : List ℕ) (r : Recording) (k m : ℕ) (own : List ℕ) (reads : reading_of bytes ≡ Ok r) (formed : IsWellFormed r) (rules : IsDisciplined r.events)
    (new : IsNewName r own) (begins : k ≤ m) (within : m ≤ length r.events) (fits : Fits r k m) where
  abbrev T : List Event
  T = r.events

  abbrev R : Recording
  R = with_name r own

  abbrev P : List Event
  P = prologue_of r k m

  abbrev L : List Event
  L = part_of T k m

  abbrev ls : List (List ℕ)
  ls = take (m - k) (drop k r.locations)

  abbrev X : List NamedEvent
  X = all_said R P [] ++ all_said R L ls

  abbrev n : ℕ
  n = prologue_size r k m

  -- what the bytes say
  abbrev events : List NamedEvent
  events = named_events (slice_split is_line_feed bytes)

  is_said : r ≡ recording_of events
  is_said = read_as bytes r reads

  said_well : All IsPrintable events
  said_well = printable_lines bytes

  names : HasNames r
  names = subst HasNames (sym is_said) (said_names events said_well)

  known : All (IsKnown r) events
  known = subst (λ (s : Recording). All (IsKnown s) events) (sym is_said) (known_said events)

  T_is : T ≡ map (numbered r.threads r.variables r.locks) events
  T_is = ap (λ (s : Recording). s.events) is_said ∙ ap (λ (s : Recording). map (numbered s.threads s.variables s.locks) events) (sym is_said)

  locations_are : r.locations ≡ map (λ (e : NamedEvent). e.location) events
  locations_are = ap (λ (s : Recording). s.locations) is_said

  -- the part is said as before
  part_said : all_said R L ls ≡ take (m - k) (drop k events)
  part_said =
      let f = numbered r.threads r.variables r.locks in
      let g : NamedEvent → List ℕ = λ e. e.location in
      let first : L ≡ map f (take (m - k) (drop k events)) =
      ap (λ es. take (m - k) (drop k es)) T_is ∙ ap (take (m - k)) (drop_map f k events) ∙ take-map f (m - k) (drop k events) in
      let second : ls ≡ map g (take (m - k) (drop k events)) =
      ap (λ l. take (m - k) (drop k l)) locations_are ∙ ap (take (m - k)) (drop_map g k events) ∙ take-map g (m - k) (drop k events) in
      ap₂ (λ es l. all_said R es l) first second
      ∙ all_again r own (take (m - k) (drop k events)) (All-take (IsKnown r) (m - k) (drop k events) (All-drop (IsKnown r) k events known))

  own_name : IsName own
  own_name = subst IsName (sym new.is) (new_is_name new.underscores (subst (λ (l : List ℕ). length l ≤ name_limit) new.is new.short))

  prologue_is_named : All (IsNamed R) P
  prologue_is_named = prologue_named r formed k m begins within own

  X_printable : All IsPrintable X
  X_printable =
      All-append IsPrintable (all_said R P []) (all_said R L ls) (all_printable r own names own_name P prologue_is_named)
      (subst (All IsPrintable) (sym part_said) (All-take IsPrintable (m - k) (drop k events) (All-drop IsPrintable k events said_well)))

  more_named : (e : Event) → IsNamed r e → IsNamed R e
  more_named e named = (named.0, by_op e.op named.1)
    where
      by_op : (op : Op) → IsNamedOp r op → IsNamedOp R op
      by_op (Read x) lt = omega (arith, lt, length_push r.variables own)
      by_op (Write x) lt = omega (arith, lt, length_push r.variables own)
      by_op (Acquire l) lt = omega (arith, lt, length_push r.locks own)
      by_op (Release l) lt = omega (arith, lt, length_push r.locks own)
      by_op (Fork u) lt = lt
      by_op (Join u) lt = lt

  part_named : All (IsNamed R) L
  part_named = All-take (IsNamed R) (m - k) (drop k T) (All-drop (IsNamed R) k T (All-weaker (IsNamed r) (IsNamed R) more_named T formed.named))

  abbrev W : List Event
  W = P ++ L

  abbrev all_ls : List (List ℕ)
  all_ls = replicate (length P) [] ++ ls

  X_is : all_said R W all_ls ≡ X
  X_is = said_join R P L ls

  W_named : All (IsNamed R) W
  W_named = All-append (IsNamed R) P L prologue_is_named part_named

  X_known : All (IsKnown R) X
  X_known = subst (All (IsKnown R)) X_is (all_known R W all_ls W_named)

  long_X : length X ≤ event_limit
  long_X =
      omega (
        arith,
        fits,
        ap (λ (es : List NamedEvent). length es) X_is,
        long_said R W all_ls,
        length-append P L,
        prologue_long r k m,
        long_part T k m begins within,
      )

  follow : Follow [] X
  follow = follow_up R [] X (omega (arith, long_X)) formed.threads (All-nil (IsKnown R)) X_known

  small_k : k < 10000000000000000000
  small_k = omega (arith, begins, within, formed.events)

  small_m : m < 10000000000000000000
  small_m = omega (arith, within, formed.events)

  small_n : n < 10000000000000000000
  small_n = omega (arith, fits)

  -- the text after the first line
  abbrev body : List ℕ
  body = events_text R P [] ++ events_text R L ls

  body_is : body ≡ lines_text X
  body_is =
      ap₂ (λ (a b : List ℕ). a ++ b) (lines_said R P []) (lines_said R L ls)
      ∙ sym (flat_map-append (λ e. line_of e ++ 10 ∷ []) (all_said R P []) (all_said R L ls))

  text_is : (q q' : ℕ) → begin_line q q' n ++ body ≡ head_line q q' n ++ 10 ∷ lines_text X
  text_is q q' = ap₂ (λ (a b : List ℕ). a ++ b) (begin_is q q' n) body_is ∙ append_assoc (head_line q q' n) (10 ∷ []) (lines_text X)

  abbrev V : Recording
  V = recording_of X

  reads_V : (q q' : ℕ) → q < 10000000000000000000 → q' < 10000000000000000000 → reading_of (begin_line q q' n ++ body) ≡ Ok V
  reads_V q q' small small' =
      ap reading_of (text_is q q')
      ∙ reads_after (head_line q q' n) X (head_skipped q q' n small small' small_n) (head_unbroken q q' n small small' small_n) X_printable follow

  -- its events by name: those of the prologue, and then the part as it was
  said_V : (q q' : ℕ) → q < 10000000000000000000 → q' < 10000000000000000000 → said_in (begin_line q q' n ++ body) ≡ X
  said_V q q' small small' =
      ap said_in (text_is q q')
      ∙ said_after (head_line q q' n) X (head_skipped q q' n small small' small_n) (head_unbroken q q' n small small' small_n) X_printable

  part_V : (q q' : ℕ) → q < 10000000000000000000 → q' < 10000000000000000000 → drop n (said_in (begin_line q q' n ++ body)) ≡ take (m - k) (drop k events)
  part_V q q' small small' =
      let front : List NamedEvent = all_said R P [] in
      let long : length front ≡ n = long_said R P [] ∙ prologue_long r k m in
      ap (drop n) (said_V q q' small small')
      ∙ ap (λ (i : ℕ). drop i X) (sym long)
      ∙ drop-append_seam front (all_said R L ls)
      ∙ part_said

  free : (has r.variables own ≡ false) × (has r.locks own ≡ false)
  free = or_parts (has r.variables own) (has r.locks own) new.new

  each_thread : IsDistinct bytes_eq R.threads
  each_thread = subst (λ (s : Recording). IsDistinct bytes_eq s.threads) (sym is_said) (distinct_first_uses (thread_uses events))

  each_variable : IsDistinct bytes_eq R.variables
  each_variable = distinct_push r.variables own (subst (λ (s : Recording). IsDistinct bytes_eq s.variables) (sym is_said) (distinct_first_uses (variable_uses events))) free.0

  each_lock : IsDistinct bytes_eq R.locks
  each_lock = distinct_push r.locks own (subst (λ (s : Recording). IsDistinct bytes_eq s.locks) (sym is_said) (distinct_first_uses (lock_uses events))) free.1

  V_is : renamed (to_own R X X_known each_thread each_variable each_lock) V.events ≡ W
  V_is =
      ap (λ es. renamed (to_own R X X_known each_thread each_variable each_lock) (map (numbered V.threads V.variables V.locks) es)) (sym X_is)
      ∙ own_events R X X_known each_thread each_variable each_lock W all_ls W_named (subst (All (IsKnown V)) (sym X_is) (known_said X))

  unused : IsUnused T k m (length r.variables) (length r.locks)
  unused = record {
    variable = λ e v low high at. (
      λ reads_it. let lt : length r.variables < length r.variables = subst (IsNamedOp r) reads_it (named e v at).1 in omega (arith, lt),
      λ writes_it. let lt : length r.variables < length r.variables = subst (IsNamedOp r) writes_it (named e v at).1 in omega (arith, lt),
    );
    off = λ e v low high at. (
      λ takes. let lt : length r.locks < length r.locks = subst (IsNamedOp r) takes (named e v at).1 in omega (arith, lt),
      λ frees. let lt : length r.locks < length r.locks = subst (IsNamedOp r) frees (named e v at).1 in omega (arith, lt),
    );
  }
    where
      named : (e : ℕ) (v : Event) → slice_get T e ≡ Some v → IsNamed r v
      named e v at = subst (IsNamed r) (get_or_from_slice_get T e v v at) (formed.named e v (slice_get_within T e v at))

  W_is : IsWindow T W k m n (length r.variables) (length r.locks) (chain_length T k m (length r.threads) (length r.locks))
  W_is = of_law T k m (length r.variables) (length r.locks) (length r.threads) (length r.locks) rules begins within (bounded_of r formed) unused

  read_back : (q q' : ℕ) → q < 10000000000000000000 → q' < 10000000000000000000 → IsWindowText r k m (begin_line q q' n ++ body)
  read_back q q' small small' =
      let f = to_own R X X_known each_thread each_variable each_lock in
      let apart = to_own_apart R X X_known each_thread each_variable each_lock in
      let x = length r.variables in
      let lock = length r.locks in
      let c = chain_length T k m (length r.threads) (length r.locks) in
      record {
        inner = V;
        reads = reads_V q q' small small';
        names = f;
        apart = apart;
        variable = x;
        lock = lock;
        chain = c;
        is = subst (λ (es : List Event). IsWindow T es k m n x lock c) (sym V_is) W_is;
        keeps = renamed_law.disciplined f V.events apart (subst IsDisciplined (sym V_is) (window-disciplined T W k m n x lock c rules W_is));
      }

  pub read_back_own : IsWindowText r k m (window_text r own k m)
  unfolding window_text
  read_back_own = read_back k m small_k small_m

  pub read_back_at : (q : ℕ) → q < 1000000000000000000 → IsWindowText r k m (window_text_at r own q k m)
  unfolding window_text_at
  read_back_at q small = read_back q (q + (m - k)) (omega (arith, small)) (omega (arith, small, within, formed.events))

  pub part_back_at : (q : ℕ) → q < 1000000000000000000 → drop n (said_in (window_text_at r own q k m)) ≡ take (m - k) (drop k events)
  unfolding window_text_at
  part_back_at q small = part_V q (q + (m - k)) (omega (arith, small)) (omega (arith, small, within, formed.events))

last_within : (r : Recording) (k most m : ℕ) → m ≤ last_end r k most → m ≤ length r.events
last_within r k most m le =
    elim (cases_lt (length r.events) (k + most)) [
      | inl lt ↦ omega (arith, le, ap (λ b. cond b (length r.events) (k + most)) (lt-ltb (length r.events) (k + most) lt))
      | inr high ↦ omega (arith, le, high, ap (λ b. cond b (length r.events) (k + most)) (le-ltb (length r.events) (k + most) high))
    ]

pub cut_law : CutReadsAsWindow
cut_law bytes r k most text reads formed rules cut =
    let ends = cut.ends in
    subst (IsWindowText r k cut.end) (sym cut.is)
    (read_back_own bytes r k cut.end cut.name reads formed rules cut.named (omega (arith, ends.some)) (last_within r k most cut.end ends.within) ends.fits)

pub cut_at_law : CutAtReadsAsWindow
cut_at_law bytes r q k most text reads formed rules small cut =
    let ends = cut.ends in
    subst (IsWindowText r k cut.end) (sym cut.is)
    (read_back_at bytes r k cut.end cut.name reads formed rules cut.named (omega (arith, ends.some)) (last_within r k most cut.end ends.within) ends.fits q small)

-- behind the prologue the text has the events of the trace, by name and with their locations
pub cut_part : (bytes : List ℕ) (r : Recording) (q k most : ℕ) (text : List ℕ) → reading_of bytes ≡ Ok r → IsWellFormed r → IsDisciplined r.events → q < 1000000000000000000
    → (cut : IsCutAt r q k most text) → drop (prologue_size r k cut.end) (said_in text) ≡ take (cut.end - k) (drop k (said_in bytes))
cut_part bytes r q k most text reads formed rules small cut =
    let ends = cut.ends in
    ap (λ (t : List ℕ). drop (prologue_size r k cut.end) (said_in t)) cut.is
    ∙ part_back_at bytes r k cut.end cut.name reads formed rules cut.named (omega (arith, ends.some)) (last_within r k most cut.end ends.within) ends.fits q small

pub cut_sound_law : CutIsSound
cut_sound_law r k m a b text P rules window correct first second shows =
    let f = window.names in
    let V = window.inner.events in
    let n = prologue_size r k m in
    let moved = (renamed_law.reorderings f V P window.apart).0 correct in
    let shown = (renamed_law.shown f V P a b window.apart).0 shows in
    let sound = sound_law r.events (renamed f V) k m n window.variable window.lock window.chain P rules window.is moved in
    (sound.0, sound.1 a b first second shown)
