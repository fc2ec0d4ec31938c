-- What is kept after a piece, and the windows after a head.
use Rattle.std.proofs.Common.{◌≡◌, ℕ, ◌+◌, ◌-◌, ◌/◌, ◌<◌, ◌≤◌, ◌||◌, nat_lt, List, [], ◌∷◌, ◌++◌, flat_map, All, Ok, codes, length, drop, take, cond, inl, inr, refl, sym, ap, ap₂, ◌∙◌, subst, arith}
use Rattle.std.proofs.Math.Seq.{drop-append_seam}
use Rattle.std.proofs.lemmas.Bool.{cases_lt, lt-ltb, le-ltb}
use Rattle.std.proofs.lemmas.List.{length-append, length-map, take-append-le}
use Rattle.std.proofs.lemmas.List.Elements.{All-cons, All-head, All-nil, All-tail, All-weaker}
use Rattle.rapid_text.specs.Reading.{NamedEvent, is_bar, is_line_feed, name_where, numbered, reading_of, recording_of}
use Rattle.rapid_text.specs.declared.event.Kind.TheVariants.{Acquires}
use Rattle.rapid_text.specs.declared.event.Op.TheVariants.{Acquire}
use Rattle.rapid_text.specs.Recording.{Recording, IsNamed, IsWellFormed}
use Rattle.rapid_text.specs.declared.event.Event.{Event}
use Rattle.rapid_text.proofs.Cuts.{fails-each}
use Rattle.rapid_text.proofs.CanonicalLines.{lines_text}
use Rattle.rapid_text.proofs.PrintedLines.{IsName}
use Rattle.trace_rules.specs.Rules.{IsDisciplined, hold_count}
use Rattle.window.specs.declared.cutting.Window.{Window}
use Rattle.window.specs.Cuts.{IsCutAs, IsCutAt, last_end, prologue_size, with_name}
use Rattle.window.specs.CutLaws.{IsWindowText}
use Rattle.window.specs.Fronts.{IsLongestBy, IsOver, asked_of}
use Rattle.rapid_text.specs.Limits.{event_limit}
use Rattle.window.proofs.CutLemmas.{cut_at_law, cut_part}
use Rattle.window.proofs.ReadLemmas.{long_said}
use Rattle.window.specs.Renamed.{renamed}
use Rattle.window.specs.StreamLaws.{StreamGoesOn}
use Rattle.window.specs.Streams.{IsHeldText, IsNumbering, IsExactPart, IsOf, IsWhole, IsWindowAt, Stands, by_numbers, fork_uses, join_uses, long_trace, names_forked, names_joined, own_uses, read_name, said_in}
use Rattle.window.proofs.UsesLemmas.{uses-append}
use Rattle.rapid_text.proofs.NameNumbers.{has}
use Rattle.window.proofs.LeftLemmas.{even-from_rules, even-of_rules, holds-append, holds-renamed}
use Rattle.window.proofs.NumberLemmas.{into, into_is, into_locks, into_threads, numbering-append, numbering-left, numbering-right, of_named, summary-numbering, summary_is}
use Rattle.window.proofs.StreamLemmas.{numbers_append, read_is, rules_in, rules_law, said-append, said_lines, sound_stream_law, whole-append, whole_lines}
use Rattle.window.proofs.TextLemmas.{HasNames, all_printable, all_said, kind_in, lines_said, said, said_event, said_names}

-- What is held after a piece.
module _ (N C P : List NamedEvent) (r : Recording) (piece : r ≡ recording_of (C ++ P)) (es : List Event) (of : All (IsOf r) es) (R : Recording)
    (names : (R : Recording) → IsNumbering R N → IsNumbering R C) (n : IsNumbering R (N ++ P)) where
  of_piece : All (IsOf (recording_of (C ++ P))) es
  of_piece = subst (λ (s : Recording). All (IsOf s) es) piece of

  N_numbers : IsNumbering R N
  N_numbers = numbering-left R N P n

  P_numbers : IsNumbering R P
  P_numbers = numbering-right R N P n

  piece_numbers : IsNumbering R (C ++ P)
  piece_numbers = numbering-append R C P (names R N_numbers) P_numbers

  names_on : IsNumbering R (all_said (with_name r read_name) es [])
  names_on =
      subst (λ (s : Recording). IsNumbering R (all_said (with_name s read_name) es [])) (sym piece) (summary-numbering R (C ++ P) piece_numbers es of_piece)

  module _ (left : (t l : ℕ) → hold_count (by_numbers R N) t l ≡ hold_count (by_numbers R C) t l) (N_rules : IsDisciplined (recording_of N).events)
      (rules : IsDisciplined r.events) (es_holds : (t l : ℕ) → hold_count r.events t l ≡ hold_count es t l) where
    abbrev A : List Event
    A = by_numbers R N

    abbrev B : List Event
    B = by_numbers R C

    abbrev Q : List Event
    Q = by_numbers R P

    piece_rules : IsDisciplined (B ++ Q)
    piece_rules =
        subst IsDisciplined (numbers_append R C P)
        (rules_in R (C ++ P) piece_numbers (subst (λ (s : Recording). IsDisciplined s.events) piece rules))

    first : (t l : ℕ) → hold_count (A ++ Q) t l ≡ hold_count (B ++ Q) t l
    first = holds-append A B Q left (even-of_rules A (rules_in R N N_numbers N_rules)) (even-from_rules B Q piece_rules)

    second : (t l : ℕ) → hold_count (by_numbers R (C ++ P)) t l ≡ hold_count (by_numbers R (all_said (with_name (recording_of (C ++ P)) read_name) es [])) t l
    second t l =
        let g = into R (C ++ P) piece_numbers in
        let both : hold_count (renamed g (recording_of (C ++ P)).events) t l ≡ hold_count (renamed g es) t l =
        holds-renamed g (into_threads R (C ++ P) piece_numbers) (into_locks R (C ++ P) piece_numbers) (recording_of (C ++ P)).events es
        (subst (λ (s : Recording). (t l : ℕ) → hold_count s.events t l ≡ hold_count es t l) piece es_holds) t l in
        ap (λ (x : List Event). hold_count x t l) (sym (into_is R (C ++ P) piece_numbers))
        ∙ both
        ∙ ap (λ (x : List Event). hold_count x t l) (sym (summary_is R (C ++ P) piece_numbers es of_piece))

    holds_on : (t l : ℕ) → hold_count (by_numbers R (N ++ P)) t l ≡ hold_count (by_numbers R (all_said (with_name r read_name) es [])) t l
    holds_on t l =
        ap (λ (x : List Event). hold_count x t l) (numbers_append R N P)
        ∙ first t l
        ∙ ap (λ (x : List Event). hold_count x t l) (sym (numbers_append R C P))
        ∙ second t l
        ∙ ap (λ (s : Recording). hold_count (by_numbers R (all_said (with_name s read_name) es [])) t l) (sym piece)

pub seen_is_name : IsName read_name
seen_is_name = record {
  some = omega arith;
  short = omega arith;
  bare = record { front = refl; back = refl };
  no_bar = fails-each is_bar (codes "seen") refl;
  no_feed = fails-each is_line_feed (codes "seen") refl;
}

-- the events that the text of what is held says
module _ (bytes : List ℕ) (r : Recording) (reads : reading_of bytes ≡ Ok r) (text : List ℕ) (sum : IsHeldText r text) where
  abbrev X : List NamedEvent
  X = all_said (with_name r read_name) sum.events []

  text_is : text ≡ lines_text X
  text_is = sum.is ∙ lines_said (with_name r read_name) sum.events []

  said_is : said_in text ≡ X
  said_is =
      let kept = said bytes r reads in
      let has_names : HasNames r = subst HasNames (sym kept.1) (said_names kept.0 kept.2) in
      let own : IsName read_name = seen_is_name in
      ap said_in text_is
      ∙ said_lines X (all_printable r read_name has_names own sum.events (All-weaker (IsOf r) (IsNamed (with_name r read_name)) (of_named r) sum.events sum.named))

  pub summary-size : length (said_in text) ≡ length sum.events
  summary-size = ap (λ (es : List NamedEvent). length es) said_is ∙ long_said (with_name r read_name) sum.events []

-- each of them is an acquire
all_acquires : (R : Recording) (es : List Event) → All (λ (e : Event). (l : ℕ) × (e.op ≡ Acquire l)) es → All (λ (e : NamedEvent). e.kind ≡ Acquires) (all_said R es [])
all_acquires R [] all = All-nil (λ (e : NamedEvent). e.kind ≡ Acquires)
all_acquires R (e ∷ es) all =
    let takes : Event → Type 0 = λ e. (l : ℕ) × (e.op ≡ Acquire l) in
    All-cons (λ (x : NamedEvent). x.kind ≡ Acquires) (said_event R e []) (all_said R es []) (ap kind_in (All-head takes e es all).1) (all_acquires R es (All-tail takes e es all))

pub goes_law : StreamGoesOn
goes_law front head more r past next is st whole reads rules on =
    let N = said_in front in
    let C = said_in head in
    let P = said_in more in
    let bytes : List ℕ = head ++ more in
    let text : List ℕ = next.held in
    let sum : IsHeldText r text = on.held in
    let piece : r ≡ recording_of (C ++ P) = read_is bytes r reads ∙ ap recording_of (said-append head more st.ends) in
    let joined : said_in (front ++ more) ≡ N ++ P = said-append front more st.whole in
    let said : said_in text ≡ all_said (with_name r read_name) sum.events [] = said_is bytes r reads text sum in
    let uses = λ (of : NamedEvent → List (List ℕ)) (name : List ℕ).
    ap (λ (es : List NamedEvent). has (flat_map of es) name) joined ∙ uses-append of N P name in
    record {
      whole = whole-append front more st.whole whole;
      keeps = rules_law front head more r st reads rules;
      forked = λ name. uses (name_where names_forked) name ∙ ap (λ b. b || has (fork_uses P) name) (is.forked name) ∙ sym (on.forked name);
      seen = λ name. uses (λ e. e.thread ∷ []) name ∙ ap (λ b. b || has (own_uses P) name) (is.seen name) ∙ sym (on.seen name);
      joined = λ name. uses (name_where names_joined) name ∙ ap (λ b. b || has (join_uses P) name) (is.joined name) ∙ sym (on.joined name);
      ends = subst IsWhole (sym (text_is bytes r reads text sum)) (whole_lines (X bytes r reads text sum));
      takes = subst (All (λ (e : NamedEvent). e.kind ≡ Acquires)) (sym said) (all_acquires (with_name r read_name) sum.events sum.takes);
      names = λ R n. subst (IsNumbering R) (sym said) (names_on N C P r piece sum.events sum.named R st.names (subst (IsNumbering R) joined n));
      holds = λ R n t l.
          let m : IsNumbering R (N ++ P) = subst (IsNumbering R) joined n in
          ap (λ (es : List NamedEvent). hold_count (by_numbers R es) t l) joined
          ∙ holds_on N C P r piece sum.events sum.named R st.names m (st.left R (numbering-left R N P m) (numbering-right R N P m)).holds st.keeps rules sum.holds t l
          ∙ ap (λ (es : List NamedEvent). hold_count (by_numbers R es) t l) (sym said);
    }

-- how many events there are after a summary
pub long_piece : (front more : List ℕ) (r : Recording) → IsWhole front → reading_of (front ++ more) ≡ Ok r → length r.events ≡ length (said_in front) + length (said_in more)
long_piece front more r whole reads =
    let es : List NamedEvent = said_in front ++ said_in more in
    let is : r ≡ recording_of es = read_is (front ++ more) r reads ∙ ap recording_of (said-append front more whole) in
    let s : Recording = recording_of es in
    ap (λ (q : Recording). length q.events) is ∙ length-map es (numbered s.threads s.variables s.locks) ∙ length-append (said_in front) (said_in more)

-- the first events after a front
first_after : {X : Type 0} (A P L : List X) (i : ℕ) → i ≤ length P → take i (drop (length A) (A ++ (P ++ L))) ≡ take i P
first_after A P L i le = ap (take i) (drop-append_seam A (P ++ L)) ∙ take-append-le i P L le

-- a window at the first event after a summary
pub window_at : (front summary more later text : List ℕ) (r : Recording) (q k most : ℕ) → Stands front summary more → IsWhole more → reading_of (summary ++ more) ≡ Ok r → IsWellFormed r
    → IsDisciplined r.events → IsDisciplined (long_trace (front ++ (more ++ later))) → k ≡ length (said_in summary) → q < 1000000000000000000 → (cut : IsCutAt r q k most text)
    → IsWindowAt (front ++ (more ++ later)) (length (said_in front)) (length (said_in front) + (cut.end - k)) (prologue_size r k cut.end) text
window_at front summary more later text r q k most st whole reads formed rules all size small cut =
    let N : List NamedEvent = said_in front in
    let C : List NamedEvent = said_in summary in
    let P : List NamedEvent = said_in more in
    let L : List NamedEvent = said_in later in
    let T : List Event = long_trace (front ++ (more ++ later)) in
    let n = prologue_size r k cut.end in
    let w : IsWindowText r k cut.end text = cut_at_law (summary ++ more) r q k most text reads formed rules small cut in
    let one = sound_stream_law front summary more later text r k cut.end st whole reads rules all (omega (arith, size)) w in
    let here : length N + (k - length C) ≡ length N = omega (arith, size) in
    let there : length N + (cut.end - length C) ≡ length N + (cut.end - k) = omega (arith, size) in
    let two = subst (λ (i : ℕ). IsExactPart T i (length N + (cut.end - length C)) n text) here one in
    let joined : said_in (front ++ (more ++ later)) ≡ N ++ (P ++ L) =
    said-append front (more ++ later) st.whole ∙ ap (λ (es : List NamedEvent). N ++ es) (said-append more later whole) in
    let long : length r.events ≡ length C + length P = long_piece summary more r st.ends reads in
    let short : cut.end - k ≤ length P = omega (arith, w.is.within, long, size) in
    let few : (length N + (cut.end - k)) - length N ≡ cut.end - k = omega arith in
    let first : take (cut.end - k) (drop k (said_in (summary ++ more))) ≡ take (cut.end - k) P =
    ap (λ (es : List NamedEvent). take (cut.end - k) (drop k es)) (said-append summary more st.ends)
    ∙ ap (λ (i : ℕ). take (cut.end - k) (drop i (C ++ P))) size
    ∙ ap (take (cut.end - k)) (drop-append_seam C P) in
    let second : take ((length N + (cut.end - k)) - length N) (drop (length N) (said_in (front ++ (more ++ later)))) ≡ take (cut.end - k) P =
    ap₂ (λ (i : ℕ) (es : List NamedEvent). take i (drop (length N) es)) few joined
    ∙ first_after N P L (cut.end - k) short in
    record {
      exact = subst (λ (i : ℕ). IsExactPart T (length N) i n text) there two;
      part = cut_part (summary ++ more) r q k most text reads formed rules small cut ∙ first ∙ sym second;
    }

-- the same of a window that says where it lies
pub window_as : (front summary more later : List ℕ) (r : Recording) (q k most : ℕ) (w : Window) → Stands front summary more → IsWhole more → reading_of (summary ++ more) ≡ Ok r → IsWellFormed r
    → IsDisciplined r.events → IsDisciplined (long_trace (front ++ (more ++ later))) → k ≡ length (said_in summary) → q < 1000000000000000000 → q ≡ length (said_in front)
    → IsCutAs r q k most w → IsWindowAt (front ++ (more ++ later)) q w.to w.prologue w.text.items
window_as front summary more later r q k most w st whole reads formed rules all size small here lies =
    let text : List ℕ = w.text.items in
    let long : List ℕ = front ++ (more ++ later) in
    let last : ℕ = lies.cut.end in
    let base = window_at front summary more later text r q k most st whole reads formed rules all size small lies.cut in
    let place : length (said_in front) + (last - k) ≡ w.to = omega (arith, lies.to_is, here) in
    let one : IsWindowAt long (length (said_in front)) w.to (prologue_size r k last) text =
    subst (λ (i : ℕ). IsWindowAt long (length (said_in front)) i (prologue_size r k last) text) place base in
    let two : IsWindowAt long (length (said_in front)) w.to w.prologue text =
    subst (λ (i : ℕ). IsWindowAt long (length (said_in front)) w.to i text) (sym lies.prologue_is) one in
    subst (λ (i : ℕ). IsWindowAt long i w.to w.prologue text) (sym here) two

last_most : (r : Recording) (k most m : ℕ) → m ≤ last_end r k most → m ≤ k + most
last_most r k most m le =
    elim (cases_lt (length r.events) (k + most)) [
      | inl lt ↦ omega (arith, le, lt, ap (λ b. cond b (length r.events) (k + most)) (lt-ltb (length r.events) (k + most) lt))
      | inr high ↦ omega (arith, le, ap (λ b. cond b (length r.events) (k + most)) (le-ltb (length r.events) (k + most) high))
    ]

pub window_place : (r : Recording) (q k most : ℕ) (w : Window) → IsCutAs r q k most w → (w.from ≡ q) × (q < w.to) × (w.to ≤ q + most)
window_place r q k most w lies =
    let ends = lies.cut.ends in
    let le : lies.cut.end ≤ k + most = last_most r k most lies.cut.end ends.within in
    (lies.from_is, omega (arith, lies.to_is, ends.some), omega (arith, lies.to_is, ends.some, le))

last_is : (n k p most : ℕ) → n ≡ k + p → cond (nat_lt n (k + most)) n (k + most) ≡ k + cond (nat_lt p most) p most
last_is n k p most long =
    elim (cases_lt p most) [
      | inl lt ↦
          omega (
            arith,
            long,
            ap (λ b. cond b n (k + most)) (lt-ltb n (k + most) (omega (arith, long, lt))),
            ap (λ b. cond b p most) (lt-ltb p most lt),
          )
      | inr high ↦
          omega (
            arith,
            ap (λ b. cond b n (k + most)) (le-ltb n (k + most) (omega (arith, long, high))),
            ap (λ b. cond b p most) (le-ltb p most high),
          )
    ]

-- half of nothing is no event
half_some : (k m j : ℕ) → k < m → m - k ≡ (j - k) / 2 → k < j
half_some k m j some half =
    elim (cases_lt k j) [
      | inl lt ↦ lt
      | inr high ↦
          let none : j - k ≡ 0 = omega (arith, high) in
          let zero : (j - k) / 2 ≡ 0 = ap (λ (d : ℕ). d / 2) none in
          absurd (omega (arith, some, half, zero))
    ]

-- the window has all events that are asked for, or twice as many do not fit
pub window_longest : (head more : List ℕ) (r : Recording) (q k most : ℕ) (w : Window) → IsWhole head → reading_of (head ++ more) ≡ Ok r → k ≡ length (said_in head)
    → IsCutAs r q k most w → IsLongestBy (IsOver head more) more most w
window_longest head more r q k most w whole reads size lies =
    let ends = lies.cut.ends in
    let long : length r.events ≡ k + length (said_in more) = omega (arith, long_piece head more r whole reads, size) in
    let last : last_end r k most ≡ k + asked_of more most = last_is (length r.events) k (length (said_in more)) most long in
    elim ends.longest [
      | inl all ↦ inl (omega (arith, all, last, lies.to_is, lies.from_is))
      | inr part ↦
          let j : ℕ = part.0 in
          let after : k < j = half_some k lies.cut.end j ends.some part.1 in
          let place : k + (j - k) ≡ j = omega (arith, after) in
          let over : event_limit < prologue_size r k (k + (j - k)) + (j - k) = subst (λ (i : ℕ). event_limit < prologue_size r k i + (j - k)) (sym place) part.2 in
          inr (
            j - k,
            omega (arith, part.3, last),
            omega (arith, lies.to_is, lies.from_is, part.1),
            (r, reads, subst (λ (i : ℕ). event_limit < prologue_size r i (i + (j - k)) + (j - k)) size over),
          )
    ]
