-- A head stands in the place of what was read.
use Rattle.std.proofs.Common.{◌≡◌, ◌⊎◌, ℕ, ◌+◌, ◌-◌, ◌<◌, ◌==◌, ◌&&◌, ◌||◌, Bool, true, false, cond, List, [], ◌∷◌, ◌++◌, length, flat_map, codes, bytes_eq, All, Some, get_or, slice_get, take, count_by, refl, sym, ap, ap₂, ◌∙◌, subst, arith, append_assoc, append-nil, eq-eqb, inl, inr}
use Rattle.std.specs.List.{list_any}
use Rattle.std.specs.Cmp.Lexicographic.{bytes_decides}
use Rattle.std.proofs.lemmas.Bool.{cases_Bool, and_parts, or_left, or_right, false≢true}
use Rattle.std.proofs.lemmas.Grind.{flat_map-append}
use Rattle.std.proofs.lemmas.List.{take_more}
use Rattle.std.proofs.lemmas.Option.{slice_get_within, get_or_from_slice_get}
use Rattle.std.proofs.lemmas.List.Elements.{All-append, All-cons, All-head, All-nil, All-tail, All-weaker}
use Rattle.std.proofs.lemmas.List.Folds.{list_any-append}
use Rattle.std.proofs.lemmas.List.Sums.{sum_by-append, sum_by-cons}
use Rattle.rapid_text.specs.Operations.{is_acquire, is_fork, is_join, is_release}
use Rattle.rapid_text.specs.declared.event.Op.TheVariants.{Read, Fork, Join}
use Rattle.rapid_text.specs.Reading.{NamedEvent, first_uses, is_line_feed, numbered_op, name_where, number_of, numbered, recording_of, thread_uses, lock_uses, names_lock, word_of}
use Rattle.rapid_text.specs.Recording.{Recording}
use Rattle.rapid_text.specs.declared.event.Event.{Event}
use Rattle.rapid_text.specs.declared.event.Kind.{Kind}
use Rattle.rapid_text.specs.declared.event.Kind.TheVariants.{Reads, Acquires, Forks, Joins}
use Rattle.rapid_text.proofs.CanonicalLines.{lines_text}
use Rattle.rapid_text.proofs.NameNumbers.{has, bytes_eq-refl, has-first_uses}
use Rattle.rapid_text.proofs.Cuts.{Fails}
use Rattle.rapid_text.proofs.PrintedLines.{IsName, IsPrintable, length-word_of-le, line_of}
use Rattle.rapid_text.proofs.SaidLines.{length-line_of}
use Rattle.trace_rules.specs.Rules.{acquire_count, hold_count, release_count}
use Rattle.trace_rules.proofs.Counts.{list_any-from_count}
use Rattle.window.specs.HeadText.{Told, all_kept, all_of, first_name, first_outside, head_text, noted_lines, said_line}
use Rattle.window.specs.Streams.{IsLeft, IsNumbering, IsPast, IsThreadOf, IsWhole, Past, Stands, by_numbers, fork_uses, join_uses, names_forked, names_joined, own_uses, read_name, said_in}
use Rattle.window.proofs.KnownLemmas.{first_is, outside_is}
use Rattle.window.proofs.NumberLemmas.{of_thread, numbering-self}
use Rattle.window.proofs.StreamLemmas.{numbers_append, said-append, said_lines, whole-append, whole_lines}
use Rattle.window.proofs.SummaryLemmas.{seen_is_name}
use Rattle.window.proofs.TextLemmas.{printable_lines, said_names}
use Rattle.window.proofs.UsesLemmas.{count_from_any, forks_among, forks_at, joins_among, joins_at, own_among, own_at, uses-append}

-- an event without a location
abbrev said : List ℕ → Kind → List ℕ → NamedEvent
said thread kind name = record { thread = thread; kind = kind; name = name; location = [] }

-- an event for each of the names that is noted
abbrev noted_said : (List ℕ → NamedEvent) → List (List ℕ) → List (List ℕ) → List NamedEvent
noted_said make noted names = flat_map (λ name. cond (has noted name) (make name ∷ []) []) names

line_said : (thread : List ℕ) (kind : Kind) (name : List ℕ) → said_line thread (word_of kind) name ≡ line_of (said thread kind name) ++ 10 ∷ []
line_said thread kind name = go (word_of kind)
  where
    go : (w : List ℕ) → said_line thread w name ≡ (thread ++ 124 ∷ ((w ++ 40 ∷ (name ++ 41 ∷ [])) ++ 124 ∷ [])) ++ 10 ∷ []
    go w = simp append_assoc

noted_text : (line : List ℕ → List ℕ) (make : List ℕ → NamedEvent) → ((name : List ℕ) → line name ≡ line_of (make name) ++ 10 ∷ []) → (noted names : List (List ℕ))
    → noted_lines line noted names ≡ lines_text (noted_said make noted names)
noted_text line make same noted [] = refl
noted_text line make same noted (name ∷ names) =
    ap₂ (λ (a b : List ℕ). a ++ b) (one (has noted name)) (noted_text line make same noted names)
    ∙ sym (flat_map-append (λ (e : NamedEvent). line_of e ++ 10 ∷ []) (cond (has noted name) (make name ∷ []) []) (noted_said make noted names))
  where
    one : (b : Bool) → cond b (line name) [] ≡ lines_text (cond b (make name ∷ []) [])
    one true = same name ∙ sym (append-nil (line_of (make name) ++ 10 ∷ []))
    one false = refl

-- the line of the next name
pub noted_more : (line : List ℕ → List ℕ) (noted names : List (List ℕ)) (i : ℕ) (name : List ℕ) → slice_get names i ≡ Some name
    → noted_lines line noted (take i names) ++ cond (has noted name) (line name) [] ≡ noted_lines line noted (take (i + 1) names)
noted_more line noted names i name at =
    let f : List ℕ → List ℕ = λ n. cond (has noted n) (line n) [] in
    sym (ap (noted_lines line noted) (take_more names i name (slice_get_within names i name at))
    ∙ flat_map-append f (take i names) (get_or names i name ∷ [])
    ∙ ap (λ (y : List ℕ). noted_lines line noted (take i names) ++ y) (append-nil (f (get_or names i name)) ∙ ap f (get_or_from_slice_get names i name name at)))

-- What holds of each event that is made.
all_noted : (Q : NamedEvent → Type 0) (make : List ℕ → NamedEvent) (noted names : List (List ℕ)) → ((name : List ℕ) → has noted name ≡ true → Q (make name)) → All Q (noted_said make noted names)
all_noted Q make noted [] each = All-nil Q
all_noted Q make noted (name ∷ names) each =
    All-append Q (cond (has noted name) (make name ∷ []) []) (noted_said make noted names) (one (has noted name) refl) (all_noted Q make noted names each)
  where
    one : (b : Bool) → has noted name ≡ b → All Q (cond b (make name ∷ []) [])
    one true is = All-cons Q (make name) [] (each name is) (All-nil Q)
    one false is = All-nil Q

-- The uses of what is made: none, or the names that are noted.
uses_none : (uses : NamedEvent → List (List ℕ)) (make : List ℕ → NamedEvent) → ((name : List ℕ) → uses (make name) ≡ []) → (noted names : List (List ℕ)) (x : List ℕ)
    → has (flat_map uses (noted_said make noted names)) x ≡ false
uses_none uses make none noted [] x = refl
uses_none uses make none noted (name ∷ names) x =
    uses-append uses (cond (has noted name) (make name ∷ []) []) (noted_said make noted names) x
    ∙ ap₂ (λ a b. a || b) (one (has noted name)) (uses_none uses make none noted names x)
  where
    one : (b : Bool) → has (flat_map uses (cond b (make name ∷ []) [])) x ≡ false
    one true = ap (λ (ns : List (List ℕ)). has (ns ++ []) x) (none name)
    one false = refl

uses_noted : (uses : NamedEvent → List (List ℕ)) (make : List ℕ → NamedEvent) → ((name : List ℕ) → uses (make name) ≡ name ∷ []) → (noted names : List (List ℕ)) (x : List ℕ)
    → has (flat_map uses (noted_said make noted names)) x ≡ (has names x && has noted x)
uses_noted uses make own noted [] x = refl
uses_noted uses make own noted (name ∷ names) x =
    uses-append uses (cond (has noted name) (make name ∷ []) []) (noted_said make noted names) x
    ∙ ap₂ (λ a b. a || b) (one (has noted name) refl) (uses_noted uses make own noted names x)
    ∙ both (bytes_eq x name) (has names x) (has noted x)
  where
    one : (b : Bool) → has noted name ≡ b → has (flat_map uses (cond b (make name ∷ []) [])) x ≡ (bytes_eq x name && has noted x)
    one true is =
        ap (λ (ns : List (List ℕ)). has (ns ++ []) x) (own name)
        ∙ elim (cases_Bool (bytes_eq x name)) [
          | inl same ↦
              let other : x ≡ name = (bytes_decides x name).0 same in
              ap (λ b. b || false) same ∙ sym (ap₂ (λ a b. a && b) same (ap (has noted) other ∙ is))
          | inr not_it ↦ ap (λ b. b || false) not_it ∙ sym (ap (λ a. a && has noted x) not_it)
        ]
    one false is =
        elim (cases_Bool (bytes_eq x name)) [
          | inl same ↦
              let other : x ≡ name = (bytes_decides x name).0 same in
              sym (ap₂ (λ a b. a && b) same (ap (has noted) other ∙ is))
          | inr not_it ↦ sym (ap (λ a. a && has noted x) not_it)
        ]

    both : (a b c : Bool) → ((a && c) || (b && c)) ≡ ((a || b) && c)
    both true true true = refl
    both true true false = refl
    both true false true = refl
    both true false false = refl
    both false b c = refl

-- the threads of what is made by one thread
uses_by : (thread : List ℕ) (make : List ℕ → NamedEvent) → ((name : List ℕ) → (make name).thread ≡ thread) → (noted names : List (List ℕ)) (x : List ℕ)
    → has (own_uses (noted_said make noted names)) x ≡ true → (x ≡ thread) × (name : List ℕ) × (has noted name ≡ true)
uses_by thread make own noted [] x here = absurd (false≢true here)
uses_by thread make own noted (name ∷ names) x here =
    one (has noted name) refl (uses_by thread make own noted names x)
    (sym (uses-append (λ e. e.thread ∷ []) (cond (has noted name) (make name ∷ []) []) (noted_said make noted names) x) ∙ here)
  where
    one : (b : Bool) → has noted name ≡ b → (has (own_uses (noted_said make noted names)) x ≡ true → (x ≡ thread) × (name : List ℕ) × (has noted name ≡ true))
        → (has (own_uses (cond b (make name ∷ []) [])) x || has (own_uses (noted_said make noted names)) x) ≡ true
        → (x ≡ thread) × (name : List ℕ) × (has noted name ≡ true)
    one true is later h =
        elim (cases_Bool (bytes_eq x (make name).thread)) [
          | inl same ↦ ((bytes_decides x (make name).thread).0 same ∙ own name, name, is)
          | inr other ↦ later (sym (ap (λ b. (b || false) || has (own_uses (noted_said make noted names)) x) other) ∙ h)
        ]
    one false is later h = later h

-- each thread that is the event's own or stands behind its operation
all_of_thread : (Q : List ℕ → Type 0) (X : List NamedEvent) → All (λ (e : NamedEvent). (x : List ℕ) → has (of_thread e) x ≡ true → Q x) X → (x : List ℕ) → has (thread_uses X) x ≡ true → Q x
all_of_thread Q [] all x here = absurd (false≢true here)
all_of_thread Q (e ∷ X) all x here =
    let P : NamedEvent → Type 0 = λ e. (x : List ℕ) → has (of_thread e) x ≡ true → Q x in
    elim (cases_Bool (has (of_thread e) x)) [
      | inl found ↦ All-head P e X all x found
      | inr none ↦
          all_of_thread Q X (All-tail P e X all) x
          (sym (ap (λ b. b || has (thread_uses X) x) none) ∙ sym (list_any-append (bytes_eq x) (of_thread e) (thread_uses X)) ∙ here)
    ]

-- Where a thread is named, one has an event.
some_own : (X : List NamedEvent) (x : List ℕ) → has (thread_uses X) x ≡ true → (y : List ℕ) × (has (own_uses X) y ≡ true)
some_own [] x here = absurd (false≢true here)
some_own (e ∷ X) x here = (e.thread, or_left (bytes_eq e.thread e.thread) (has (own_uses X) e.thread) (bytes_eq-refl e.thread))

has_some : (names : List (List ℕ)) (x : List ℕ) → has names x ≡ true → 0 < length names
has_some [] x here = absurd (false≢true here)
has_some (name ∷ names) x here = omega arith

-- Events of which none takes a lock or lets it go.
no_count : (p : Event → Bool) (R : Recording) (X : List NamedEvent) → All (λ (e : NamedEvent). p (numbered R.threads R.variables R.locks e) ≡ false) X → count_by p (by_numbers R X) ≡ 0
no_count p R [] all = refl
no_count p R (e ∷ X) all =
    let P : NamedEvent → Type 0 = λ e. p (numbered R.threads R.variables R.locks e) ≡ false in
    omega (
      arith,
      sum_by-cons (λ v. cond (p v) 1 0) (numbered R.threads R.variables R.locks e) (by_numbers R X),
      ap (λ b. cond {A = ℕ} b 1 0) (All-head P e X all),
      no_count p R X (All-tail P e X all),
    )

and_none : (a b : Bool) → b ≡ false → (a && b) ≡ false
and_none true b h = h
and_none false b h = refl

two_names : (Q : List ℕ → Type 0) (p q x : List ℕ) → Q p → Q q → has (p ∷ q ∷ []) x ≡ true → Q x
two_names Q p q x of_p of_q here =
    elim (cases_Bool (bytes_eq x p)) [
      | inl same ↦ subst Q (sym ((bytes_decides x p).0 same)) of_p
      | inr other ↦ elim (cases_Bool (bytes_eq x q)) [
        | inl same ↦ subst Q (sym ((bytes_decides x q).0 same)) of_q
        | inr none ↦ absurd (false≢true (sym (ap₂ (λ a b. a || (b || false)) other none) ∙ here))
      ]
    ]

one_name : (Q : List ℕ → Type 0) (p x : List ℕ) → Q p → has (p ∷ []) x ≡ true → Q x
one_name Q p x of_p here =
    elim (cases_Bool (bytes_eq x p)) [
      | inl same ↦ subst Q (sym ((bytes_decides x p).0 same)) of_p
      | inr other ↦ absurd (false≢true (sym (ap (λ a. a || false) other) ∙ here))
    ]

one_of_four : (f s h j : Bool) → (f || (s || (h || j))) ≡ true → (f ≡ true) ⊎ ((s ≡ true) ⊎ ((h ≡ true) ⊎ (j ≡ true)))
one_of_four true s h j is = inl refl
one_of_four false true h j is = inr (inl refl)
one_of_four false false true j is = inr (inr (inl refl))
one_of_four false false false j is = inr (inr (inr is))

-- Acquires: none forks or joins, none lets a lock go, and each takes one.
acquires_none : (uses : NamedEvent → List (List ℕ)) → ((e : NamedEvent) → e.kind ≡ Acquires → uses e ≡ []) → (X : List NamedEvent) → All (λ (e : NamedEvent). e.kind ≡ Acquires) X → (x : List ℕ)
    → has (flat_map uses X) x ≡ false
acquires_none uses none [] all x = refl
acquires_none uses none (e ∷ X) all x =
    let P : NamedEvent → Type 0 = λ e. e.kind ≡ Acquires in
    list_any-append (bytes_eq x) (uses e) (flat_map uses X)
    ∙ ap₂ (λ (ns : List (List ℕ)) (b : Bool). has ns x || b) (none e (All-head P e X all)) (acquires_none uses none X (All-tail P e X all) x)

where_none : (test : Kind → Bool) → test Acquires ≡ false → (e : NamedEvent) → e.kind ≡ Acquires → name_where test e ≡ []
where_none test fails e is = ap (λ (k : Kind). cond (test k) (e.name ∷ []) []) is ∙ ap (λ (b : Bool). cond b (e.name ∷ []) []) fails

taker : (R : Recording) (t : ℕ) (X : List NamedEvent) → All (λ (e : NamedEvent). e.kind ≡ Acquires) X → list_any (λ v. v.thread == t) (by_numbers R X) ≡ true
    → (l : ℕ) × (list_any (λ v. v.thread == t && is_acquire l v.op) (by_numbers R X) ≡ true)
taker R t [] all here = absurd (false≢true here)
taker R t (e ∷ X) all here =
    let P : NamedEvent → Type 0 = λ e. e.kind ≡ Acquires in
    let v : Event = numbered R.threads R.variables R.locks e in
    elim (cases_Bool (number_of R.threads e.thread == t)) [
      | inl found ↦
          let l : ℕ = number_of R.locks e.name in
          let takes : is_acquire l (numbered_op R.threads R.variables R.locks e.kind e.name) ≡ true =
          ap (λ (k : Kind). is_acquire l (numbered_op R.threads R.variables R.locks k e.name)) (All-head P e X all) ∙ eq-eqb l l refl in
          (l, or_left (v.thread == t && is_acquire l v.op) (list_any (λ w. w.thread == t && is_acquire l w.op) (by_numbers R X)) (ap₂ (λ a b. a && b) found takes))
      | inr other ↦
          let rest = taker R t X (All-tail P e X all) (sym (ap (λ b. b || list_any (λ w. w.thread == t) (by_numbers R X)) other) ∙ here) in
          (rest.0, or_right (v.thread == t && is_acquire rest.0 v.op) (list_any (λ w. w.thread == t && is_acquire rest.0 w.op) (by_numbers R X)) rest.1)
    ]

none_released : (R : Recording) (t l : ℕ) (X : List NamedEvent) → All (λ (e : NamedEvent). e.kind ≡ Acquires) X → release_count (by_numbers R X) t l ≡ 0
none_released R t l X all =
    no_count (λ v. v.thread == t && is_release l v.op) R X
    (All-weaker (λ (e : NamedEvent). e.kind ≡ Acquires) (λ (e : NamedEvent). (number_of R.threads e.thread == t && is_release l (numbered_op R.threads R.variables R.locks e.kind e.name)) ≡ false)
    (λ e is. and_none (number_of R.threads e.thread == t) (is_release l (numbered_op R.threads R.variables R.locks e.kind e.name))
    (ap (λ (k : Kind). is_release l (numbered_op R.threads R.variables R.locks k e.name)) is)) X all)

-- The text tells of each thread that the piece names what is kept of it.
pub record Covers (past : Past) (told : Told) (more : List ℕ) : Type 0 where
  pub forked : (x : List ℕ) → has (thread_uses (said_in more)) x ≡ true → (has told.forked x && has past.forked x) ≡ has past.forked x
  pub seen : (x : List ℕ) → has (thread_uses (said_in more)) x ≡ true → (has told.seen x && has past.seen x) ≡ has past.seen x
  pub joined : (x : List ℕ) → has (thread_uses (said_in more)) x ≡ true → (has told.joined x && has past.joined x) ≡ has past.joined x

-- so does one that tells of the names of the piece, and one that tells all that is kept
pub covers_named : (past : Past) (more : List ℕ) → Covers past (all_of (first_uses (thread_uses (said_in more)))) more
covers_named past more =
    let names : List (List ℕ) = first_uses (thread_uses (said_in more)) in
    let here = λ (x : List ℕ) (used : has (thread_uses (said_in more)) x ≡ true) (c : Bool). ap (λ d. d && c) (has-first_uses (thread_uses (said_in more)) x used) in
    record {
      forked = λ x used. here x used (has past.forked x);
      seen = λ x used. here x used (has past.seen x);
      joined = λ x used. here x used (has past.joined x);
    }

and_same : (b : Bool) → (b && b) ≡ b
and_same true = refl
and_same false = refl

pub covers_kept : (past : Past) (more : List ℕ) → Covers past (all_kept past) more
covers_kept past more = record {
  forked = λ x used. and_same (has past.forked x);
  seen = λ x used. and_same (has past.seen x);
  joined = λ x used. and_same (has past.joined x);
}

-- the text that is made part by part
pub head_made : (past : Past) (told : Told) (first other t0 t1 t2 t3 t4 : List ℕ) → t0 ≡ [] → first ≡ first_name past.seen → other ≡ first_outside past.seen past.joined
    → t1 ≡ t0 ++ noted_lines (λ name. said_line first (codes "fork") name) past.forked told.forked
    → t2 ≡ t1 ++ noted_lines (λ name. said_line name (codes "r") read_name) past.seen told.seen
    → t3 ≡ t2 ++ past.held
    → t4 ≡ t3 ++ noted_lines (λ name. said_line other (codes "join") name) past.joined told.joined
    → t4 ≡ head_text past told
head_made past told first other t0 t1 t2 t3 t4 none is_first is_other e1 e2 e3 e4 =
    let F : List ℕ → List ℕ = λ a. noted_lines (λ name. said_line a (codes "fork") name) past.forked told.forked in
    let S : List ℕ = noted_lines (λ name. said_line name (codes "r") read_name) past.seen told.seen in
    let J : List ℕ → List ℕ = λ b. noted_lines (λ name. said_line b (codes "join") name) past.joined told.joined in
    e4
    ∙ ap (λ (t : List ℕ). t ++ J other) (e3 ∙ ap (λ (t : List ℕ). t ++ past.held) (e2 ∙ ap (λ (t : List ℕ). t ++ S) (e1 ∙ ap (λ (t : List ℕ). t ++ F first) none)))
    ∙ append_assoc (F first ++ S) past.held (J other)
    ∙ append_assoc (F first) S (past.held ++ J other)
    ∙ ap₂ (λ (a b : List ℕ). F a ++ (S ++ (past.held ++ J b))) is_first is_other

module _ (front more : List ℕ) (past : Past) (told : Told) (head : List ℕ) (is : IsPast front past) (made : head ≡ head_text past told) (covers : Covers past told more) where
  abbrev N : List NamedEvent
  N = said_in front

  abbrev P : List NamedEvent
  P = said_in more

  abbrev a : List ℕ
  a = first_name past.seen

  abbrev b : List ℕ
  b = first_outside past.seen past.joined

  abbrev F : List NamedEvent
  F = noted_said (λ x. said a Forks x) past.forked told.forked

  abbrev S : List NamedEvent
  S = noted_said (λ x. said x Reads read_name) past.seen told.seen

  abbrev H : List NamedEvent
  H = said_in past.held

  abbrev J : List NamedEvent
  J = noted_said (λ x. said b Joins x) past.joined told.joined

  N_name : (x : List ℕ) → has (thread_uses N) x ≡ true → IsName x
  N_name x here = (said_names N (printable_lines front)).threads x (has-first_uses (thread_uses N) x here)

  seen_named : (x : List ℕ) → has past.seen x ≡ true → has (thread_uses N) x ≡ true
  seen_named x here = own_among N x (is.seen x ∙ here)

  forked_named : (x : List ℕ) → has past.forked x ≡ true → has (thread_uses N) x ≡ true
  forked_named x here = forks_among N x (is.forked x ∙ here)

  joined_named : (x : List ℕ) → has past.joined x ≡ true → has (thread_uses N) x ≡ true
  joined_named x here = joins_among N x (is.joined x ∙ here)

  some_seen : (x : List ℕ) → has (thread_uses N) x ≡ true → 0 < length past.seen
  some_seen x here = let y = some_own N x here in has_some past.seen y.0 (sym (is.seen y.0) ∙ y.1)

  a_seen : (x : List ℕ) → has past.forked x ≡ true → has past.seen a ≡ true
  a_seen x here = first_is past.seen (some_seen x (forked_named x here))

  b_seen : (x : List ℕ) → has past.joined x ≡ true → has past.seen b ≡ true
  b_seen x here = outside_is past.seen past.joined (some_seen x (joined_named x here))

  printable : (t : List ℕ) (kind : Kind) (name : List ℕ) → IsName t → IsName name → IsPrintable (said t kind name)
  printable t kind name of_t of_name = record {
    thread = of_t;
    name = of_name;
    bare = record { front = refl; back = refl };
    no_feed = All-nil (Fails is_line_feed);
    fits = omega (arith, length-line_of (said t kind name), length-word_of-le kind, of_t.short, of_name.short);
  }

  F_printable : All IsPrintable F
  F_printable =
      all_noted IsPrintable (λ x. said a Forks x) past.forked told.forked
      (λ x here. printable a Forks x (N_name a (seen_named a (a_seen x here))) (N_name x (forked_named x here)))

  S_printable : All IsPrintable S
  S_printable = all_noted IsPrintable (λ x. said x Reads read_name) past.seen told.seen (λ x here. printable x Reads read_name (N_name x (seen_named x here)) seen_is_name)

  J_printable : All IsPrintable J
  J_printable =
      all_noted IsPrintable (λ x. said b Joins x) past.joined told.joined
      (λ x here. printable b Joins x (N_name b (seen_named b (b_seen x here))) (N_name x (joined_named x here)))

  text_is : head ≡ lines_text F ++ (lines_text S ++ (past.held ++ lines_text J))
  text_is =
      made
      ∙ ap₂ (λ (x y : List ℕ). x ++ y) (noted_text (λ x. said_line a (codes "fork") x) (λ x. said a Forks x) (λ x. line_said a Forks x) past.forked told.forked)
      (ap₂ (λ (x y : List ℕ). x ++ y) (noted_text (λ x. said_line x (codes "r") read_name) (λ x. said x Reads read_name) (λ x. line_said x Reads read_name) past.seen told.seen)
      (ap (λ (y : List ℕ). past.held ++ y) (noted_text (λ x. said_line b (codes "join") x) (λ x. said b Joins x) (λ x. line_said b Joins x) past.joined told.joined)))

  C_is : said_in head ≡ F ++ (S ++ (H ++ J))
  C_is =
      ap said_in text_is
      ∙ said-append (lines_text F) (lines_text S ++ (past.held ++ lines_text J)) (whole_lines F)
      ∙ ap₂ (λ (x y : List NamedEvent). x ++ y) (said_lines F F_printable)
      (said-append (lines_text S) (past.held ++ lines_text J) (whole_lines S)
      ∙ ap₂ (λ (x y : List NamedEvent). x ++ y) (said_lines S S_printable)
      (said-append past.held (lines_text J) is.ends ∙ ap (λ (y : List NamedEvent). H ++ y) (said_lines J J_printable)))

  head_whole : IsWhole head
  head_whole =
      subst IsWhole (sym text_is)
      (whole-append (lines_text F) (lines_text S ++ (past.held ++ lines_text J)) (whole_lines F)
      (whole-append (lines_text S) (past.held ++ lines_text J) (whole_lines S) (whole-append past.held (lines_text J) is.ends (whole_lines J))))

  -- the uses of the head
  four : (uses : NamedEvent → List (List ℕ)) (x : List ℕ)
      → has (flat_map uses (said_in head)) x ≡ (has (flat_map uses F) x || (has (flat_map uses S) x || (has (flat_map uses H) x || has (flat_map uses J) x)))
  four uses x =
      ap (λ (es : List NamedEvent). has (flat_map uses es) x) C_is
      ∙ uses-append uses F (S ++ (H ++ J)) x
      ∙ ap (λ c. has (flat_map uses F) x || c) (uses-append uses S (H ++ J) x ∙ ap (λ c. has (flat_map uses S) x || c) (uses-append uses H J x))

  abbrev named : List ℕ → Type 0
  named x = has (thread_uses N) x ≡ true

  F_named : (x : List ℕ) → has (thread_uses F) x ≡ true → named x
  F_named =
      all_of_thread named F
      (all_noted (λ (e : NamedEvent). (x : List ℕ) → has (of_thread e) x ≡ true → named x) (λ y. said a Forks y) past.forked told.forked
      (λ y here x at. two_names named a y x (seen_named a (a_seen y here)) (forked_named y here) at))

  S_named : (x : List ℕ) → has (thread_uses S) x ≡ true → named x
  S_named =
      all_of_thread named S
      (all_noted (λ (e : NamedEvent). (x : List ℕ) → has (of_thread e) x ≡ true → named x) (λ y. said y Reads read_name) past.seen told.seen
      (λ y here x at. one_name named y x (seen_named y here) at))

  J_named : (x : List ℕ) → has (thread_uses J) x ≡ true → named x
  J_named =
      all_of_thread named J
      (all_noted (λ (e : NamedEvent). (x : List ℕ) → has (of_thread e) x ≡ true → named x) (λ y. said b Joins y) past.joined told.joined
      (λ y here x at. two_names named b y x (seen_named b (b_seen y here)) (joined_named y here) at))

  names_on : (R : Recording) → IsNumbering R N → IsNumbering R (said_in head)
  names_on R n = record {
    threads = λ x here.
        elim (one_of_four (has (thread_uses F) x) (has (thread_uses S) x) (has (thread_uses H) x) (has (thread_uses J) x) (sym (four of_thread x) ∙ here)) [
          | inl f ↦ n.threads x (F_named x f)
          | inr rest ↦ elim rest [
            | inl s ↦ n.threads x (S_named x s)
            | inr rest ↦ elim rest [
              | inl h ↦ (is.names R n).threads x h
              | inr j ↦ n.threads x (J_named x j)
            ]
          ]
        ];
    locks = λ x here.
        let lock = name_where names_lock in
        let h : has (lock_uses H) x ≡ true =
        sym (four lock x
        ∙ ap₂ (λ f r. f || r) (uses_none lock (λ y. said a Forks y) (λ y. refl) past.forked told.forked x)
        (ap₂ (λ s r. s || r) (uses_none lock (λ y. said y Reads read_name) (λ y. refl) past.seen told.seen x)
        (ap (λ j. has (lock_uses H) x || j) (uses_none lock (λ y. said b Joins y) (λ y. refl) past.joined told.joined x) ∙ or_false (has (lock_uses H) x)))) ∙ here in
        (is.names R n).locks x h;
    each_thread = n.each_thread;
    each_lock = n.each_lock;
  }
    where
      or_false : (c : Bool) → (c || false) ≡ c
      or_false true = refl
      or_false false = refl

  -- who holds a lock has an event
  holder_seen : (x : List ℕ) → has (own_uses H) x ≡ true → has (own_uses N) x ≡ true
  holder_seen x here =
      let R = recording_of N in
      let n = numbering-self N in
      let h = is.names R n in
      let known : has R.threads x ≡ true = h.threads x (own_among H x here) in
      let t : ℕ = number_of R.threads x in
      let took = taker R t H is.takes (own_at R x known H h.threads ∙ here) in
      let l : ℕ = took.0 in
      let some : 0 < acquire_count (by_numbers R H) t l = count_from_any (λ v. v.thread == t && is_acquire l v.op) (by_numbers R H) took.1 in
      let above : 0 < acquire_count (by_numbers R N) t l = omega (arith, some, none_released R t l H is.takes, is.holds R n t l) in
      sym (own_at R x known N n.threads)
      ∙ list_any-from_count (λ v. v.thread == t && is_acquire l v.op) (λ v. v.thread == t) (by_numbers R N) (λ v both. (and_parts (v.thread == t) (is_acquire l v.op) both).0) above

  -- what the head says of a thread that the piece names
  module _ (x : List ℕ) (here : has (thread_uses P) x ≡ true) where
    first_alone : (f s h j v : Bool) → f ≡ v → s ≡ false → h ≡ false → j ≡ false → (f || (s || (h || j))) ≡ v
    first_alone true s h j v is no_s no_h no_j = is
    first_alone false s h j v is no_s no_h no_j = ap₂ (λ p q. p || q) no_s (ap₂ (λ p q. p || q) no_h no_j) ∙ is

    last_alone : (f s h j v : Bool) → f ≡ false → s ≡ false → h ≡ false → j ≡ v → (f || (s || (h || j))) ≡ v
    last_alone f s h j v no_f no_s no_h is = ap₂ (λ p q. p || q) no_f (ap₂ (λ p q. p || q) no_s (ap₂ (λ p q. p || q) no_h is))

    forks_same : has (fork_uses (said_in head)) x ≡ has past.forked x
    forks_same =
        let uses = name_where names_forked in
        four uses x
        ∙ first_alone (has (fork_uses F) x) (has (fork_uses S) x) (has (fork_uses H) x) (has (fork_uses J) x) (has past.forked x)
        (uses_noted uses (λ y. said a Forks y) (λ y. refl) past.forked told.forked x ∙ covers.forked x here)
        (uses_none uses (λ y. said y Reads read_name) (λ y. refl) past.seen told.seen x)
        (acquires_none uses (where_none names_forked refl) H is.takes x)
        (uses_none uses (λ y. said b Joins y) (λ y. refl) past.joined told.joined x)

    joins_same : has (join_uses (said_in head)) x ≡ has past.joined x
    joins_same =
        let uses = name_where names_joined in
        four uses x
        ∙ last_alone (has (join_uses F) x) (has (join_uses S) x) (has (join_uses H) x) (has (join_uses J) x) (has past.joined x)
        (uses_none uses (λ y. said a Forks y) (λ y. refl) past.forked told.forked x)
        (uses_none uses (λ y. said y Reads read_name) (λ y. refl) past.seen told.seen x)
        (acquires_none uses (where_none names_joined refl) H is.takes x)
        (uses_noted uses (λ y. said b Joins y) (λ y. refl) past.joined told.joined x ∙ covers.joined x here)

    seen_sound : (has (own_uses F) x || (has (own_uses S) x || (has (own_uses H) x || has (own_uses J) x))) ≡ true → has past.seen x ≡ true
    seen_sound some =
        elim (one_of_four (has (own_uses F) x) (has (own_uses S) x) (has (own_uses H) x) (has (own_uses J) x) some) [
          | inl f ↦
              let by = uses_by a (λ y. said a Forks y) (λ y. refl) past.forked told.forked x f in
              ap (has past.seen) by.0 ∙ a_seen by.1 by.2
          | inr rest ↦ elim rest [
            | inl s ↦ sym (uses_noted (λ e. e.thread ∷ []) (λ y. said y Reads read_name) (λ y. refl) past.seen told.seen x ∙ covers.seen x here) ∙ s
            | inr rest ↦ elim rest [
              | inl h ↦ sym (is.seen x) ∙ holder_seen x h
              | inr j ↦
                  let by = uses_by b (λ y. said b Joins y) (λ y. refl) past.joined told.joined x j in
                  ap (has past.seen) by.0 ∙ b_seen by.1 by.2
            ]
          ]
        ]

    seen_same : has (own_uses (said_in head)) x ≡ has past.seen x
    seen_same =
        let own : NamedEvent → List (List ℕ) = λ e. e.thread ∷ [] in
        four own x
        ∙ elim (cases_Bool (has past.seen x)) [
          | inl has_event ↦
              let s : has (own_uses S) x ≡ true = uses_noted own (λ y. said y Reads read_name) (λ y. refl) past.seen told.seen x ∙ covers.seen x here ∙ has_event in
              or_right (has (own_uses F) x) (has (own_uses S) x || (has (own_uses H) x || has (own_uses J) x)) (or_left (has (own_uses S) x) (has (own_uses H) x || has (own_uses J) x) s)
              ∙ sym has_event
          | inr no_event ↦ elim (cases_Bool (has (own_uses F) x || (has (own_uses S) x || (has (own_uses H) x || has (own_uses J) x)))) [
            | inl some ↦ absurd (false≢true (sym no_event ∙ seen_sound some))
            | inr none ↦ none ∙ sym no_event
          ]
        ]

  -- who holds what behind the head
  module _ (R : Recording) where
    by_C : by_numbers R (said_in head) ≡ by_numbers R F ++ (by_numbers R S ++ (by_numbers R H ++ by_numbers R J))
    by_C =
        ap (by_numbers R) C_is ∙ numbers_append R F (S ++ (H ++ J))
        ∙ ap (λ (es : List Event). by_numbers R F ++ es) (numbers_append R S (H ++ J) ∙ ap (λ (es : List Event). by_numbers R S ++ es) (numbers_append R H J))

    count_C : (p : Event → Bool) → ((t n : ℕ) → p (record { thread = t; op = Fork n }) ≡ false) → ((t n : ℕ) → p (record { thread = t; op = Read n }) ≡ false)
        → ((t n : ℕ) → p (record { thread = t; op = Join n }) ≡ false) → count_by p (by_numbers R (said_in head)) ≡ count_by p (by_numbers R H)
    count_C p forks reads joins =
        let size : Event → ℕ = λ v. cond (p v) 1 0 in
        let none : NamedEvent → Type 0 = λ e. p (numbered R.threads R.variables R.locks e) ≡ false in
        omega (
          arith,
          ap (count_by p) by_C,
          sum_by-append size (by_numbers R F) (by_numbers R S ++ (by_numbers R H ++ by_numbers R J)),
          sum_by-append size (by_numbers R S) (by_numbers R H ++ by_numbers R J),
          sum_by-append size (by_numbers R H) (by_numbers R J),
          no_count p R F (all_noted none (λ y. said a Forks y) past.forked told.forked (λ y noted. forks (number_of R.threads a) (number_of R.threads y))),
          no_count p R S (all_noted none (λ y. said y Reads read_name) past.seen told.seen (λ y noted. reads (number_of R.threads y) (number_of R.variables read_name))),
          no_count p R J (all_noted none (λ y. said b Joins y) past.joined told.joined (λ y noted. joins (number_of R.threads b) (number_of R.threads y))),
        )

    holds_C : (t l : ℕ) → hold_count (by_numbers R (said_in head)) t l ≡ hold_count (by_numbers R H) t l
    holds_C t l =
        ap₂ (λ p q. p - q)
        (count_C (λ v. v.thread == t && is_acquire l v.op) (λ u n. and_none (u == t) false refl) (λ u n. and_none (u == t) false refl) (λ u n. and_none (u == t) false refl))
        (count_C (λ v. v.thread == t && is_release l v.op) (λ u n. and_none (u == t) false refl) (λ u n. and_none (u == t) false refl) (λ u n. and_none (u == t) false refl))

    module _ (n : IsNumbering R N) (m : IsNumbering R P) where
      c : IsNumbering R (said_in head)
      c = names_on R n

      -- what is so of the number of each name that the piece has
      each_thread : (Q : ℕ → Type 0) → ((x : List ℕ) → has (thread_uses P) x ≡ true → Q (number_of R.threads x)) → (u : ℕ) → IsThreadOf R P u → Q u
      each_thread Q each u (x, here, at) = subst Q (sym at) (each x here)

      left_on : IsLeft (IsThreadOf R P) (by_numbers R N) (by_numbers R (said_in head))
      left_on = record {
        holds = λ t l. is.holds R n t l ∙ sym (holds_C t l);
        forked = each_thread (λ u. list_any (λ e. is_fork u e.op) (by_numbers R N) ≡ list_any (λ e. is_fork u e.op) (by_numbers R (said_in head)))
            (λ x here. forks_at R x (m.threads x here) N n.threads ∙ is.forked x ∙ sym (forks_same x here) ∙ sym (forks_at R x (m.threads x here) (said_in head) c.threads));
        joined = each_thread (λ u. list_any (λ e. is_join u e.op) (by_numbers R N) ≡ list_any (λ e. is_join u e.op) (by_numbers R (said_in head)))
            (λ x here. joins_at R x (m.threads x here) N n.threads ∙ is.joined x ∙ sym (joins_same x here) ∙ sym (joins_at R x (m.threads x here) (said_in head) c.threads));
        seen = each_thread (λ u. list_any (λ e. e.thread == u) (by_numbers R N) ≡ list_any (λ e. e.thread == u) (by_numbers R (said_in head)))
            (λ x here. own_at R x (m.threads x here) N n.threads ∙ is.seen x ∙ sym (seen_same x here) ∙ sym (own_at R x (m.threads x here) (said_in head) c.threads));
      }

  pub head_law : Stands front head more
  head_law = record {
    whole = is.whole;
    ends = head_whole;
    keeps = is.keeps;
    names = names_on;
    left = left_on;
  }
