-- The edges of a race, and the sides of rows, one event further.
use Rattle.std.proofs.Common.{◌≡◌, ◌≢◌, ℕ, ◌+◌, ◌<◌, ◌≤◌, ◌↔◌, Bool, true, false, List, set, replicate, length, slice_index, Option, Some, None, IsTrue, sym, ap, ◌∙◌, subst, arith, inl, inr, eq-eqb, eqb-true, get_or-set_other, get_or-set_same}
use Rattle.std.specs.List.{slice_get}
use Rattle.std.specs.Option.{option_or}
use Rattle.std.proofs.lemmas.Bool.{cases_eq, true≢false}
use Rattle.std.proofs.lemmas.List.{length-set, set-get_or, length-replicate, get_or-replicate}
use Rattle.std.proofs.lemmas.Option.{same_Some, none-some, slice_get_within, slice_get-get_or, get_or_from_slice_get}
use Rattle.rapid_text.specs.declared.event.Event.{Event}
use Rattle.trace_rules.specs.Rules.{IsDisciplined}
use Rattle.trace_rules.proofs.Counts.{slice_get-set}
use Rattle.event_index.specs.Events.{thread_at}
use Rattle.event_index.proofs.CallerLemmas.{thread_within}
use Rattle.must_order.specs.MustBefore.{IsMustBefore}
use Rattle.must_order.proofs.CallerLemmas.{IsMustBefore-trans, along_thread}
use Rattle.variable_uses.specs.Numbers.{has_number}
use Rattle.variable_uses.specs.Edges.{AreEdges, AreOfRace, AreSidesBefore, HasLast, IsAfterEdges, IsBeforeEdges, IsNoted, other, of_race}
use Rattle.variable_uses.specs.declared.order.Side.{Side}

get-set_same : {X : Type 0} (xs : List X) (i : ℕ) (y : X) → i < length xs → slice_get (set xs i y) i ≡ Some y
get-set_same xs i y lt = slice_get-get_or (set xs i y) i y (omega (arith, lt, length-set xs i y)) ∙ ap Some (get_or-set_same xs i y y lt)

get-set_other : {X : Type 0} (xs : List X) (i k : ℕ) (y x : X) → k ≢ i → slice_get xs k ≡ Some x → slice_get (set xs i y) k ≡ Some x
get-set_other xs i k y x ne at =
    slice_get-get_or (set xs i y) k x (omega (arith, slice_get_within xs k x at, length-set xs i y)) ∙ ap Some (get_or-set_other xs i k y x ne ∙ get_or_from_slice_get xs k x x at)

-- an access of the race in a table
OfRace-set : (T : List Event) (is_race : ℕ → Bool) (table : List (Option ℕ)) (t n : ℕ) → AreOfRace T is_race n table → t < length table → thread_at T n ≡ Some t → is_race n ≡ true → AreOfRace T is_race (n + 1) (set table t (Some n))
OfRace-set T is_race table t n are within of is u f at =
    elim (slice_get-set table t u (Some n) (Some f) within at) [
      | inl mine ↦
          let same : n ≡ f = same_Some n f mine.1 in
          (omega (arith, same), ap (thread_at T) (sym same) ∙ of ∙ ap Some (sym mine.0), ap is_race (sym same) ∙ is)
      | inr old ↦ let entry = are u f old.1 in (omega (arith, entry.0), entry.1, entry.2)
    ]

OfRace-more : (T : List Event) (is_race : ℕ → Bool) (table : List (Option ℕ)) (n : ℕ) → AreOfRace T is_race n table → AreOfRace T is_race (n + 1) table
OfRace-more T is_race table n are t f at = let entry = are t f at in (omega (arith, entry.0), entry.1, entry.2)

some_none : (f : ℕ) → ◌≡◌ {A = Option ℕ} (Some f) None → ⊥
some_none f h = none-some f (sym h)

module _ (T : List Event) (is_race : ℕ → Bool) (n : ℕ) (firsts lasts : List (Option ℕ)) (are : AreEdges T is_race n firsts lasts) where
  -- an event that is no access of the race
  edges_other : is_race n ≡ false → AreEdges T is_race (n + 1) firsts lasts
  edges_other fails = record {
    of_firsts = OfRace-more T is_race firsts n are.of_firsts;
    of_lasts = OfRace-more T is_race lasts n are.of_lasts;
    begins = λ d t lt is of. elim (cases_eq d n) [ inl same ↦ absurd (true≢false (sym is ∙ ap is_race same ∙ fails)) | inr ne ↦ are.begins d t (omega (arith, lt, ne)) is of ];
    ends = λ d t lt is of. elim (cases_eq d n) [ inl same ↦ absurd (true≢false (sym is ∙ ap is_race same ∙ fails)) | inr ne ↦ are.ends d t (omega (arith, lt, ne)) is of ];
  }

  module _ (t : ℕ) (is : is_race n ≡ true) (of : thread_at T n ≡ Some t) (in_firsts : t < length firsts) (in_lasts : t < length lasts) where
    mine_last : (d u : ℕ) → d ≤ n → u ≡ t → HasLast T (set lasts t (Some n)) u d
    mine_last d u le same = record { last = n; at = ap (slice_get (set lasts t (Some n))) same ∙ get-set_same lasts t (Some n) in_lasts; of = of ∙ ap Some (sym same); le = le }

    ends_new : (d u : ℕ) → d < n + 1 → is_race d ≡ true → thread_at T d ≡ Some u → HasLast T (set lasts t (Some n)) u d
    ends_new d u lt race of_d = elim (cases_eq u t) [
      | inl same ↦ mine_last d u (omega (arith, lt)) same
      | inr ne ↦
          let other_event : d ≢ n = λ same. ne (same_Some u t (sym of_d ∙ ap (thread_at T) same ∙ of)) in
          let old = are.ends d u (omega (arith, lt, other_event)) race of_d in
          record { last = old.last; at = get-set_other lasts t u (Some n) (Some old.last) ne old.at; of = old.of; le = old.le }
    ]

    -- the first access of the race in its thread
    edges_first : slice_get firsts t ≡ Some None → AreEdges T is_race (n + 1) (set firsts t (Some n)) (set lasts t (Some n))
    edges_first free = record {
      of_firsts = OfRace-set T is_race firsts t n are.of_firsts in_firsts of is;
      of_lasts = OfRace-set T is_race lasts t n are.of_lasts in_lasts of is;
      begins = λ d u lt race of_d. elim (cases_eq d n) [
        | inl same ↦
            let thread : u ≡ t = same_Some u t (sym of_d ∙ ap (thread_at T) same ∙ of) in
            record { first = n; at = ap (slice_get (set firsts t (Some n))) thread ∙ get-set_same firsts t (Some n) in_firsts; of = of ∙ ap Some (sym thread); le = omega (arith, same) }
        | inr ne ↦
            let old = are.begins d u (omega (arith, lt, ne)) race of_d in
            let apart : u ≢ t = λ same. some_none old.first (same_Some (Some old.first) None (sym old.at ∙ ap (slice_get firsts) same ∙ free)) in
            record { first = old.first; at = get-set_other firsts t u (Some n) (Some old.first) apart old.at; of = old.of; le = old.le }
      ];
      ends = ends_new;
    }

    -- a later one
    edges_again : (f : ℕ) → slice_get firsts t ≡ Some (Some f) → AreEdges T is_race (n + 1) firsts (set lasts t (Some n))
    edges_again f known = record {
      of_firsts = OfRace-more T is_race firsts n are.of_firsts;
      of_lasts = OfRace-set T is_race lasts t n are.of_lasts in_lasts of is;
      begins = λ d u lt race of_d. elim (cases_eq d n) [
        | inl same ↦
            let thread : u ≡ t = same_Some u t (sym of_d ∙ ap (thread_at T) same ∙ of) in
            let entry = are.of_firsts t f known in
            record { first = f; at = ap (slice_get firsts) thread ∙ known; of = entry.1 ∙ ap Some (sym thread); le = omega (arith, entry.0, same) }
        | inr ne ↦ are.begins d u (omega (arith, lt, ne)) race of_d
      ];
      ends = ends_new;
    }

  -- an access of the race, by what was known of its thread
  edges_race : (t : ℕ) (o : Option ℕ) → is_race n ≡ true → thread_at T n ≡ Some t → t < length firsts → t < length lasts → slice_get firsts t ≡ Some o
      → AreEdges T is_race (n + 1) (set firsts t (option_or o (Some n))) (set lasts t (Some n))
  edges_race t None is of in_firsts in_lasts at = edges_first t is of in_firsts in_lasts at
  edges_race t (Some f) is of in_firsts in_lasts at =
      let same : set firsts t (Some f) ≡ firsts = ap (set firsts t) (sym (get_or_from_slice_get firsts t (Some f) (Some f) at)) ∙ set-get_or firsts t (Some f) in
      subst (λ xs. AreEdges T is_race (n + 1) xs (set lasts t (Some n))) (sym same) (edges_again t is of in_firsts in_lasts f at)

  -- the next event
  pub AreEdges-more : (flag : Bool) (begins ends : List (Option ℕ)) → is_race n ≡ flag → IsNoted T n flag firsts lasts begins ends → AreEdges T is_race (n + 1) begins ends
  AreEdges-more flag begins ends is (other fails same kept) =
      subst (λ xs. AreEdges T is_race (n + 1) xs ends) (sym same) (subst (AreEdges T is_race (n + 1) firsts) (sym kept) (edges_other (is ∙ fails)))
  AreEdges-more flag begins ends is (of_race t o holds of in_firsts in_lasts at put noted) =
      subst (λ xs. AreEdges T is_race (n + 1) xs ends) (sym put)
      (subst (AreEdges T is_race (n + 1) (set firsts t (option_or o (Some n)))) (sym noted) (edges_race t o (is ∙ holds) of in_firsts in_lasts at))

-- before the first event
pub each_replicated : {X : Type 0} (k : ℕ) (x : X) (i : ℕ) (y : X) → slice_get (replicate k x) i ≡ Some y → x ≡ y
each_replicated k x i y at =
    let lt : i < k = let inside = slice_get_within (replicate k x) i y at in omega (arith, inside, length-replicate k x) in
    sym (get_or-replicate k i x y lt) ∙ get_or_from_slice_get (replicate k x) i y y at

no_entry : (k t f : ℕ) → slice_get (replicate k None) t ≡ Some (Some f) → ⊥
no_entry k t f at =
    none-some f (each_replicated k None t (Some f) at)

pub AreEdges-begin : (T : List Event) (is_race : ℕ → Bool) (k m : ℕ) (firsts lasts : List (Option ℕ)) → firsts ≡ replicate k None → lasts ≡ replicate m None → AreEdges T is_race 0 firsts lasts
AreEdges-begin T is_race k m firsts lasts no_firsts no_lasts = record {
  of_firsts = λ t f at. absurd (no_entry k t f (ap (λ xs. slice_get xs t) (sym no_firsts) ∙ at));
  of_lasts = λ t f at. absurd (no_entry m t f (ap (λ xs. slice_get xs t) (sym no_lasts) ∙ at));
  begins = λ d t lt is of. absurd (omega (arith, lt));
  ends = λ d t lt is of. absurd (omega (arith, lt));
}

pub AreSidesBefore-begin : (T : List Event) (numbers : List ℕ) (firsts lasts : List (Option ℕ)) (k : ℕ) (both : Side) (sides : List Side) → both.is_before ≡ true → both.is_after ≡ true → sides ≡ replicate k both → AreSidesBefore T numbers 0 firsts lasts sides
AreSidesBefore-begin T numbers firsts lasts k both sides yes_before yes_after are =
    let each : (i : ℕ) (s : Side) → slice_get sides i ≡ Some s → both ≡ s = λ i s at. each_replicated k both i s (ap (λ xs. slice_get xs i) (sym are) ∙ at) in
    record {
      before = λ i s at. (λ so e lt. absurd (omega (arith, lt)), λ all. ap (λ (x : Side). x.is_before) (sym (each i s at)) ∙ yes_before);
      after = λ i s at. (λ so e lt. absurd (omega (arith, lt)), λ all. ap (λ (x : Side). x.is_after) (sym (each i s at)) ∙ yes_after);
    }

-- before and after the edges of all events is before and after the race
module _ (T : List Event) (rules : IsDisciplined T) (is_race : ℕ → Bool) (firsts lasts : List (Option ℕ)) (are : AreEdges T is_race (length T) firsts lasts) (real : (d : ℕ) → is_race d ≡ true → (t : ℕ) × (thread_at T d ≡ Some t)) where
  in_trace : (d t : ℕ) → thread_at T d ≡ Some t → d < length T
  in_trace d t of = thread_within T d t of

  pub before_race : (e : ℕ) → IsBeforeEdges T firsts e → (d : ℕ) → is_race d ≡ true → IsMustBefore T e d
  before_race e edges d race =
      let of = real d race in
      let has = are.begins d of.0 (in_trace d of.0 of.1) race of.1 in
      IsMustBefore-trans T e has.first d (edges of.0 has.first has.at) (along_thread T rules has.first d of.0 has.of of.1 has.le)

  pub before_edges : (e : ℕ) → ((d : ℕ) → is_race d ≡ true → IsMustBefore T e d) → IsBeforeEdges T firsts e
  before_edges e all t f at = all f (are.of_firsts t f at).2

  pub after_race : (e : ℕ) → IsAfterEdges T lasts e → (d : ℕ) → is_race d ≡ true → IsMustBefore T d e
  after_race e edges d race =
      let of = real d race in
      let has = are.ends d of.0 (in_trace d of.0 of.1) race of.1 in
      IsMustBefore-trans T d has.last e (along_thread T rules d has.last of.0 of.1 has.of has.le) (edges of.0 has.last has.at)

  pub after_edges : (e : ℕ) → ((d : ℕ) → is_race d ≡ true → IsMustBefore T d e) → IsAfterEdges T lasts e
  after_edges e all t f at = all f (are.of_lasts t f at).2

all_more : (P : ℕ → Type 0) (test : ℕ → Bool) (n : ℕ) → ((e : ℕ) → e < n → test e ≡ true → P e) → (test n ≡ true → P n) → (e : ℕ) → e < n + 1 → test e ≡ true → P e
all_more P test n below here e lt mine = elim (cases_eq e n) [ inl same ↦ subst P (sym same) (here (ap test (sym same) ∙ mine)) | inr ne ↦ below e (omega (arith, lt, ne)) mine ]

all_less : (P : ℕ → Type 0) (test : ℕ → Bool) (n : ℕ) → ((e : ℕ) → e < n + 1 → test e ≡ true → P e) → (e : ℕ) → e < n → test e ≡ true → P e
all_less P test n all e lt mine = all e (omega (arith, lt)) mine

-- a flag that says whether all of the first n events of a row have a property, one event further
flag_same : (P : ℕ → Type 0) (numbers : List ℕ) (k n : ℕ) (flag : Bool) → slice_index numbers n ≢ k + 1 → (IsTrue flag ↔ ((e : ℕ) → e < n → has_number numbers k e ≡ true → P e)) → IsTrue flag ↔ ((e : ℕ) → e < n + 1 → has_number numbers k e ≡ true → P e)
flag_same P numbers k n flag ne old = (
  λ so. all_more P (has_number numbers k) n (old.0 so) (λ mine. absurd (ne (eqb-true (slice_index numbers n) (k + 1) mine))),
  λ all. old.1 (all_less P (has_number numbers k) n all),
)

flag_one : (P : ℕ → Type 0) (numbers : List ℕ) (k n : ℕ) (flag new : Bool) → slice_index numbers n ≡ k + 1 → (IsTrue new ↔ (IsTrue flag × P n)) → (IsTrue flag ↔ ((e : ℕ) → e < n → has_number numbers k e ≡ true → P e))
    → IsTrue new ↔ ((e : ℕ) → e < n + 1 → has_number numbers k e ≡ true → P e)
flag_one P numbers k n flag new is said old = (
  λ so. all_more P (has_number numbers k) n (old.0 (said.0 so).0) (λ _. (said.0 so).1),
  λ all. said.1 (old.1 (all_less P (has_number numbers k) n all), all n (omega arith) (eq-eqb (slice_index numbers n) (k + 1) is)),
)

-- sides, one event further
module _ (T : List Event) (numbers : List ℕ) (n : ℕ) (firsts lasts : List (Option ℕ)) (sides : List Side) (are : AreSidesBefore T numbers n firsts lasts sides) where
  -- an event of no row
  pub AreSidesBefore-none : slice_index numbers n ≡ 0 → AreSidesBefore T numbers (n + 1) firsts lasts sides
  AreSidesBefore-none none_there = record {
    before = λ k s at. flag_same (IsBeforeEdges T firsts) numbers k n s.is_before (omega (arith, none_there)) (are.before k s at);
    after = λ k s at. flag_same (IsAfterEdges T lasts) numbers k n s.is_after (omega (arith, none_there)) (are.after k s at);
  }

  -- an event of a row
  module _ (row : ℕ) (old new : Side) (changed : List Side) (within : row < length sides) (is : slice_index numbers n ≡ row + 1) (was : slice_get sides row ≡ Some old) (put : changed ≡ set sides row new)
      (before_said : IsTrue new.is_before ↔ (IsTrue old.is_before × IsBeforeEdges T firsts n)) (after_said : IsTrue new.is_after ↔ (IsTrue old.is_after × IsAfterEdges T lasts n)) where
    pub AreSidesBefore-one : AreSidesBefore T numbers (n + 1) firsts lasts changed
    AreSidesBefore-one = record {
      before = λ k s at. elim (slice_get-set sides row k new s within (ap (λ xs. slice_get xs k) (sym put) ∙ at)) [
        | inl mine ↦
            subst (λ (x : Side). IsTrue x.is_before ↔ ((e : ℕ) → e < n + 1 → has_number numbers k e ≡ true → IsBeforeEdges T firsts e)) mine.1
            (flag_one (IsBeforeEdges T firsts) numbers k n old.is_before new.is_before (is ∙ ap (λ r. r + 1) (sym mine.0)) before_said (are.before k old (ap (slice_get sides) mine.0 ∙ was)))
        | inr kept ↦ flag_same (IsBeforeEdges T firsts) numbers k n s.is_before (let ne = kept.0 in omega (arith, is, ne)) (are.before k s kept.1)
      ];
      after = λ k s at. elim (slice_get-set sides row k new s within (ap (λ xs. slice_get xs k) (sym put) ∙ at)) [
        | inl mine ↦
            subst (λ (x : Side). IsTrue x.is_after ↔ ((e : ℕ) → e < n + 1 → has_number numbers k e ≡ true → IsAfterEdges T lasts e)) mine.1
            (flag_one (IsAfterEdges T lasts) numbers k n old.is_after new.is_after (is ∙ ap (λ r. r + 1) (sym mine.0)) after_said (are.after k old (ap (slice_get sides) mine.0 ∙ was)))
        | inr kept ↦ flag_same (IsAfterEdges T lasts) numbers k n s.is_after (let ne = kept.0 in omega (arith, is, ne)) (are.after k s kept.1)
      ];
    }

-- the same by the list that a slice has
pub before_in : (T : List Event) (table items : List (Option ℕ)) (n : ℕ) (new old : Bool) → table ≡ items → (IsTrue new ↔ (IsTrue old × IsBeforeEdges T table n)) → IsTrue new ↔ (IsTrue old × IsBeforeEdges T items n)
before_in T table items n new old same said = subst (λ xs. IsTrue new ↔ (IsTrue old × IsBeforeEdges T xs n)) same said

pub after_in : (T : List Event) (table items : List (Option ℕ)) (n : ℕ) (new old : Bool) → table ≡ items → (IsTrue new ↔ (IsTrue old × IsAfterEdges T table n)) → IsTrue new ↔ (IsTrue old × IsAfterEdges T items n)
after_in T table items n new old same said = subst (λ xs. IsTrue new ↔ (IsTrue old × IsAfterEdges T xs n)) same said
