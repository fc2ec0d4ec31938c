-- What lies ahead of an event: what the next write of its variable and its rivals tell of an access.
use Rattle.std.proofs.Common.{◌≡◌, ◌≢◌, ℕ, zero, suc, ◌+◌, ◌-◌, ◌<◌, ◌≤◌, ◌⊎◌, Bool, true, false, List, [], Option, Some, None, length, get_or, set, replicate, reverse, length-set, get_or-set_same, get_or-set_other, refl, sym, ap, ◌∙◌, arith, inl, inr, true≢false, eq-eqb}
use Rattle.std.specs.List.{slice_get, find}
use Rattle.std.proofs.lemmas.Bool.{cases_eq, cases_lt, cases_Bool, eqb-true, ne_eqb}
use Rattle.std.proofs.lemmas.List.{length-replicate, get_or-replicate, get_or_read}
use Rattle.std.proofs.lemmas.Option.{none-some, same_Some, slice_get_within, slice_get_read}
use Rattle.trace_rules.proofs.Counts.{slice_get-set}
use Rattle.rapid_text.specs.Operations.{is_write}
use Rattle.rapid_text.specs.Recording.{Recording, IsNamed}
use Rattle.rapid_text.specs.declared.event.Event.{Event}
use Rattle.rapid_text.specs.declared.event.Op.{Op}
use Rattle.rapid_text.specs.declared.event.Op.TheVariants.{Read, Write, Acquire, Release, Fork, Join}
use Rattle.event_index.specs.Events.{op_at, is_write_at}
use Rattle.event_index.specs.Lookups.{before, last_writer, last_writer_by}
use Rattle.event_index.proofs.CallerLemmas.{op_event, thread_here, op_here, passes_here, passes_event, find_last_yes, find_last_no}
use Rattle.event_index.specs.Relations.{is_access}
use Rattle.shb_clocks.specs.HappensBefore.{chain}
use Rattle.shb_clocks.specs.Candidates.{IsApart}
use Rattle.shb_clocks.specs.Partners.{IsWithoutPartner, AreMarks, AreNextWrites, IsAccess, AreRivals, LieAhead, LooksAhead}
use Rattle.shb_clocks.specs.Rivals.{IsClear, AreEvents, Adds, IsNoLater}
use Rattle.shb_clocks.specs.declared.rivals.Rivals.{Rivals}
use Rattle.shb_clocks.specs.declared.rivals.Rivals.TheVariants.{Nowhere}
use Rattle.shb_clocks.specs.Search.{IsFirstFrom, linked_variable, sought_by}
use Rattle.shb_clocks.proofs.ChainLemmas.{linked_named, IsFirstFrom-here, IsFirstFrom-end, IsFirstFrom-back}
use Rattle.shb_clocks.proofs.OrderLemmas.{IsShbBefore-trans}
use Rattle.shb_clocks.proofs.PartnerLemmas.{IsLinked-candidate, IsApart-earlier, candidate_within, no_partner}
use Rattle.shb_clocks.proofs.SourceLemmas.{Edge-base}

-- the last one that passes, where none passes from it on
last_of : (test : ℕ → Bool) (e k : ℕ) → test e ≡ true → ((j : ℕ) → e < j → j < e + 1 + k → test j ≡ false)
    → find test (reverse (before (e + 1 + k))) ≡ Some e
last_of test e zero passes fail =
    let size : e + 1 + 0 ≡ e + 1 = omega arith in
    ap (λ (k : ℕ). find test (reverse (before k))) size ∙ find_last_yes test e passes
last_of test e (suc k) passes fail =
    let size : e + 1 + suc k ≡ e + 1 + k + 1 = omega arith in
    ap (λ (k : ℕ). find test (reverse (before k))) size ∙ find_last_no test (e + 1 + k) (fail (e + 1 + k) (omega arith) (omega arith))
    ∙ last_of test e k passes (λ j low high. fail j low (omega arith))

-- a read after a write of its variable, with no other between, reads from it
last_writer-is : (T : List Event) (x e b : ℕ) → is_write_at T x e ≡ true → op_at T b ≡ Some (Read x) → e < b
    → ((j : ℕ) → e < j → j < b → is_write_at T x j ≡ false) → last_writer T b ≡ Some e
last_writer-is T x e b writes op early none =
    let size : b ≡ e + 1 + (b - (e + 1)) = omega arith in
    ap (last_writer_by T b) op ∙ ap (λ (k : ℕ). find (is_write_at T x) (reverse (before k))) size
    ∙ last_of (is_write_at T x) e (b - (e + 1)) writes (λ j low high. none j low (omega arith))

write_is : (x : ℕ) (op : Op) → is_write x op ≡ true → op ≡ Write x
write_is x (Write y) h = ap Write (eqb-true y x h)
write_is x op h = absurd (true≢false (sym h))

pub write_at : (T : List Event) (x n : ℕ) → is_write_at T x n ≡ true → op_at T n ≡ Some (Write x)
write_at T x n h =
    let v = passes_event (λ w. is_write x w.op) T n h in
    op_here T n v.0 v.1 ∙ ap Some (write_is x v.0.op v.2)

pub writes_at : (T : List Event) (x n : ℕ) → op_at T n ≡ Some (Write x) → is_write_at T x n ≡ true
writes_at T x n op =
    let v = op_event T n (Write x) op in
    passes_here (λ w. is_write x w.op) T n v.0 v.1 ∙ ap (is_write x) v.2 ∙ eq-eqb x x refl

linked_any : (w : Bool) (x : ℕ) (op : Op) → linked_variable w op ≡ Some x → linked_variable false op ≡ Some x
linked_any true x (Write y) h = h
linked_any false x op h = h
linked_any w x op h = absurd (none-some x h)

-- what stands in a chain and is no write is a read, and the chain is one of all accesses
read_there : (w : Bool) (x : ℕ) (op : Op) → linked_variable w op ≡ Some x → is_write x op ≡ false
    → (op ≡ Read x) × (w ≡ false)
read_there w x (Write y) h other = absurd (true≢false (sym (eq-eqb y x (same_Some y x h)) ∙ other))
read_there false x (Read y) h other = (ap Read (same_Some y x h), refl)
read_there w x op h other = absurd (none-some x h)

-- what e is apart from, e is no later than
pub IsNoLater-same : (T : List Event) (e : ℕ) → IsNoLater T e e
IsNoLater-same T e b apart = apart

-- and so is what SHB keeps before the base of e
pub IsNoLater-kept : (T : List Event) (a e : ℕ) → ¬ IsApart T a e → IsNoLater T a e
IsNoLater-kept T a e kept b apart f base before =
    kept (λ d is early. apart f base (IsShbBefore-trans T a e f (chain d e early (Edge-base T e d is)) before))

-- what SHB keeps before the base of an event it keeps before those of all later ones of the thread
pub StandsFor-earlier : (T : List Event) (b c : ℕ) (v u : Event) → slice_get T b ≡ Some v → slice_get T c ≡ Some u
    → v.thread ≡ u.thread → b ≤ c
    → (a : ℕ) → ¬ IsApart T a b → ¬ IsApart T a c
StandsFor-earlier T b c v u at also one le a kept apart =
    kept (IsApart-earlier T a b c u.thread (thread_here T b v at ∙ ap Some one) (thread_here T c u also) le apart)

module _ (T : List Event) (w : Bool) (a x n : ℕ) (op : op_at T a ≡ Some (sought_by w x))
    (first : IsFirstFrom (λ e. is_write_at T x e ≡ true) (length T) (a + 1) n) where
  -- of the accesses up to the next write each is a read that sees a
  pub reads_from : (b : ℕ) (v : Event) → slice_get T b ≡ Some v → linked_variable w v.op ≡ Some x → a < b → b < n
      → last_writer T b ≡ Some a
  reads_from b v found variable early less =
      let no_write : (j : ℕ) → a < j → j < n → is_write_at T x j ≡ false = λ j low high.
      elim (cases_Bool (is_write_at T x j)) [ inl writes ↦ absurd (first.skipped j (omega arith) high writes) | inr other ↦ other ] in
      let other : is_write x v.op ≡ false = sym (passes_here (λ d. is_write x d.op) T b v found) ∙ no_write b early less in
      let read = read_there w x v.op variable other in
      last_writer-is T x a b (writes_at T x a (op ∙ ap (λ (w : Bool). Some (sought_by w x)) read.1)) (op_here T b v found ∙ ap Some read.0) early
      (λ j low high. no_write j low (omega arith))

  -- what SHB keeps before the bases of the next write and the rivals has no partner
  pub IsWithoutPartner-clear : (rivals : Rivals) → AreRivals T (a + 1) x n rivals
      → (n < length T → ¬ IsApart T a n) → IsClear T rivals a → IsWithoutPartner T a
  IsWithoutPartner-clear rivals are write clear b cand =
      let inside : b < length T = candidate_within T a b cand in
      let early : a < b = cand.earlier in
      let linked = IsLinked-candidate T w [] a x op b cand in
      let access : IsAccess T x b = record { v = linked.v; found = linked.found; variable = linked_any w x linked.v.op linked.variable } in
      elim (cases_lt b n) [
        | inl less ↦
            are.between b a a access (omega arith) less (reads_from b linked.v linked.found linked.variable early less) cand.apart clear cand.apart
        | inr more ↦ are.beyond b a access more (write (omega arith)) clear cand.apart
      ]

abbrev pub IsOther : Op → Type 0
IsOther op = ((l : ℕ) × (op ≡ Acquire l)) ⊎ (((l : ℕ) × (op ≡ Release l)) ⊎ (((u : ℕ) × (op ≡ Fork u)) ⊎ ((u : ℕ) × (op ≡ Join u))))

module _ (X : Type 0) (f : Op → X) (y : X) (at_acquire : (l : ℕ) → f (Acquire l) ≡ y) (at_release : (l : ℕ) → f (Release l) ≡ y)
    (at_fork : (u : ℕ) → f (Fork u) ≡ y) (at_join : (u : ℕ) → f (Join u) ≡ y) where
  at_other : (op : Op) → IsOther op → f op ≡ y
  at_other op (inl p) = ap f p.1 ∙ at_acquire p.0
  at_other op (inr (inl p)) = ap f p.1 ∙ at_release p.0
  at_other op (inr (inr (inl p))) = ap f p.1 ∙ at_fork p.0
  at_other op (inr (inr (inr p))) = ap f p.1 ∙ at_join p.0

other_no_write : (op : Op) → IsOther op → (x : ℕ) → is_write x op ≡ false
other_no_write op other x = at_other Bool (is_write x) false (λ l. refl) (λ l. refl) (λ u. refl) (λ u. refl) op other

pub other_no_access : (op : Op) → IsOther op → (x : ℕ) → is_access x op ≡ false
other_no_access op other x = at_other Bool (is_access x) false (λ l. refl) (λ l. refl) (λ u. refl) (λ u. refl) op other

-- rivals that tell more
pub AreRivals-more : (T : List Event) (from x n : ℕ) (old new : Rivals) → AreRivals T from x n old → AreEvents T new
    → ((a : ℕ) → IsClear T new a → IsClear T old a) → AreRivals T from x n new
AreRivals-more T from x n old new are events more =
    record {
      events = events;
      beyond = λ b a access late kept clear. are.beyond b a access late kept (more a clear);
      between = λ b w a access low high writer apart clear. are.between b w a access low high writer apart (more a clear);
    }

-- what the rivals have to tell of an event that is passed
abbrev pub TellsOf : List Event → ℕ → ℕ → Rivals → Type 0
TellsOf T e x rivals =
    (w a : ℕ) → IsAccess T x e → last_writer T e ≡ Some w → IsApart T w e → IsClear T rivals a → ¬ IsApart T a e

pub AreRivals-back : (T : List Event) (e x n : ℕ) (rivals : Rivals) → AreRivals T (e + 1) x n rivals
    → TellsOf T e x rivals → AreRivals T e x n rivals
AreRivals-back T e x n rivals are here =
    record {
      events = are.events;
      beyond = are.beyond;
      between = λ b w a access low high writer apart clear.
          elim (cases_eq b e) [
            | inl is ↦ rw is (here w a (rw (← is) access) (rw (← is) writer) (rw (← is) apart) clear)
            | inr other ↦ are.between b w a access (omega arith) high writer apart clear
          ];
    }

-- an event accesses one variable
one_access : (T : List Event) (e x y : ℕ) (v : Event) → slice_get T e ≡ Some v
    → linked_variable false v.op ≡ Some x → IsAccess T y e → y ≡ x
one_access T e x y v at variable access =
    let is : access.v ≡ v = same_Some access.v v (sym access.found ∙ at) in
    same_Some y x (sym access.variable ∙ ap (λ (d : Event). linked_variable false d.op) is ∙ variable)

no_access : (op : Op) → IsOther op → linked_variable false op ≡ None
no_access op other = at_other (Option ℕ) (linked_variable false) None (λ l. refl) (λ l. refl) (λ u. refl) (λ u. refl) op other

pub named_variable : (r : Recording) (w : Bool) (x : ℕ) (v : Event) → v.op ≡ sought_by w x → IsNamed r v
    → x < length r.variables
named_variable r true x v op named = linked_named r false x v.op (ap (linked_variable false) op) named.1
named_variable r false x v op named = linked_named r false x v.op (ap (linked_variable false) op) named.1

-- one event further back
module _ (r : Recording) (e : ℕ) (v : Event) (at : slice_get r.events e ≡ Some v) (old_writes : List ℕ)
    (old_rivals : List Rivals) (was : LieAhead r (e + 1) old_writes old_rivals) where
  within_events : e < length r.events
  within_events = slice_get_within r.events e v at

  -- the rivals of a variable, as they are read
  pub AreRivals-read : (x : ℕ) (rivals : Rivals) → x < length r.variables → rivals ≡ get_or old_rivals x rivals
      → AreRivals r.events (e + 1) x (get_or old_writes x 0) rivals
  AreRivals-read x rivals low read =
      let value : rivals ≡ get_or old_rivals x Nowhere = get_or_read old_rivals x rivals (omega (arith, was.len)) read Nowhere in
      rw value (was.at x low)

  -- where no rival and no next write is apart from it, an access has no partner
  pub IsWithoutPartner-seen : (w : Bool) (x : ℕ) (rivals : Rivals) → x < length r.variables → v.op ≡ sought_by w x
      → LooksAhead r.events e x old_writes old_rivals rivals
      → ((a : ℕ) → IsClear r.events rivals a) → IsWithoutPartner r.events e
  IsWithoutPartner-seen w x rivals low op looks none =
      IsWithoutPartner-clear r.events w e x (get_or old_writes x 0) (op_here r.events e v at ∙ ap Some op) (was.next.first x low)
      (get_or old_rivals x Nowhere) (was.at x low) (looks.write e (IsNoLater-same r.events e) (none e))
      (looks.clear e (IsNoLater-same r.events e) (none e))

  -- the next writes, where the event is none
  pub AreNextWrites-back : ((x : ℕ) → is_write x v.op ≡ false) → AreNextWrites r e old_writes
  AreNextWrites-back none =
      record {
        len = was.next.len;
        first = λ x low.
            IsFirstFrom-back (λ k. is_write_at r.events x k ≡ true) (length r.events) e _
            (λ writes. true≢false (sym writes ∙ passes_here (λ d. is_write x d.op) r.events e v at ∙ none x)) (was.next.first x low);
      }

  -- and where it is one
  pub AreNextWrites-write : (x : ℕ) → v.op ≡ Write x → x < length r.variables → AreNextWrites r e (set old_writes x e)
  AreNextWrites-write x op low =
      record {
        len = length-set old_writes x e ∙ was.next.len;
        first = λ y low_y.
            elim (cases_eq y x) [
              | inl here ↦
                  rw (here, get_or-set_same old_writes x e 0 (omega (arith, was.next.len)))
                  (IsFirstFrom-here (λ k. is_write_at r.events x k ≡ true) (length r.events) e (omega (arith, within_events)) (writes_at r.events x e (op_here r.events e v at ∙ ap Some op)))
              | inr other ↦
                  rw (get_or-set_other old_writes x y e 0 other)
                  (IsFirstFrom-back (λ k. is_write_at r.events y k ≡ true) (length r.events) e _
                  (λ writes. true≢false (sym writes ∙ passes_here (λ d. is_write y d.op) r.events e v at ∙ ap (is_write y) op ∙ ne_eqb x y (λ is. other (sym is)))) (was.next.first y low_y))
            ];
      }

  -- past an event that is no write, where the rivals tell of it already
  pub LieAhead-back : ((x : ℕ) → is_write x v.op ≡ false)
      → ((x : ℕ) → x < length r.variables → TellsOf r.events e x (get_or old_rivals x Nowhere))
      → LieAhead r e old_writes old_rivals
  LieAhead-back none tells =
      record {
        next = AreNextWrites-back none;
        len = was.len;
        at = λ x low. AreRivals-back r.events e x (get_or old_writes x 0) (get_or old_rivals x Nowhere) (was.at x low) (tells x low);
      }

  pub LieAhead-other : IsOther v.op → LieAhead r e old_writes old_rivals
  LieAhead-other other =
      LieAhead-back (other_no_write v.op other) (λ x low w a access writer.
      let is : access.v ≡ v = same_Some access.v v (sym access.found ∙ at) in
      absurd (none-some x (sym (no_access v.op other) ∙ sym (ap (λ (d : Event). linked_variable false d.op) is) ∙ access.variable)))

  -- past a read that sees no write
  pub LieAhead-unwritten : (x : ℕ) → v.op ≡ Read x → last_writer r.events e ≡ None
      → LieAhead r e old_writes old_rivals
  LieAhead-unwritten x op none =
      LieAhead-back (λ y. ap (is_write y) op) (λ y low w a access writer. absurd (none-some w (sym none ∙ writer)))

  -- past a read whose writer SHB keeps before its base
  pub LieAhead-kept : (x k : ℕ) → v.op ≡ Read x → last_writer r.events e ≡ Some k → ¬ IsApart r.events k e
      → LieAhead r e old_writes old_rivals
  LieAhead-kept x k op sees kept =
      LieAhead-back (λ y. ap (is_write y) op) (λ y low w a access writer apart.
      let one : w ≡ k = same_Some w k (sym writer ∙ sees) in
      absurd (kept (rw (← one) apart)))

  -- past a read that is noted
  pub LieAhead-noted : (x : ℕ) (old new : Rivals) → x < length r.variables → v.op ≡ Read x
      → old ≡ get_or old_rivals x old → Adds r.events old e new
      → LieAhead r e old_writes (set old_rivals x new)
  LieAhead-noted x old new low op read adds =
      let more = AreRivals-more r.events (e + 1) x (get_or old_writes x 0) old new (AreRivals-read x old low read) adds.events adds.old_clear in
      record {
        next = AreNextWrites-back (λ y. ap (is_write y) op);
        len = length-set old_rivals x new ∙ was.len;
        at = λ y low_y.
            elim (cases_eq y x) [
              | inl here ↦
                  rw (here, get_or-set_same old_rivals x new Nowhere (omega (arith, was.len)))
                  (AreRivals-back r.events e x (get_or old_writes x 0) new more (λ w a access writer apart clear. adds.event_clear a clear))
              | inr other ↦
                  rw (get_or-set_other old_rivals x y new Nowhere other)
                  (AreRivals-back r.events e y (get_or old_writes y 0) (get_or old_rivals y Nowhere) (was.at y low_y)
                  (λ w a access. absurd (other (one_access r.events e x y v at (ap (linked_variable false) op) access))))
            ];
      }

  -- the rivals of a write
  AreRivals-write : (x : ℕ) (rivals : Rivals) → x < length r.variables → v.op ≡ Write x
      → LooksAhead r.events e x old_writes old_rivals rivals → AreRivals r.events e x e rivals
  AreRivals-write x rivals low op looks =
      let were = was.at x low in
      let n : ℕ = get_or old_writes x 0 in
      let first = was.next.first x low in
      let does : op_at r.events e ≡ Some (Write x) = op_here r.events e v at ∙ ap Some op in
      record {
        events = looks.events;
        beyond = λ b a access late kept clear apart.
            elim (cases_eq b e) [
              | inl is ↦ kept (rw (← is) apart)
              | inr other ↦
                  let later = IsNoLater-kept r.events a e kept in
                  elim (cases_lt b n) [
                    | inl less ↦
                        let sees = reads_from r.events false e x n does first b access.v access.found access.variable (omega arith) less in
                        were.between b e a access (omega arith) less sees (later b apart) (looks.clear a later clear) apart
                    | inr more ↦
                        let inside : b < length r.events = slice_get_within r.events b access.v access.found in
                        were.beyond b a access more (looks.write a later clear (omega arith)) (looks.clear a later clear) apart
                  ]
            ];
        between = λ b w a access low high. absurd (omega arith);
      }

  -- past a write
  pub LieAhead-write : (x : ℕ) (rivals : Rivals) → x < length r.variables → v.op ≡ Write x
      → LooksAhead r.events e x old_writes old_rivals rivals
      → LieAhead r e (set old_writes x e) (set old_rivals x rivals)
  LieAhead-write x rivals low op looks =
      record {
        next = AreNextWrites-write x op low;
        len = length-set old_rivals x rivals ∙ was.len;
        at = λ y low_y.
            elim (cases_eq y x) [
              | inl here ↦
                  rw (here, get_or-set_same old_rivals x rivals Nowhere (omega (arith, was.len)), get_or-set_same old_writes x e 0 (omega (arith, was.next.len)))
                  (AreRivals-write x rivals low op looks)
              | inr other ↦
                  rw (get_or-set_other old_rivals x y rivals Nowhere other, get_or-set_other old_writes x y e 0 other)
                  (AreRivals-back r.events e y (get_or old_writes y 0) (get_or old_rivals y Nowhere) (was.at y low_y)
                  (λ w a access. absurd (other (one_access r.events e x y v at (ap (linked_variable false) op) access))))
            ];
      }

-- at the end of the trace nothing lies ahead
pub LieAhead-end : (r : Recording) (n m : ℕ) (writes : List ℕ) (rivals : List Rivals) → n ≡ length r.events
    → m ≡ length r.variables
    → writes ≡ replicate m n → rivals ≡ replicate m Nowhere → LieAhead r (length r.events) writes rivals
LieAhead-end r n m writes rivals size count next_is rivals_are =
    record {
      next = record {
        len = ap length next_is ∙ length-replicate m n ∙ count;
        first = λ x low.
            rw (next_is, get_or-replicate m x n 0 (omega arith), size)
            (IsFirstFrom-end (λ k. is_write_at r.events x k ≡ true) (length r.events));
      };
      len = ap length rivals_are ∙ length-replicate m Nowhere ∙ count;
      at = λ x low.
          rw (rivals_are, get_or-replicate m x Nowhere Nowhere (omega arith)) (record {
            events = tt;
            beyond = λ b a access late kept clear.
                let inside : b < length r.events = slice_get_within r.events b access.v access.found in
                let end : get_or writes x 0 ≡ n = ap (λ (xs : List ℕ). get_or xs x 0) next_is ∙ get_or-replicate m x n 0 (omega arith) in
                absurd (omega (arith, late, end));
            between = λ b w a access low high.
                let inside : b < length r.events = slice_get_within r.events b access.v access.found in
                absurd (omega arith);
          });
    }

-- marks, with that of the event before
pub AreMarks-set : (T : List Event) (e : ℕ) (m : Bool) (marks : List Bool) → AreMarks T (e + 1) marks
    → e < length T → (m ≡ false → IsWithoutPartner T e)
    → AreMarks T e (set marks e m)
AreMarks-set T e m marks are low own =
    record {
      len = length-set marks e m ∙ are.len;
      none = λ a late is.
          elim (slice_get-set marks e a m false (omega (arith, are.len)) is) [
            | inl here ↦ rw here.0 (own here.1)
            | inr there ↦
                let other : a ≢ e = there.0 in
                are.none a (omega arith) there.1
          ];
    }

pub AreMarks-end : (T : List Event) (n : ℕ) (marks : List Bool) → n ≡ length T → marks ≡ replicate n false
    → AreMarks T n marks
AreMarks-end T n marks size is =
    let len : length marks ≡ length T = ap length is ∙ length-replicate n false ∙ size in
    record { len = len; none = λ a low here. absurd (omega (arith, slice_get_within marks a false here, len)) }

-- an event without mark, and one that is no access, has no partner
pub IsWithoutPartner-left : (T : List Event) (marks : List Bool) (a : ℕ) (m : Bool) (v : Event)
    → AreMarks T 0 marks → a < length T → m ≡ get_or marks a m
    → slice_get T a ≡ Some v → (m ≡ false) ⊎ ((y : ℕ) → is_access y v.op ≡ false) → IsWithoutPartner T a
IsWithoutPartner-left T marks a m v are low read at (inl is) =
    are.none a (omega arith) (slice_get_read marks (length T) a m (sym are.len) low read ∙ ap Some is)
IsWithoutPartner-left T marks a m v are low read at (inr none) = λ b. no_partner T a b v at none
