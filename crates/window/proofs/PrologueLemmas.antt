-- The holds and the readers of a window, by the tables.
use Rattle.std.proofs.Common.{◌≡◌, ◌≢◌, ℕ, zero, suc, ◌+◌, ◌*◌, ◌<◌, ◌≤◌, ◌&&◌, Bool, true, false, not, cond, nat_lt, All, List, [], ◌∷◌, ◌++◌, length, take, filter, replicate, Option, Some, None, refl, sym, ap, ◌∙◌, subst, arith, add-one, eq-eqb, inl, inr}
use Rattle.std.specs.List.{flat_map, slice_get}
use Rattle.std.proofs.lemmas.Option.{slice_get_within, get_or_from_slice_get}
use Rattle.std.proofs.lemmas.Bool.{cases_lt, cases_eq, ne_eqb, le-ltb, ltb-true, ltb-false}
use Rattle.std.proofs.lemmas.Grind.{flat_map-append}
use Rattle.std.proofs.lemmas.List.{append-nil, length-append, length_push}
use Rattle.std.proofs.lemmas.List.Elements.{All-append, All-nil, All-cons, All-head, All-tail, All-replicate}
use Rattle.rapid_text.specs.Recording.{Recording, IsWellFormed, IsNamed, IsNamedOp}
use Rattle.rapid_text.specs.declared.event.Event.{Event}
use Rattle.rapid_text.specs.declared.event.Op.TheVariants.{Read, Write, Acquire, Release}
use Rattle.trace_rules.specs.Rules.{hold_count}
use Rattle.event_index.specs.Lookups.{before}
use Rattle.event_index.proofs.CallerLemmas.{before_more, find_none, find_first_is, filter_more_before}
use Rattle.window.specs.Cuts.{with_name, prologue_of, prologue_size}
use Rattle.window.specs.Made.{IsBounded, does, chain_of, reads_of, touch_count, serving, owner, holds_of, holds_at, readers_of, readers_at, waiting}
use Rattle.window.specs.Tables.{IsHeld, has_thread, has_fork}
use Rattle.window.specs.declared.holding.Held.{Held}
use Rattle.window.proofs.ChainLemmas.{chain-length, reads-length}
use Rattle.window.proofs.HoldsLemmas.{none_past}

replicate_suc : {X : Type 0} (n : ℕ) (x : X) → replicate n x ++ x ∷ [] ≡ replicate (suc n) x
replicate_suc zero x = refl
replicate_suc (suc n) x = ap (λ xs. x ∷ xs) (replicate_suc n x)

pub replicate_more : {X : Type 0} (n : ℕ) (x : X) → replicate n x ++ x ∷ [] ≡ replicate (n + 1) x
replicate_more n x = replicate_suc n x ∙ ap (λ k. replicate k x) (sym (add-one n))

-- threads and locks of a recording are below its tables' lengths
pub bounded_of : (r : Recording) → IsWellFormed r → IsBounded r.events (length r.threads) (length r.locks)
bounded_of r formed = record {
  of_threads = λ e v at. (named e v at).0;
  of_locks = λ e l v at takes. subst (IsNamedOp r) takes (named e v at).1;
}
  where
    named : (e : ℕ) (v : Event) → slice_get r.events e ≡ Some v → IsNamed r v
    named e v at = subst (IsNamed r) (get_or_from_slice_get r.events e v v at) (formed.named e v (slice_get_within r.events e v at))

module _ (T : List Event) (threads locks : ℕ) (bounds : IsBounded T threads locks) (k m : ℕ) (begins : k ≤ m) (within : m ≤ length T) where
  abbrev pub piece : ℕ → List (ℕ × ℕ)
  piece l = holds_of T k m (owner T k threads l) l

  pub pieces_more : (j : ℕ) → flat_map piece (before j) ++ piece j ≡ flat_map piece (before (j + 1))
  pieces_more j =
      sym (ap (flat_map piece) (before_more j) ∙ flat_map-append piece (before j) (j ∷ []) ∙ ap (λ y. flat_map piece (before j) ++ y) (append-nil (piece j)))

  own_hold : (l : ℕ) (h : Held) → IsHeld (take k T) l h → hold_count (take k T) h.thread l ≡ h.depth
  own_hold l h is = is h.thread ∙ ap (λ b. cond {A = ℕ} b h.depth 0) (eq-eqb h.thread h.thread refl)

  -- the holds of a lock, as the tables have them
  pub piece_is : (l j : ℕ) (h : Held) → IsHeld (take k T) l h → j ≡ touch_count T k m l
      → replicate (cond (nat_lt (2 * j) h.depth) (2 * j) h.depth) (h.thread, l) ≡ piece l
  piece_is l j h is count = by_owner (owner T k threads l) refl
    where
      by_owner : (o : Option ℕ) → owner T k threads l ≡ o → replicate (cond (nat_lt (2 * j) h.depth) (2 * j) h.depth) (h.thread, l) ≡ holds_of T k m o l
      by_owner None none =
          let held : hold_count (take k T) h.thread l ≡ 0 =
          elim (cases_lt h.thread threads) [
            | inr high ↦ none_past T threads locks bounds k m begins within h.thread l (inl high)
            | inl low ↦
                let fails = find_none (λ u. nat_lt 0 (hold_count (take k T) u l)) 0 threads none h.thread (omega arith) (omega (arith, low)) in
                let le = ltb-false 0 (hold_count (take k T) h.thread l) fails in
                omega (arith, le)
          ] in
          let zero : h.depth ≡ 0 = sym (own_hold l h is) ∙ held in
          let all : cond (nat_lt (2 * j) h.depth) (2 * j) h.depth ≡ 0 =
          ap (λ b. cond b (2 * j) h.depth) (le-ltb (2 * j) h.depth (omega (arith, zero))) ∙ zero in
          ap (λ n. replicate n (h.thread, l)) all
      by_owner (Some u) some =
          let found = find_first_is (λ t. nat_lt 0 (hold_count (take k T) t l)) 0 threads u some in
          let holds : 0 < hold_count (take k T) u l = ltb-true 0 (hold_count (take k T) u l) found.2 in
          let same : u ≡ h.thread =
          elim (cases_eq u h.thread) [
            | inl one ↦ one
            | inr other ↦
                let none : hold_count (take k T) u l ≡ 0 = is u ∙ ap (λ b. cond {A = ℕ} b h.depth 0) (ne_eqb u h.thread other) in
                absurd (omega (arith, none, holds))
          ] in
          let depth : h.depth ≡ hold_count (take k T) u l = sym (own_hold l h is) ∙ ap (λ t. hold_count (take k T) t l) (sym same) in
          let times : cond (nat_lt (2 * j) h.depth) (2 * j) h.depth ≡ serving T k m u l =
          ap (λ n. cond (nat_lt (2 * j) n) (2 * j) n) depth ∙ ap (λ n. cond (nat_lt (2 * n) (hold_count (take k T) u l)) (2 * n) (hold_count (take k T) u l)) count in
          ap (λ n. replicate n (h.thread, l)) times ∙ ap (λ t. replicate (serving T k m u l) (t, l)) (sym same)

  -- each hold is of a thread and a lock of the trace
  abbrev pub AreIn : List (ℕ × ℕ) → Type 0
  AreIn holds = All (λ (h : ℕ × ℕ). (h.0 < threads) × (h.1 < locks)) holds

  piece_in : (l : ℕ) → l < locks → AreIn (piece l)
  piece_in l low = by_owner (owner T k threads l) refl
    where
      by_owner : (o : Option ℕ) → owner T k threads l ≡ o → AreIn (holds_of T k m o l)
      by_owner None none = All-nil (λ (h : ℕ × ℕ). (h.0 < threads) × (h.1 < locks))
      by_owner (Some u) some =
          let found = find_first_is (λ t. nat_lt 0 (hold_count (take k T) t l)) 0 threads u some in
          All-replicate (λ (h : ℕ × ℕ). (h.0 < threads) × (h.1 < locks)) (serving T k m u l) (u, l) (omega (arith, found.1), low)

  pieces_in : (j : ℕ) → j ≤ locks → AreIn (flat_map piece (before j))
  pieces_in zero le = All-nil (λ (h : ℕ × ℕ). (h.0 < threads) × (h.1 < locks))
  pieces_in (suc j) le =
      subst (λ (i : ℕ). AreIn (flat_map piece (before i))) (add-one j)
      (subst AreIn (pieces_more j)
      (All-append (λ (h : ℕ × ℕ). (h.0 < threads) × (h.1 < locks)) (flat_map piece (before j)) (piece j) (pieces_in j (omega (arith, le))) (piece_in j (omega (arith, le)))))

  pub holds_in : AreIn (holds_at T k m threads locks)
  holds_in = pieces_in locks (omega arith)

  abbrev pub is_reader : ℕ → Bool
  is_reader t = has_thread T k m t && not (has_fork T k m t)

  pub readers_more : (j : ℕ) → filter is_reader (before j) ++ cond (is_reader j) (j ∷ []) [] ≡ filter is_reader (before (j + 1))
  readers_more j = sym (filter_more_before is_reader j)

  one_reader : (b : Bool) (j : ℕ) → j < threads → All (λ t. t < threads) (cond b (j ∷ []) [])
  one_reader true j lt = All-cons (λ t. t < threads) j [] lt (All-nil (λ t. t < threads))
  one_reader false j lt = All-nil (λ t. t < threads)

  some_readers : (j : ℕ) → j ≤ threads → All (λ t. t < threads) (filter is_reader (before j))
  some_readers zero le = All-nil (λ t. t < threads)
  some_readers (suc j) le =
      subst (λ (i : ℕ). All (λ t. t < threads) (filter is_reader (before i))) (add-one j)
      (subst (All (λ t. t < threads)) (readers_more j)
      (All-append (λ t. t < threads) (filter is_reader (before j)) (cond (is_reader j) (j ∷ []) []) (some_readers j (omega (arith, le))) (one_reader (is_reader j) j (omega (arith, le)))))

  some_waiting : (holds : List (ℕ × ℕ)) (readers : List ℕ) → All (λ t. t < threads) readers → All (λ t. t < threads) (waiting holds readers)
  some_waiting [] readers all = All-nil (λ t. t < threads)
  some_waiting (h ∷ holds) readers all = all

  pub readers_in : All (λ t. t < threads) (readers_at T k m threads locks)
  readers_in = some_waiting (holds_at T k m threads locks) (readers_of T k m threads) (some_readers threads (omega arith))

-- who waits for some holds, and for none
pub waiting-nil : (holds : List (ℕ × ℕ)) (readers : List ℕ) → length holds ≡ 0 → waiting holds readers ≡ []
waiting-nil [] readers none = refl
waiting-nil (h ∷ holds) readers none = absurd (omega (arith, none))

pub waiting-some : (holds : List (ℕ × ℕ)) (readers : List ℕ) → length holds ≢ 0 → waiting holds readers ≡ readers
waiting-some [] readers some = absurd (some refl)
waiting-some (h ∷ holds) readers some = refl

-- The events of a prologue have names, and their number is known.
module _ (r : Recording) (formed : IsWellFormed r) (k m : ℕ) (begins : k ≤ m) (within : m ≤ length r.events) (name : List ℕ) where
  abbrev R : Recording
  R = with_name r name

  abbrev x : ℕ
  x = length r.variables

  abbrev lock : ℕ
  lock = length r.locks

  access_named : (t : ℕ) (es : List Event) → t < length r.threads → All (IsNamed R) es
      → All (IsNamed R) (does t (Acquire lock) ∷ does t (Read x) ∷ does t (Release lock) ∷ es)
  access_named t es lt all =
      let on : lock < length R.locks = omega (arith, length_push r.locks name) in
      let of : x < length R.variables = omega (arith, length_push r.variables name) in
      All-cons (IsNamed R) (does t (Acquire lock)) (does t (Read x) ∷ does t (Release lock) ∷ es) (lt, on)
      (All-cons (IsNamed R) (does t (Read x)) (does t (Release lock) ∷ es) (lt, of)
      (All-cons (IsNamed R) (does t (Release lock)) es (lt, on) all))

  write_named : (t : ℕ) (es : List Event) → t < length r.threads → All (IsNamed R) es
      → All (IsNamed R) (does t (Acquire lock) ∷ does t (Write x) ∷ does t (Release lock) ∷ es)
  write_named t es lt all =
      let on : lock < length R.locks = omega (arith, length_push r.locks name) in
      let of : x < length R.variables = omega (arith, length_push r.variables name) in
      All-cons (IsNamed R) (does t (Acquire lock)) (does t (Write x) ∷ does t (Release lock) ∷ es) (lt, on)
      (All-cons (IsNamed R) (does t (Write x)) (does t (Release lock) ∷ es) (lt, of)
      (All-cons (IsNamed R) (does t (Release lock)) es (lt, on) all))

  chain_named : (holds : List (ℕ × ℕ)) → All (λ (h : ℕ × ℕ). (h.0 < length r.threads) × (h.1 < length r.locks)) holds → All (IsNamed R) (chain_of x lock holds)
  chain_named [] all = All-nil (IsNamed R)
  chain_named (h ∷ holds) all =
      let here = All-head (λ (g : ℕ × ℕ). (g.0 < length r.threads) × (g.1 < length r.locks)) h holds all in
      let rest = chain_named holds (All-tail (λ (g : ℕ × ℕ). (g.0 < length r.threads) × (g.1 < length r.locks)) h holds all) in
      let on : h.1 < length R.locks = omega (arith, here.1, length_push r.locks name) in
      access_named h.0 (does h.0 (Acquire h.1) ∷ does h.0 (Acquire lock) ∷ does h.0 (Write x) ∷ does h.0 (Release lock) ∷ chain_of x lock holds) here.0
      (All-cons (IsNamed R) (does h.0 (Acquire h.1)) (does h.0 (Acquire lock) ∷ does h.0 (Write x) ∷ does h.0 (Release lock) ∷ chain_of x lock holds) (here.0, on)
      (write_named h.0 (chain_of x lock holds) here.0 rest))

  reads_named : (readers : List ℕ) → All (λ t. t < length r.threads) readers → All (IsNamed R) (reads_of x lock readers)
  reads_named [] all = All-nil (IsNamed R)
  reads_named (t ∷ readers) all =
      access_named t (reads_of x lock readers) (All-head (λ u. u < length r.threads) t readers all)
      (reads_named readers (All-tail (λ u. u < length r.threads) t readers all))

  pub prologue_named : All (IsNamed R) (prologue_of r k m)
  prologue_named =
      let bounds = bounded_of r formed in
      let holds = holds_at r.events k m (length r.threads) (length r.locks) in
      let readers = readers_at r.events k m (length r.threads) (length r.locks) in
      All-append (IsNamed R) (chain_of x lock holds) (reads_of x lock readers)
      (chain_named holds (holds_in r.events (length r.threads) (length r.locks) bounds k m begins within))
      (reads_named readers (readers_in r.events (length r.threads) (length r.locks) bounds k m begins within))

pub prologue_long : (r : Recording) (k m : ℕ) → length (prologue_of r k m) ≡ prologue_size r k m
prologue_long r k m =
    let holds = holds_at r.events k m (length r.threads) (length r.locks) in
    let readers = readers_at r.events k m (length r.threads) (length r.locks) in
    omega (
      arith,
      length-append (chain_of (length r.variables) (length r.locks) holds) (reads_of (length r.variables) (length r.locks) readers),
      chain-length (length r.variables) (length r.locks) holds,
      reads-length (length r.variables) (length r.locks) readers,
    )
