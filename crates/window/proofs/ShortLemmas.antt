-- A prologue is no longer than seventeen times its window.
use Rattle.std.proofs.Common.{◌≡◌, ℕ, zero, suc, ◌+◌, ◌-◌, ◌*◌, ◌≤◌, ◌==◌, ◌&&◌, ◌||◌, Bool, true, false, not, cond, nat_lt, List, [], ◌∷◌, ◌++◌, length, take, count_by, Option, Some, None, refl, ap, ◌∙◌, subst, arith, add-one, eq-eqb, inl, inr}
use Rattle.std.specs.List.{list_any, flat_map, sum_by}
use Rattle.std.proofs.lemmas.Bool.{cases_lt, cases_eq, cases_Bool, and_parts, ne_eqb, lt-ltb, le-ltb}
use Rattle.std.proofs.lemmas.Grind.{flat_map-append}
use Rattle.std.proofs.lemmas.List.{append-nil, length-append, length-replicate}
use Rattle.std.proofs.lemmas.List.Sums.{sum_by-cons, sum_by_push, length-filter}
use Rattle.rapid_text.specs.Operations.{is_acquire, is_release, is_fork}
use Rattle.rapid_text.specs.declared.event.Event.{Event}
use Rattle.rapid_text.specs.declared.event.Op.{Op}
use Rattle.rapid_text.specs.declared.event.Op.TheVariants.{Read, Write, Acquire, Release, Fork, Join}
use Rattle.trace_rules.specs.Rules.{hold_count}
use Rattle.event_index.specs.Lookups.{before}
use Rattle.event_index.proofs.CallerLemmas.{before_more}
use Rattle.schedule.proofs.LatestLemmas.{count_by-same}
use Rattle.window.specs.Made.{part_of, is_on, touch_count, serving, owner, holds_of, holds_at, readers_of, waiting, prologue_length}
use Rattle.window.specs.Laws.{ProloguesAreShort}
use Rattle.window.proofs.HoldsLemmas.{long_part, any_counts}

-- a test for each number, of which an event passes at most one below any j
module _ (test : ℕ → Event → Bool) (single : (j : ℕ) (e : Event) → count_by (λ l. test l e) (before j) ≤ 1) where
  abbrev total : ℕ → List Event → ℕ
  total j es = sum_by (λ l. count_by (test l) es) (before j)

  total_more : (j : ℕ) (es : List Event) → total (j + 1) es ≡ total j es + count_by (test j) es
  total_more j es = ap (sum_by (λ l. count_by (test l) es)) (before_more j) ∙ sum_by_push (λ l. count_by (test l) es) (before j) j

  total_nil : (j : ℕ) → total j [] ≡ 0
  total_nil zero = refl
  total_nil (suc j) = subst (λ (i : ℕ). total i [] ≡ 0) (add-one j) (omega (arith, total_more j [], total_nil j))

  total_cons : (j : ℕ) (e : Event) (es : List Event) → total j (e ∷ es) ≡ count_by (λ l. test l e) (before j) + total j es
  total_cons zero e es = refl
  total_cons (suc j) e es =
      let one : count_by (λ l. test l e) (before (j + 1)) ≡ count_by (λ l. test l e) (before j) + cond (test j e) 1 0 =
      ap (count_by (λ l. test l e)) (before_more j) ∙ sum_by_push (λ l. cond {A = ℕ} (test l e) 1 0) (before j) j in
      subst (λ (i : ℕ). total i (e ∷ es) ≡ count_by (λ l. test l e) (before i) + total i es) (add-one j)
      (omega (arith, one, total_more j (e ∷ es), total_more j es, total_cons j e es, sum_by-cons (λ v. cond {A = ℕ} (test j v) 1 0) e es))

  total_small : (j : ℕ) (es : List Event) → total j es ≤ length es
  total_small j [] = omega (arith, total_nil j)
  total_small j (e ∷ es) = omega (arith, total_cons j e es, single j e, total_small j es)

-- one number at most is k
one_of : (k j : ℕ) → count_by (λ l. k == l) (before j) ≤ cond (nat_lt k j) 1 0
one_of k zero = omega arith
one_of k (suc j) =
    let one : count_by (λ l. k == l) (before (j + 1)) ≡ count_by (λ l. k == l) (before j) + cond (k == j) 1 0 =
    ap (count_by (λ l. k == l)) (before_more j) ∙ sum_by_push (λ l. cond {A = ℕ} (k == l) 1 0) (before j) j in
    let rest = one_of k j in
    subst (λ (i : ℕ). count_by (λ l. k == l) (before i) ≤ cond (nat_lt k i) 1 0) (add-one j)
    (elim (cases_eq k j) [
      | inl same ↦
          let here : cond {A = ℕ} (k == j) 1 0 ≡ 1 = ap (λ b. cond {A = ℕ} b 1 0) (eq-eqb k j same) in
          let none : cond {A = ℕ} (nat_lt k j) 1 0 ≡ 0 = ap (λ b. cond {A = ℕ} b 1 0) (le-ltb k j (omega (arith, same))) in
          let now : cond {A = ℕ} (nat_lt k (j + 1)) 1 0 ≡ 1 = ap (λ b. cond {A = ℕ} b 1 0) (lt-ltb k (j + 1) (omega (arith, same))) in
          omega (arith, one, rest, here, none, now)
      | inr other ↦
          let here : cond {A = ℕ} (k == j) 1 0 ≡ 0 = ap (λ b. cond {A = ℕ} b 1 0) (ne_eqb k j other) in
          elim (cases_lt k j) [
            | inl low ↦
                let none : cond {A = ℕ} (nat_lt k j) 1 0 ≡ 1 = ap (λ b. cond {A = ℕ} b 1 0) (lt-ltb k j low) in
                let now : cond {A = ℕ} (nat_lt k (j + 1)) 1 0 ≡ 1 = ap (λ b. cond {A = ℕ} b 1 0) (lt-ltb k (j + 1) (omega (arith, low))) in
                omega (arith, one, rest, here, none, now)
            | inr le ↦
                let none : cond {A = ℕ} (nat_lt k j) 1 0 ≡ 0 = ap (λ b. cond {A = ℕ} b 1 0) (le-ltb k j le) in
                omega (arith, one, rest, here, none)
          ]
    ])

at_most_one : (b : Bool) → cond {A = ℕ} b 1 0 ≤ 1
at_most_one true = omega arith
at_most_one false = omega arith

none_of : (j : ℕ) → count_by (λ l. false) (before j) ≡ 0
none_of zero = refl
none_of (suc j) =
    subst (λ (i : ℕ). count_by (λ l. false) (before i) ≡ 0) (add-one j)
    (ap (count_by (λ l. false)) (before_more j) ∙ sum_by_push (λ l. cond {A = ℕ} false 1 0) (before j) j ∙ omega (arith, none_of j))

or_none : (b : Bool) → (b || false) ≡ b
or_none true = refl
or_none false = refl

-- an event is on one lock at most
lock_by : (j : ℕ) (op : Op) → count_by (λ l. is_acquire l op || is_release l op) (before j) ≤ 1
lock_by j (Acquire k) =
    omega (arith, one_of k j, at_most_one (nat_lt k j), count_by-same (λ l. (k == l) || false) (λ l. k == l) (λ l. or_none (k == l)) (before j))
lock_by j (Release k) = omega (arith, one_of k j, at_most_one (nat_lt k j))
lock_by j (Read y) = omega (arith, none_of j)
lock_by j (Write y) = omega (arith, none_of j)
lock_by j (Fork u) = omega (arith, none_of j)
lock_by j (Join u) = omega (arith, none_of j)

one_thread_at : (j : ℕ) (e : Event) → count_by (λ t. e.thread == t) (before j) ≤ 1
one_thread_at j e = omega (arith, one_of e.thread j, at_most_one (nat_lt e.thread j))

module _ (T : List Event) (k m threads locks : ℕ) (begins : k ≤ m) (within : m ≤ length T) where
  abbrev L : List Event
  L = part_of T k m

  -- the holds of a lock are at most twice its events
  serving_small : (t l : ℕ) → serving T k m t l ≤ 2 * count_by (is_on l) L
  serving_small t l =
      let h : ℕ = hold_count (take k T) t l in
      let j : ℕ = touch_count T k m l in
      elim (cases_lt (2 * j) h) [
        | inl lt ↦
            let is : serving T k m t l ≡ 2 * j = ap (λ b. cond b (2 * j) h) (lt-ltb (2 * j) h lt) in
            omega (arith, is)
        | inr le ↦
            let is : serving T k m t l ≡ h = ap (λ b. cond b (2 * j) h) (le-ltb (2 * j) h le) in
            omega (arith, is, le)
      ]

  holds_small : (o : Option ℕ) (l : ℕ) → length (holds_of T k m o l) ≤ 2 * count_by (is_on l) L
  holds_small None l = omega arith
  holds_small (Some t) l = omega (arith, serving_small t l, length-replicate {A = ℕ × ℕ} (serving T k m t l) (t, l))

  abbrev piece : ℕ → List (ℕ × ℕ)
  piece l = holds_of T k m (owner T k threads l) l

  pieces_small : (j : ℕ) → length (flat_map piece (before j)) ≤ 2 * total is_on (λ i e. lock_by i e.op) j L
  pieces_small zero = omega arith
  pieces_small (suc j) =
      let more : flat_map piece (before (j + 1)) ≡ flat_map piece (before j) ++ piece j =
      ap (flat_map piece) (before_more j) ∙ flat_map-append piece (before j) (j ∷ []) ∙ ap (λ y. flat_map piece (before j) ++ y) (append-nil (piece j)) in
      let long : length (flat_map piece (before (j + 1))) ≡ length (flat_map piece (before j)) + length (piece j) =
      ap length more ∙ length-append (flat_map piece (before j)) (piece j) in
      subst (λ (i : ℕ). length (flat_map piece (before i)) ≤ 2 * total is_on (λ z e. lock_by z e.op) i L) (add-one j)
      (omega (arith, long, total_more is_on (λ z e. lock_by z e.op) j L, pieces_small j, holds_small (owner T k threads j) j))

  chain_short : length (holds_at T k m threads locks) ≤ 2 * (m - k)
  chain_short = omega (arith, pieces_small locks, total_small is_on (λ z e. lock_by z e.op) locks L, long_part T k m begins within)

  -- the readers are at most as many as the events
  abbrev is_of : ℕ → Event → Bool
  is_of t v = v.thread == t

  abbrev reads : ℕ → Bool
  reads t = list_any (λ v. v.thread == t) L && not (list_any (λ v. is_fork t v.op) L)

  readers_up : (j : ℕ) → count_by reads (before j) ≤ total is_of (λ i e. one_thread_at i e) j L
  readers_up zero = omega arith
  readers_up (suc j) =
      let one : count_by reads (before (j + 1)) ≡ count_by reads (before j) + cond (reads j) 1 0 =
      ap (count_by reads) (before_more j) ∙ sum_by_push (λ t. cond {A = ℕ} (reads t) 1 0) (before j) j in
      let here : cond {A = ℕ} (reads j) 1 0 ≤ count_by (is_of j) L =
      elim (cases_Bool (reads j)) [
        | inl so ↦
            let now : cond {A = ℕ} (reads j) 1 0 ≡ 1 = ap (λ b. cond {A = ℕ} b 1 0) so in
            omega (arith, now, any_counts (is_of j) L (and_parts (list_any (λ v. v.thread == j) L) (not (list_any (λ v. is_fork j v.op) L)) so).0)
        | inr fails ↦
            let now : cond {A = ℕ} (reads j) 1 0 ≡ 0 = ap (λ b. cond {A = ℕ} b 1 0) fails in
            omega (arith, now)
      ] in
      subst (λ (i : ℕ). count_by reads (before i) ≤ total is_of (λ z e. one_thread_at z e) i L) (add-one j)
      (omega (arith, one, here, readers_up j, total_more is_of (λ z e. one_thread_at z e) j L))

  readers_short : length (readers_of T k m threads) ≤ m - k
  readers_short =
      omega (arith, length-filter reads (before threads), readers_up threads, total_small is_of (λ z e. one_thread_at z e) threads L, long_part T k m begins within)

  waiting_short : (holds : List (ℕ × ℕ)) (readers : List ℕ) → length (waiting holds readers) ≤ length readers
  waiting_short [] readers = omega arith
  waiting_short (h ∷ holds) readers = omega arith

  pub short : prologue_length T k m threads locks ≤ 17 * (m - k)
  short = omega (arith, chain_short, readers_short, waiting_short (holds_at T k m threads locks) (readers_of T k m threads))

pub short_law : ProloguesAreShort
short_law T k m threads locks begins within = short T k m threads locks begins within
