-- An exchange of two independent neighbours exchanges what their places shadow, and leaves the other tables.
use Rattle.std.proofs.Common.{◌≡◌, ◌≢◌, ℕ, ◌+◌, ◌-◌, ◌<◌, ◌≤◌, nat_eq, Bool, true, cond, List, [], ◌∷◌, ◌++◌, length, take, drop, reverse, get_or, set, find, count_by, Option, Some, None, slice_get, sym, refl, ap, ◌∙◌, subst, arith, inl, inr, get_or-set_other}
use Rattle.std.specs.List.{swap}
use Rattle.std.specs.Option.{option_or}
use Rattle.std.proofs.lemmas.Bool.{cases_eq, cases_lt, eq-eqb, ne_eqb, false_from_ne_true, or_left, or_right, cond-true, cond-false}
use Rattle.std.proofs.lemmas.List.{length_push, length-take-le, reverse-append, take-take, take_more}
use Rattle.std.proofs.lemmas.List.Edits.{swap_is}
use Rattle.std.proofs.lemmas.List.Folds.{find-append}
use Rattle.std.proofs.lemmas.List.Sums.{sum_by-append}
use Rattle.std.proofs.Math.Seq.{take-append-add}
use Rattle.rapid_text.specs.Operations.{is_read, is_write, is_acquire, is_release}
use Rattle.rapid_text.specs.declared.event.Event.{Event}
use Rattle.event_index.specs.Events.{passes_by, is_of_thread}
use Rattle.event_index.specs.Tables.{IsTable}
use Rattle.event_index.specs.Relations.{IsIndependent}
use Rattle.event_index.proofs.CallerLemmas.{get_or-IsTable, IsTable-set, IsIndependent-sym}
use Rattle.schedule.specs.Swaps.{exchanged, MayExchange}
use Rattle.schedule.specs.Counts.{count_in, AreByThread}
use Rattle.schedule.specs.LatestTables.{held}
use Rattle.schedule.specs.Tables.{AreTables, sets_op, sets, frees, last_set, latest_by, latest_of, shadow_of, shadow_at, shadow_by}
use Rattle.schedule.specs.declared.latest.Key.{Key}
use Rattle.schedule.specs.declared.latest.Key.TheVariants.{Variable, Lock}
use Rattle.schedule.specs.declared.tables.Tables.{Tables}
use Rattle.schedule.proofs.ExchangeLemmas.{at_pair, exchanged-at_pair, get_or-exchanged_first, get_or-exchanged_second, take-exchanged, length-exchanged, stores}
use Rattle.schedule.proofs.LatestLemmas.{shadow_of_op-own, sets_variable, sets_lock}
use Rattle.schedule.proofs.LockLemmas.{find-reverse_push, counts_push}
use Rattle.schedule.proofs.SwapLemmas.{last_of_either}

-- a table with two places exchanged
IsTable-swap :
    {X : Type 0} (f g : ℕ → X) (n : ℕ) (xs : List X) (i : ℕ) → i + 1 < n → IsTable f n xs
    → f (i + 1) ≡ g i → f i ≡ g (i + 1) → ((k : ℕ) → k < n → k ≢ i → k ≢ i + 1 → f k ≡ g k)
    → IsTable g n (swap xs i (i + 1))
IsTable-swap {X} f g n xs i within table first second others =
    let d : X = f 0 in
    let h : ℕ → X = λ k. cond (nat_eq k i) (f (i + 1)) (f k) in
    let h_here : f (i + 1) ≡ h i = sym (cond-true (nat_eq i i) (f (i + 1)) (f i) (eq-eqb i i refl)) in
    let h_other : (k : ℕ) → k ≢ i → f k ≡ h k = λ k other. sym (cond-false (nat_eq k i) (f (i + 1)) (f k) (ne_eqb k i other)) in
    let once : IsTable h n (set xs i (get_or xs (i + 1) d)) =
    IsTable-set f h n xs i (get_or xs (i + 1) d) table (get_or-IsTable f n xs table (i + 1) d within ∙ h_here) (λ k _ other. h_other k other) in
    subst (IsTable g n) (swap_is xs i (i + 1) d (omega (arith, table.len)) (omega (arith, table.len)))
    (IsTable-set h g n (set xs i (get_or xs (i + 1) d)) (i + 1) (get_or xs i d) once
    (get_or-IsTable f n xs table i d (omega arith) ∙ second)
    (λ k lt other.
    elim (cases_eq k i) [
      | inl same ↦ ap h same ∙ sym h_here ∙ first ∙ ap g (sym same)
      | inr apart ↦ sym (h_other k apart) ∙ others k lt apart other
    ]))

-- what two lists find last alike, they find alike with the same after them
find-reverse_after : (p : ℕ → Bool) (X Y B : List ℕ) → find p (reverse X) ≡ find p (reverse Y) → find p (reverse (X ++ B)) ≡ find p (reverse (Y ++ B))
find-reverse_after p X Y B same =
    ap (find p) (reverse-append X B)
    ∙ find-append p (reverse B) (reverse X)
    ∙ ap (option_or (find p (reverse B))) same
    ∙ sym (find-append p (reverse B) (reverse Y))
    ∙ sym (ap (find p) (reverse-append Y B))

find-pair : (p : ℕ → Bool) (A : List ℕ) (a b : ℕ) → (p a ≡ true → p b ≡ true → ⊥) → find p (reverse ((A ++ b ∷ []) ++ a ∷ [])) ≡ find p (reverse ((A ++ a ∷ []) ++ b ∷ []))
find-pair p A a b never =
    find-reverse_push p (A ++ b ∷ []) a
    ∙ ap (cond (p a) (Some a)) (find-reverse_push p A b)
    ∙ sym (last_of_either (p a) (p b) a b (find p (reverse A)) never)
    ∙ sym (find-reverse_push p (A ++ a ∷ []) b ∙ ap (cond (p b) (Some b)) (find-reverse_push p A a))

count-pair : (p : ℕ → Bool) (A B : List ℕ) (a b : ℕ) → count_by p (((A ++ b ∷ []) ++ a ∷ []) ++ B) ≡ count_by p (((A ++ a ∷ []) ++ b ∷ []) ++ B)
count-pair p A B a b =
    omega (
      arith,
      sum_by-append (λ d. cond (p d) 1 0) ((A ++ b ∷ []) ++ a ∷ []) B,
      sum_by-append (λ d. cond (p d) 1 0) ((A ++ a ∷ []) ++ b ∷ []) B,
      counts_push p (A ++ b ∷ []) a,
      counts_push p A b,
      counts_push p (A ++ a ∷ []) b,
      counts_push p A a,
    )

take-past : (X B : List ℕ) (n j : ℕ) → length X ≡ n → n ≤ j → take j (X ++ B) ≡ X ++ take (j - n) B
take-past X B n j long le =
    let whole : j ≡ length X + (j - n) = omega (arith, long) in
    ap (λ m. take m (X ++ B)) whole ∙ take-append-add X B (j - n)

shadow_by-same : (f g : Key → Option ℕ) → ((q : Key) → f q ≡ g q) → (o : Option Event) → shadow_by f o ≡ shadow_by g o
shadow_by-same f g same None = refl
shadow_by-same f g same (Some v) = shadow_of_op-own f g v.op (λ q _. same q)

module _ (T : List Event) (a b : ℕ) (i : IsIndependent T a b) where
  -- independent events set no common key
  not_both : (q : Key) → sets T q a ≡ true → sets T q b ≡ true → ⊥
  not_both (Variable x) on_a on_b =
      let first : is_write x i.v.op ≡ true = sym (ap (passes_by (λ (w : Event). is_write x w.op)) i.first) ∙ sym (sets_variable T x a) ∙ on_a in
      let second : is_write x i.w.op ≡ true = sym (ap (passes_by (λ (w : Event). is_write x w.op)) i.second) ∙ sym (sets_variable T x b) ∙ on_b in
      i.apart.no_clash
      (record {
        threads = i.apart.threads;
        variable = x;
        first = or_right (is_read x i.v.op) (is_write x i.v.op) first;
        second = or_right (is_read x i.w.op) (is_write x i.w.op) second;
        writes = or_left (is_write x i.v.op) (is_write x i.w.op) first;
      })
  not_both (Lock l) on_a on_b =
      let first : is_acquire l i.v.op ≡ true = sym (ap (passes_by (λ (w : Event). is_acquire l w.op)) i.first) ∙ sym (sets_lock T l a) ∙ on_a in
      let second : is_acquire l i.w.op ≡ true = sym (ap (passes_by (λ (w : Event). is_acquire l w.op)) i.second) ∙ sym (sets_lock T l b) ∙ on_b in
      i.apart.no_lock l
      (or_left (is_acquire l i.v.op) (is_release l i.v.op) first)
      (or_left (is_acquire l i.w.op) (is_release l i.w.op) second)

  -- so the second shadows the same whether or not the first stands before it
  shadow_at-past : (A : List ℕ) → shadow_at T (A ++ a ∷ []) b ≡ shadow_at T A b
  shadow_at-past A =
      ap (shadow_by (last_set T (A ++ a ∷ []))) i.second
      ∙ shadow_of_op-own (last_set T (A ++ a ∷ [])) (last_set T A) i.w.op
      (λ q sets_w.
      let on_b : sets T q b ≡ true = ap (passes_by (λ (x : Event). sets_op q x.op)) i.second ∙ sets_w in
      find-reverse_push (sets T q) A a
      ∙ cond-false (sets T q a) (Some a) (last_set T A q) (false_from_ne_true (sets T q a) (λ on_a. not_both q on_a on_b)))
      ∙ sym (ap (shadow_by (last_set T A)) i.second)

module _ (T : List Event) (P : List ℕ) (i : ℕ) (may : MayExchange T P i) where
  abbrev a : ℕ
  a = get_or P i 0

  abbrev b : ℕ
  b = get_or P (i + 1) 0

  abbrev A : List ℕ
  A = take i P

  abbrev B : List ℕ
  B = drop (i + 2) P

  abbrev Q : List ℕ
  Q = exchanged P i

  count_exchanged : (p : ℕ → Bool) → count_by p Q ≡ count_by p P
  count_exchanged p =
      ap (count_by p) (exchanged-at_pair P i may.within) ∙ count-pair p A B a b ∙ sym (ap (count_by p) (at_pair P i may.within))

  never : (q : Key) → sets T q a ≡ true → sets T q b ≡ true → ⊥
  never q = not_both T a b may.apart q

  last_set-exchanged : (q : Key) → last_set T Q q ≡ last_set T P q
  last_set-exchanged q =
      ap (λ l. find (sets T q) (reverse l)) (exchanged-at_pair P i may.within)
      ∙ find-reverse_after (sets T q) ((A ++ b ∷ []) ++ a ∷ []) ((A ++ a ∷ []) ++ b ∷ []) B (find-pair (sets T q) A a b (never q))
      ∙ sym (ap (λ l. find (sets T q) (reverse l)) (at_pair P i may.within))

  latest_of-exchanged : (q : Key) → latest_of T P q ≡ latest_of T Q q
  latest_of-exchanged q =
      sym
      (ap (λ o. latest_by o (count_by (sets T q) Q) (count_by (frees T q) Q)) (last_set-exchanged q)
      ∙ ap (λ n. latest_by (last_set T P q) n (count_by (frees T q) Q)) (count_exchanged (sets T q))
      ∙ ap (latest_by (last_set T P q) (count_by (sets T q) P)) (count_exchanged (frees T q)))

  long : (x y : ℕ) → length ((A ++ x ∷ []) ++ y ∷ []) ≡ i + 2
  long x y =
      omega (
        arith,
        length_push (A ++ x ∷ []) y,
        length_push A x,
        length-take-le i P (omega (arith, may.within)),
      )

  -- the same stands before each other place, but for the order of the two
  last_set-take : (j : ℕ) (q : Key) → i + 2 ≤ j → last_set T (take j Q) q ≡ last_set T (take j P) q
  last_set-take j q le =
      ap (λ l. find (sets T q) (reverse (take j l))) (exchanged-at_pair P i may.within)
      ∙ ap (λ l. find (sets T q) (reverse l)) (take-past ((A ++ b ∷ []) ++ a ∷ []) B (i + 2) j (long b a) le)
      ∙ find-reverse_after (sets T q) ((A ++ b ∷ []) ++ a ∷ []) ((A ++ a ∷ []) ++ b ∷ []) (take (j - (i + 2)) B) (find-pair (sets T q) A a b (never q))
      ∙ sym (ap (λ l. find (sets T q) (reverse l)) (take-past ((A ++ a ∷ []) ++ b ∷ []) B (i + 2) j (long a b) le))
      ∙ sym (ap (λ l. find (sets T q) (reverse (take j l))) (at_pair P i may.within))

  same_element : (j : ℕ) → j ≢ i → j ≢ i + 1 → get_or Q j 0 ≡ get_or P j 0
  same_element j first second =
      ap (λ l. get_or l j 0) (stores P i may.within)
      ∙ get_or-set_other (set P i b) (i + 1) j a 0 second
      ∙ get_or-set_other P i j b 0 first

  shadow_of-other : (j : ℕ) → j ≢ i → j ≢ i + 1 → shadow_of T P j ≡ shadow_of T Q j
  shadow_of-other j first second =
      elim (cases_lt j i) [
        | inl below ↦
            let front : take j Q ≡ take j P =
            sym (take-take j i Q (omega arith)) ∙ ap (take j) (take-exchanged P i may.within) ∙ take-take j i P (omega arith) in
            sym (ap (λ l. shadow_at T l (get_or Q j 0)) front ∙ ap (shadow_at T (take j P)) (same_element j first second))
        | inr above ↦
            let le : i + 2 ≤ j = omega (arith, above, first, second) in
            sym
            (ap (shadow_at T (take j Q)) (same_element j first second)
            ∙ shadow_by-same (last_set T (take j Q)) (last_set T (take j P)) (λ q. last_set-take j q le) (slice_get T (get_or P j 0)))
      ]

  -- the second of the two shadows the same when it stands first, and the first when it stands second
  shadow_of-second : shadow_of T P (i + 1) ≡ shadow_of T Q i
  shadow_of-second =
      ap (λ l. shadow_at T l b) (take_more P i 0 (omega (arith, may.within)))
      ∙ shadow_at-past T a b may.apart A
      ∙ sym (ap (λ l. shadow_at T l (get_or Q i 0)) (take-exchanged P i may.within) ∙ ap (shadow_at T A) (get_or-exchanged_first P i may.within))

  shadow_of-first : shadow_of T P i ≡ shadow_of T Q (i + 1)
  shadow_of-first =
      let front : take (i + 1) Q ≡ A ++ b ∷ [] =
      take_more Q i 0 (omega (arith, may.within, length-exchanged P i))
      ∙ ap (λ l. l ++ get_or Q i 0 ∷ []) (take-exchanged P i may.within)
      ∙ ap (λ e. A ++ e ∷ []) (get_or-exchanged_first P i may.within) in
      sym
      (ap (λ l. shadow_at T l (get_or Q (i + 1) 0)) front
      ∙ ap (shadow_at T (A ++ b ∷ [])) (get_or-exchanged_second P i may.within)
      ∙ shadow_at-past T b a (IsIndependent-sym T a b may.apart) A)

  pub AreTables-exchanged :
      (s after : Tables) → AreTables T P s → after.counts ≡ s.counts → after.latest ≡ s.latest
      → after.shadows.items ≡ swap s.shadows.items i (i + 1) → AreTables T Q after
  AreTables-exchanged s after tables counts latest shadows = record {
    order = subst (λ c. AreByThread c.items) (sym counts) tables.order;
    counts = λ t. ap (λ c. count_in c.items t) counts ∙ tables.counts t ∙ sym (count_exchanged (is_of_thread T t));
    latest = λ q. ap (λ m. held m q) latest ∙ tables.latest q ∙ latest_of-exchanged q;
    shadows = subst (IsTable (shadow_of T Q) (length Q)) (sym shadows)
        (subst (λ (n : ℕ). IsTable (shadow_of T Q) n (swap s.shadows.items i (i + 1))) (sym (length-exchanged P i))
        (IsTable-swap (shadow_of T P) (shadow_of T Q) (length P) s.shadows.items i may.within tables.shadows shadow_of-second shadow_of-first (λ k _ first second. shadow_of-other k first second)));
  }
