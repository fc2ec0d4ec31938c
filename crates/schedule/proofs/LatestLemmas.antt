-- What one event more, or one less, makes of what is kept of a variable or a lock.
use Rattle.std.proofs.Common.{◌≡◌, ℕ, ◌+◌, ◌-◌, ◌≤◌, Bool, true, false, cond, List, [], ◌∷◌, ◌++◌, length, reverse, find, count_by, Option, Some, None, slice_get, sym, refl, ap, ◌∙◌, arith, inl, inr}
use Rattle.std.proofs.lemmas.Bool.{cases_Bool, eqb-true, false≢true, cond-true, cond-false}
use Rattle.std.proofs.lemmas.List.Sums.{count_by-le-length, sum_by-cons}
use Rattle.std.proofs.lemmas.Option.{none-some, same_Some}
use Rattle.rapid_text.specs.Operations.{is_write, is_acquire, is_release}
use Rattle.rapid_text.specs.declared.event.Event.{Event}
use Rattle.rapid_text.specs.declared.event.Op.{Op}
use Rattle.rapid_text.specs.declared.event.Op.TheVariants.{Write, Acquire, Release}
use Rattle.event_index.specs.Events.{passes_by, is_write_at}
use Rattle.schedule.specs.Locks.{is_acquire_at, is_release_at}
use Rattle.schedule.specs.Keys.{key_eq, key_eq_equiv}
use Rattle.schedule.specs.Tables.{sets_op, frees_op, sets, frees, last_set, latest_by, latest_of, shadow_of_op, shadow_by, shadow_at, event_of, depth_of, covered, lowered, raised, uncovered, stepped, stepped_back}
use Rattle.schedule.specs.declared.latest.Key.{Key}
use Rattle.schedule.specs.declared.latest.Key.TheVariants.{Variable, Lock}
use Rattle.schedule.specs.declared.latest.Latest.{Latest}
use Rattle.schedule.proofs.LockLemmas.{AtEach-grows, find-reverse_push, counts_push}

-- two tests that agree count the same
pub count_by-same : (p r : ℕ → Bool) → ((x : ℕ) → p x ≡ r x) → (xs : List ℕ) → count_by p xs ≡ count_by r xs
count_by-same p r same [] = refl
count_by-same p r same (x ∷ xs) =
    sum_by-cons (λ y. cond (p y) 1 0) x xs
    ∙ ap (λ b. cond b 1 0 + count_by p xs) (same x)
    ∙ ap (λ n. cond (r x) 1 0 + n) (count_by-same p r same xs)
    ∙ sym (sum_by-cons (λ y. cond (r y) 1 0) x xs)

-- what is not found is not counted
pub none_counted : (p : ℕ → Bool) (P : List ℕ) → find p (reverse P) ≡ None → count_by p P ≡ 0
none_counted p P =
    AtEach-grows (λ xs. find p (reverse xs) ≡ None → count_by p xs ≡ 0) (λ _ _. Unit {0}) P (λ _. refl)
    (λ xs e earlier _ none.
    elim (cases_Bool (p e)) [
      | inl passes ↦
          absurd (none-some e (sym none ∙ find-reverse_push p xs e ∙ cond-true (p e) (Some e) (find p (reverse xs)) passes))
      | inr fails ↦
          let before : count_by p xs ≡ 0 =
          earlier (sym (cond-false (p e) (Some e) (find p (reverse xs)) fails) ∙ sym (find-reverse_push p xs e) ∙ none) in
          counts_push p xs e ∙ ap (λ b. count_by p xs + cond b 1 0) fails ∙ omega (arith, before)
    ])
    (λ _ _. tt)

-- keys that the test finds alike are the same
pub key_eq-true : (k q : Key) → key_eq k q ≡ true → k ≡ q
key_eq-true (Variable x) (Variable y) h = ap Variable (eqb-true x y h)
key_eq-true (Variable x) (Lock y) h = absurd (false≢true h)
key_eq-true (Lock x) (Variable y) h = absurd (false≢true h)
key_eq-true (Lock x) (Lock y) h = ap Lock (eqb-true x y h)

-- an operation that sets a key frees none
set_not_freed : (op : Op) (q : Key) → sets_op q op ≡ true → frees_op q op ≡ false
set_not_freed (Release l) q h = absurd (false≢true h)
set_not_freed op q h = refl

-- what it shadows is what stood at the key that it sets
shadow_of_op-set : (op : Op) (q : Key) (last : Key → Option ℕ) → sets_op q op ≡ true → shadow_of_op last op ≡ last q
shadow_of_op-set (Write x) q last h = ap last (key_eq-true (Variable x) q h)
shadow_of_op-set (Acquire l) q last h = ap last (key_eq-true (Lock l) q h)
shadow_of_op-set op q last h = absurd (false≢true h)

-- the shadow of an operation goes by its own key
pub shadow_of_op-own : (f g : Key → Option ℕ) (op : Op) → ((q : Key) → sets_op q op ≡ true → f q ≡ g q) → shadow_of_op f op ≡ shadow_of_op g op
shadow_of_op-own f g (Write x) own = own (Variable x) (key_eq_equiv.refl (Variable x))
shadow_of_op-own f g (Acquire l) own = own (Lock l) (key_eq_equiv.refl (Lock l))
shadow_of_op-own f g op own = refl

-- one step at one key, by what the operation does there: `a` settings, `r` freeings so far
latest_after :
    (s f : Bool) (e : ℕ) (last : Option ℕ) (a r : ℕ)
    → (s ≡ true → f ≡ false) → r ≤ a → (last ≡ None → a ≡ 0)
    → latest_by (cond s (Some e) last) (a + cond s 1 0) (r + cond f 1 0)
    ≡ cond s (covered e (latest_by last a r)) (cond f (lowered (latest_by last a r)) (latest_by last a r))
latest_after true true e last a r one le none = absurd (false≢true (sym (one refl)))
latest_after true false e None a r one le none =
    let zero_sets = none refl in
    let d : (a + 1) - (r + 0) ≡ 0 + 1 = omega arith in
    ap (λ n. Some (record { event = e; depth = n })) d
latest_after true false e (Some s) a r one le none =
    let d : (a + 1) - (r + 0) ≡ (a - r) + 1 = omega arith in
    ap (λ n. Some (record { event = e; depth = n })) d
latest_after false true e None a r one le none = refl
latest_after false true e (Some s) a r one le none =
    let d : (a + 0) - (r + 1) ≡ (a - r) - 1 = omega arith in
    ap (λ n. Some (record { event = s; depth = n })) d
latest_after false false e None a r one le none = refl
latest_after false false e (Some s) a r one le none =
    let d : (a + 0) - (r + 0) ≡ a - r = omega arith in
    ap (λ n. Some (record { event = s; depth = n })) d

latest_same : (s t m n : ℕ) → s ≡ t → m ≡ n → ◌≡◌ {A = Option Latest} (Some (record { event = s; depth = m })) (Some (record { event = t; depth = n }))
latest_same s t m n one other = ap (λ k. Some (record { event = s; depth = k })) other ∙ ap (λ k. Some (record { event = k; depth = n })) one

latest_before :
    (s f : Bool) (e : ℕ) (shadow last : Option ℕ) (a r : ℕ)
    → (s ≡ true → f ≡ false) → (s ≡ true → shadow ≡ last) → r ≤ a → r + cond f 1 0 ≤ a + cond s 1 0
    → cond s (uncovered shadow (latest_by (cond s (Some e) last) (a + cond s 1 0) (r + cond f 1 0)))
    (cond f (raised (latest_by (cond s (Some e) last) (a + cond s 1 0) (r + cond f 1 0))) (latest_by (cond s (Some e) last) (a + cond s 1 0) (r + cond f 1 0)))
    ≡ latest_by last a r
latest_before true true e shadow last a r one shadowed le le_after = absurd (false≢true (sym (one refl)))
latest_before true false e None None a r one shadowed le le_after = refl
latest_before true false e None (Some s) a r one shadowed le le_after = absurd (none-some s (shadowed refl))
latest_before true false e (Some s) None a r one shadowed le le_after = absurd (none-some s (sym (shadowed refl)))
latest_before true false e (Some s) (Some t) a r one shadowed le le_after =
    let same : s ≡ t = same_Some s t (shadowed refl) in
    let d : (a + 1 - (r + 0)) - 1 ≡ a - r = omega arith in
    latest_same s t ((a + 1 - (r + 0)) - 1) (a - r) same d
latest_before false true e shadow None a r one shadowed le le_after = refl
latest_before false true e shadow (Some s) a r one shadowed le le_after =
    let d : (a + 0 - (r + 1)) + 1 ≡ a - r = omega (arith, le_after) in
    ap (λ n. Some (record { event = s; depth = n })) d
latest_before false false e shadow None a r one shadowed le le_after = refl
latest_before false false e shadow (Some s) a r one shadowed le le_after =
    let d : (a + 0) - (r + 0) ≡ a - r = omega arith in
    ap (λ n. Some (record { event = s; depth = n })) d

-- the event e, an operation of the trace, after the list
module _ (T : List Event) (P : List ℕ) (e : ℕ) (v : Event) (found : slice_get T e ≡ Some v) (q : Key) where
  pub set_is : sets T q e ≡ sets_op q v.op
  set_is = ap (passes_by (λ w. sets_op q w.op)) found

  pub free_is : frees T q e ≡ frees_op q v.op
  free_is = ap (passes_by (λ w. frees_op q w.op)) found

  pub last_set-push : last_set T (P ++ e ∷ []) q ≡ cond (sets_op q v.op) (Some e) (last_set T P q)
  last_set-push = find-reverse_push (sets T q) P e ∙ ap (λ b. cond b (Some e) (last_set T P q)) set_is

  sets-push : count_by (sets T q) (P ++ e ∷ []) ≡ count_by (sets T q) P + cond (sets_op q v.op) 1 0
  sets-push = counts_push (sets T q) P e ∙ ap (λ b. count_by (sets T q) P + cond b 1 0) set_is

  frees-push : count_by (frees T q) (P ++ e ∷ []) ≡ count_by (frees T q) P + cond (frees_op q v.op) 1 0
  frees-push = counts_push (frees T q) P e ∙ ap (λ b. count_by (frees T q) P + cond b 1 0) free_is

  latest_of-parts : latest_of T (P ++ e ∷ []) q ≡ latest_by (cond (sets_op q v.op) (Some e) (last_set T P q)) (count_by (sets T q) P + cond (sets_op q v.op) 1 0) (count_by (frees T q) P + cond (frees_op q v.op) 1 0)
  latest_of-parts =
      ap (λ o. latest_by o (count_by (sets T q) (P ++ e ∷ [])) (count_by (frees T q) (P ++ e ∷ []))) last_set-push
      ∙ ap (λ n. latest_by (cond (sets_op q v.op) (Some e) (last_set T P q)) n (count_by (frees T q) (P ++ e ∷ []))) sets-push
      ∙ ap (latest_by (cond (sets_op q v.op) (Some e) (last_set T P q)) (count_by (sets T q) P + cond (sets_op q v.op) 1 0)) frees-push

  pub shadow_at-op : shadow_at T P e ≡ shadow_of_op (last_set T P) v.op
  shadow_at-op = ap (shadow_by (last_set T P)) found

  pub latest_of-push : count_by (frees T q) P ≤ count_by (sets T q) P → latest_of T (P ++ e ∷ []) q ≡ stepped v.op e q (latest_of T P q)
  latest_of-push le =
      latest_of-parts
      ∙ latest_after (sets_op q v.op) (frees_op q v.op) e (last_set T P q) (count_by (sets T q) P) (count_by (frees T q) P) (set_not_freed v.op q) le (none_counted (sets T q) P)

  pub latest_of-back :
      count_by (frees T q) P ≤ count_by (sets T q) P
      → count_by (frees T q) (P ++ e ∷ []) ≤ count_by (sets T q) (P ++ e ∷ [])
      → stepped_back v.op (shadow_at T P e) q (latest_of T (P ++ e ∷ []) q) ≡ latest_of T P q
  latest_of-back le le_after =
      ap (stepped_back v.op (shadow_at T P e) q) latest_of-parts
      ∙ latest_before (sets_op q v.op) (frees_op q v.op) e (shadow_at T P e) (last_set T P q) (count_by (sets T q) P) (count_by (frees T q) P)
      (set_not_freed v.op q)
      (λ h. shadow_at-op ∙ shadow_of_op-set v.op q (last_set T P) h)
      le
      (omega (arith, le_after, sets-push, frees-push))

-- the parts of what stands at a key
pub event_of-latest : (last : Option ℕ) (a r : ℕ) → event_of (latest_by last a r) ≡ last
event_of-latest None a r = refl
event_of-latest (Some e) a r = refl

depth_of-latest : (last : Option ℕ) (a r : ℕ) → depth_of (latest_by last a r) ≤ a
depth_of-latest None a r = omega arith
depth_of-latest (Some e) a r = omega arith

pub depth-within : (T : List Event) (P : List ℕ) (q : Key) → depth_of (latest_of T P q) ≤ length P
depth-within T P q =
    omega (
      arith,
      depth_of-latest (last_set T P q) (count_by (sets T q) P) (count_by (frees T q) P),
      count_by-le-length (sets T q) P,
    )

-- a variable is set by its writes alone, a lock by its acquires, and freed by its releases
set_by_write : (x : ℕ) (op : Op) → sets_op (Variable x) op ≡ is_write x op
set_by_write x (Write y) = refl
set_by_write x op = refl

set_by_acquire : (l : ℕ) (op : Op) → sets_op (Lock l) op ≡ is_acquire l op
set_by_acquire l (Acquire m) = refl
set_by_acquire l op = refl

freed_by_release : (l : ℕ) (op : Op) → frees_op (Lock l) op ≡ is_release l op
freed_by_release l (Release m) = refl
freed_by_release l op = refl

never_freed : (x : ℕ) (op : Op) → frees_op (Variable x) op ≡ false
never_freed x (Release l) = refl
never_freed x op = refl

passes_same : (p r : Event → Bool) → ((v : Event) → p v ≡ r v) → (o : Option Event) → passes_by p o ≡ passes_by r o
passes_same p r same None = refl
passes_same p r same (Some v) = same v

pub sets_variable : (T : List Event) (x e : ℕ) → sets T (Variable x) e ≡ is_write_at T x e
sets_variable T x e =
    passes_same (λ v. sets_op (Variable x) v.op) (λ v. is_write x v.op) (λ v. set_by_write x v.op) (slice_get T e)

pub sets_lock : (T : List Event) (l e : ℕ) → sets T (Lock l) e ≡ is_acquire_at T l e
sets_lock T l e =
    passes_same (λ v. sets_op (Lock l) v.op) (λ v. is_acquire l v.op) (λ v. set_by_acquire l v.op) (slice_get T e)

pub frees_lock : (T : List Event) (l e : ℕ) → frees T (Lock l) e ≡ is_release_at T l e
frees_lock T l e =
    passes_same (λ v. frees_op (Lock l) v.op) (λ v. is_release l v.op) (λ v. freed_by_release l v.op) (slice_get T e)

-- no event frees a variable
pub frees_variable : (T : List Event) (x e : ℕ) → frees T (Variable x) e ≡ false
frees_variable T x e = never (slice_get T e)
  where
    never : (o : Option Event) → passes_by (λ v. frees_op (Variable x) v.op) o ≡ false
    never None = refl
    never (Some v) = never_freed x v.op

pub never_counted : (p : ℕ → Bool) → ((x : ℕ) → p x ≡ false) → (P : List ℕ) → count_by p P ≡ 0
never_counted p fails [] = refl
never_counted p fails (x ∷ P) =
    sum_by-cons (λ y. cond (p y) 1 0) x P ∙ ap (λ b. cond b 1 0 + count_by p P) (fails x) ∙ omega (arith, never_counted p fails P)
