-- Counts and tests of a list of events, with one more event; and a list after a write.
use Rattle.std.proofs.Common.{replicate, zero, suc, ◌≡◌, ◌≢◌, ℕ, ◌+◌, ◌<◌, ◌==◌, Bool, true, false, not, ◌&&◌, ◌||◌, cond, ltb, List, [], ◌∷◌, ◌++◌, length, get_or, set, slice_get, Some, ◌⊎◌, get_or-set_same, get_or-set_other, length-set, count_by, refl, sym, ap, ap₂, ◌∙◌, arith, eq-eqb, ne_eqb, eqb-true, lt-ltb, ltb-true, inl, inr}
use Rattle.std.specs.List.{list_any}
use Rattle.std.proofs.lemmas.Option.{none-some, same_Some, slice_get-get_or, slice_get_within, get_or_from_slice_get}
use Rattle.std.proofs.lemmas.Bool.{cases_eq, cases_Bool, and_parts, and_left, and_right, true≢false}
use Rattle.std.proofs.lemmas.Bool.Decides.{nat_tests}
use Rattle.std.proofs.lemmas.List.Sums.{sum_by_push, sum_by-cons}
use Rattle.std.proofs.lemmas.List.Folds.{list_any-append, list_any_none}
use Rattle.std.proofs.Math.Bool.{and-true, or-false, or-true}
use Rattle.rapid_text.specs.Operations.{is_acquire}
use Rattle.rapid_text.specs.declared.event.Event.{Event}
use Rattle.rapid_text.specs.declared.event.Op.{Op}
use Rattle.trace_rules.specs.Rules.{hold_count}

-- what stands at a place after a write: the new element, or the old one elsewhere
pub slice_get-set : {X : Type 0} (xs : List X) (i k : ℕ) (y x : X) → i < length xs
    → slice_get (set xs i y) k ≡ Some x → ((k ≡ i) × (y ≡ x)) ⊎ ((k ≢ i) × (slice_get xs k ≡ Some x))
slice_get-set xs i k y x within is =
    let inside : k < length xs = omega (arith, slice_get_within (set xs i y) k x is, length-set xs i y) in
    elim (cases_eq k i) [
      | inl same ↦ inl (same, sym (get_or-set_same xs i y x within) ∙ ap (λ j. get_or (set xs i y) j x) (sym same) ∙ get_or_from_slice_get (set xs i y) k x x is)
      | inr other ↦ inr (other, slice_get-get_or xs k x inside ∙ ap Some (sym (get_or-set_other xs i k y x other) ∙ get_or_from_slice_get (set xs i y) k x x is))
    ]

-- each element of a list of one element is that element
pub slice_get-replicate : {X : Type 0} (n k : ℕ) (x y : X) → slice_get (replicate n x) k ≡ Some y → x ≡ y
slice_get-replicate zero k x y is = absurd (none-some y is)
slice_get-replicate (suc n) zero x y is = same_Some x y is
slice_get-replicate (suc n) (suc k) x y is = slice_get-replicate n k x y is

-- some element passes where one did before, or where the new one does
pub list_any_push : {X : Type 0} (p : X → Bool) (xs : List X) (y : X) → list_any p (xs ++ y ∷ []) ≡ (list_any p xs || p y)
list_any_push p xs y = list_any-append p xs (y ∷ []) ∙ ap (λ b. list_any p xs || b) (or-false (p y))

-- what counts above 0 is there, and passes each weaker test
pub list_any-from_count : {X : Type 0} (p q : X → Bool) (xs : List X) → ((x : X) → p x ≡ true → q x ≡ true) → 0 < count_by p xs → list_any q xs ≡ true
list_any-from_count p q [] h above = absurd (omega arith)
list_any-from_count p q (x ∷ xs) h above =
    elim (cases_Bool (p x)) [
      | inl there ↦ ap (λ b. b || list_any q xs) (h x there)
      | inr none ↦
          let more : 0 < count_by p xs = omega (arith, above, sum_by-cons (λ x. cond (p x) 1 0) x xs ∙ ap (λ b. cond b 1 0 + count_by p xs) none) in
          ap (λ b. q x || b) (list_any-from_count p q xs h more) ∙ or-true (q x)
    ]

or_swap : (a b c d : Bool) → ((a || b) || (c || d)) ≡ ((a || c) || (b || d))
or_swap a b c d = grind arith

-- some element passes one of two tests where some passes the first or some passes the second
pub list_any-or : {X : Type 0} (p q : X → Bool) (xs : List X) → list_any (λ x. p x || q x) xs ≡ (list_any p xs || list_any q xs)
list_any-or p q [] = refl
list_any-or p q (x ∷ xs) = ap (λ b. (p x || q x) || b) (list_any-or p q xs) ∙ or_swap (p x) (q x) (list_any p xs) (list_any q xs)

-- a thread's events whose operations pass are one more after such an event, and as many after another
pub count_yes : (p : Op → Bool) (es : List Event) (e : Event) (t : ℕ) → p e.op ≡ true
    → count_by (λ d. d.thread == t && p d.op) (es ++ e ∷ []) ≡ count_by (λ d. d.thread == t && p d.op) es + cond (e.thread == t) 1 0
count_yes p es e t so =
    sum_by_push (λ d. cond (d.thread == t && p d.op) 1 0) es e
    ∙ ap (λ b. count_by (λ d. d.thread == t && p d.op) es + cond b 1 0) (ap (λ b. e.thread == t && b) so ∙ and-true (e.thread == t))

pub count_no : (p : Op → Bool) (es : List Event) (e : Event) (t : ℕ) → p e.op ≡ false
    → count_by (λ d. d.thread == t && p d.op) (es ++ e ∷ []) ≡ count_by (λ d. d.thread == t && p d.op) es
count_no p es e t fails =
    sum_by_push (λ d. cond (d.thread == t && p d.op) 1 0) es e
    ∙ ap (λ b. count_by (λ d. d.thread == t && p d.op) es + cond b 1 0) (and_right (e.thread == t) (p e.op) fails)
    ∙ omega arith

-- the test that another thread than t holds the lock
abbrev pub is_held_by_another : List Event → ℕ → ℕ → Bool
is_held_by_another es t l = list_any (λ e. not (e.thread == t) && ltb 0 (hold_count es e.thread l)) es

-- it fails where all other threads have no hold
pub is_held_by_another-false : (es : List Event) (t l : ℕ) → ((u : ℕ) → u ≢ t → hold_count es u l ≡ 0) → is_held_by_another es t l ≡ false
is_held_by_another-false es t l none =
    list_any_none (λ e. not (e.thread == t) && ltb 0 (hold_count es e.thread l)) es (λ k d low.
    let e = get_or es k d in
    elim (cases_Bool (e.thread == t)) [
      | inl there ↦ and_left (not (e.thread == t)) (ltb 0 (hold_count es e.thread l)) (ap not there)
      | inr other ↦
          let gone : hold_count es e.thread l ≡ 0 = none e.thread (λ same. true≢false (sym (eq-eqb e.thread t same) ∙ other)) in
          and_right (not (e.thread == t)) (ltb 0 (hold_count es e.thread l)) (ap (ltb 0) gone)
    ])

-- it succeeds where another thread has a hold
pub is_held_by_another-true : (es : List Event) (t l u : ℕ) → u ≢ t → 0 < hold_count es u l → is_held_by_another es t l ≡ true
is_held_by_another-true es t l u other held =
    list_any-from_count (λ e. e.thread == u && is_acquire l e.op) (λ e. not (e.thread == t) && ltb 0 (hold_count es e.thread l)) es (λ e passes.
    let same : e.thread ≡ u = eqb-true e.thread u (and_parts (e.thread == u) (is_acquire l e.op) passes).0 in
    let apart : (e.thread == t) ≡ false = ne_eqb e.thread t (λ is. other (sym same ∙ is)) in
    let holds : ltb 0 (hold_count es e.thread l) ≡ true = lt-ltb 0 (hold_count es e.thread l) (rw same held) in
    ap₂ (λ a b. not a && b) apart holds) (omega (arith, held))

-- where it fails, no other thread has a hold
pub hold_count-other : (es : List Event) (t l u : ℕ) → is_held_by_another es t l ≡ false → u ≢ t → hold_count es u l ≡ 0
hold_count-other es t l u fails other =
    elim (cases_Bool (ltb 0 (hold_count es u l))) [
      | inl there ↦ absurd (true≢false (sym (is_held_by_another-true es t l u other (ltb-true 0 (hold_count es u l) there)) ∙ fails))
      | inr none ↦ grind (arith, nat_tests, none)
    ]
