-- How many locks threads hold, by the lists of their locks.
use Rattle.std.proofs.Common.{◌≡◌, ◌≢◌, ℕ, zero, suc, ◌+◌, ◌<◌, ◌≤◌, ◌==◌, ◌&&◌, nat_lt, Bool, true, false, cond, List, [], ◌∷◌, ◌++◌, Vec, All, take, count_by, length, slice_index, Some, refl, sym, ap, ◌∙◌, subst, arith, inl, inr, eq-eqb, eqb-true, add-one}
use Rattle.std.specs.List.{list_any, slice_get, sum_by}
use Rattle.std.specs.declared.alloc.Global.{Global}
use Rattle.std.proofs.Math.Path.{fun_ext}
use Rattle.std.proofs.lemmas.Bool.{cases_eq, cases_lt, true≢false, or_cases, and_parts, ne_eqb, lt-ltb, le-ltb}
use Rattle.std.proofs.lemmas.List.Elements.{All-get_or}
use Rattle.std.proofs.lemmas.List.Sums.{sum_by-cons, sum_by_push, sum_by-take-le}
use Rattle.std.proofs.lemmas.Option.{slice_get_within, get_or_from_slice_get}
use Rattle.rapid_text.specs.Operations.{is_acquire}
use Rattle.rapid_text.specs.Recording.{IsNamed, IsNamedOp, IsWellFormed, Recording}
use Rattle.rapid_text.specs.declared.event.Event.{Event}
use Rattle.rapid_text.specs.declared.event.Op.{Op}
use Rattle.rapid_text.specs.declared.event.Op.TheVariants.{Acquire, Fork, Join, Read, Release, Write}
use Rattle.trace_rules.specs.Rules.{acquire_count, hold_count}
use Rattle.trace_rules.proofs.Counts.{list_any-from_count}
use Rattle.event_index.specs.Lookups.{before}
use Rattle.event_index.proofs.CallerLemmas.{before_more}
use Rattle.variable_uses.specs.Held.{AreHeld, times}
use Rattle.variable_uses.specs.Table.{hold_total, holds_at, holds_by, holds_in}

as_one : (b : Bool) → b ≡ true → ◌≡◌ {A = ℕ} (cond b 1 0) 1
as_one b h = ap (λ (x : Bool). cond x 1 0) h

as_none : (b : Bool) → b ≡ false → ◌≡◌ {A = ℕ} (cond b 1 0) 0
as_none b h = ap (λ (x : Bool). cond x 1 0) h

one_below : (x n : ℕ) → ◌≡◌ {A = ℕ} (cond (nat_lt x (n + 1)) 1 0) (cond (nat_lt x n) 1 0 + cond (x == n) 1 0)
one_below x n = elim (cases_lt x n) [
  | inl lt ↦
      let more = as_one (nat_lt x (n + 1)) (lt-ltb x (n + 1) (omega (arith, lt))) in
      let below = as_one (nat_lt x n) (lt-ltb x n lt) in
      let other = as_none (x == n) (ne_eqb x n (omega (arith, lt))) in
      omega (arith, more, below, other)
  | inr ge ↦
      let above = as_none (nat_lt x n) (le-ltb x n ge) in
      elim (cases_eq x n) [
        | inl is ↦
            let more = as_one (nat_lt x (n + 1)) (lt-ltb x (n + 1) (omega (arith, is))) in
            let same = as_one (x == n) (eq-eqb x n is) in
            omega (arith, more, above, same)
        | inr ne ↦
            let more = as_none (nat_lt x (n + 1)) (le-ltb x (n + 1) (omega (arith, ge, ne))) in
            let other = as_none (x == n) (ne_eqb x n ne) in
            omega (arith, more, above, other)
      ]
]

count_below : (u : List ℕ) (n : ℕ) → count_by (λ k. nat_lt k (n + 1)) u ≡ count_by (λ k. nat_lt k n) u + times n u
count_below [] n = refl
count_below (x ∷ xs) n =
    let more = sum_by-cons (λ k. cond (nat_lt k (n + 1)) 1 0) x xs in
    let below = sum_by-cons (λ k. cond (nat_lt k n) 1 0) x xs in
    let same = sum_by-cons (λ k. cond (k == n) 1 0) x xs in
    let rest = count_below xs n in
    let one = one_below x n in
    omega (arith, more, below, same, rest, one)

none_below : (u : List ℕ) → count_by (λ k. nat_lt k 0) u ≡ 0
none_below [] = refl
none_below (x ∷ xs) =
    let all = sum_by-cons (λ k. cond (nat_lt k 0) 1 0) x xs in
    let here = as_none (nat_lt x 0) (le-ltb x 0 (omega arith)) in
    let rest = none_below xs in
    omega (arith, all, here, rest)

-- a list's elements below n, by how often each is there
times_total : (u : List ℕ) (n : ℕ) → sum_by (λ l. times l u) (before n) ≡ count_by (λ k. nat_lt k n) u
times_total u zero = sym (none_below u)
times_total u (suc n) =
    ap (λ m. sum_by (λ l. times l u) (before m)) (sym (add-one n)) ∙ ap (sum_by (λ l. times l u)) (before_more n) ∙ sum_by_push (λ l. times l u) (before n) n ∙ ap (λ a. a + times n u) (times_total u n) ∙ sym (count_below u n)
    ∙ ap (λ m. count_by (λ k. nat_lt k m) u) (add-one n)

all_below : (u : List ℕ) (n : ℕ) → ((k : ℕ) → 0 < times k u → k < n) → count_by (λ k. nat_lt k n) u ≡ length u
all_below [] n h = refl
all_below (x ∷ xs) n h =
    let here : x < n = h x (let mine = sum_by-cons (λ k. cond (k == x) 1 0) x xs in let one = as_one (x == x) (eq-eqb x x refl) in omega (arith, mine, one)) in
    let rest = all_below xs n (λ k above. h k (let mine = sum_by-cons (λ j. cond (j == k) 1 0) x xs in omega (arith, mine, above))) in
    let all = sum_by-cons (λ k. cond (nat_lt k n) 1 0) x xs in
    let one = as_one (nat_lt x n) (lt-ltb x n here) in
    omega (arith, all, one, rest, add-one (length xs))

-- a lock that is held has a name
named_acquire : (r : Recording) (l : ℕ) (op : Op) → IsNamedOp r op → is_acquire l op ≡ true → l < length r.locks
named_acquire r l (Read x) named is = absurd (true≢false (sym is))
named_acquire r l (Write x) named is = absurd (true≢false (sym is))
named_acquire r l (Acquire m) named is = subst (λ k. k < length r.locks) (eqb-true m l is) named
named_acquire r l (Release m) named is = absurd (true≢false (sym is))
named_acquire r l (Fork u) named is = absurd (true≢false (sym is))
named_acquire r l (Join u) named is = absurd (true≢false (sym is))

any_named : (r : Recording) (l : ℕ) (es : List Event) → ((i : ℕ) (v : Event) → slice_get es i ≡ Some v → IsNamed r v) → list_any (λ v. is_acquire l v.op) es ≡ true → l < length r.locks
any_named r l [] named is = absurd (true≢false (sym is))
any_named r l (x ∷ xs) named is = elim (or_cases (is_acquire l x.op) (list_any (λ v. is_acquire l v.op) xs) is) [
  | inl here ↦ named_acquire r l x.op (named 0 x refl).1 here
  | inr rest ↦ any_named r l xs (λ i v at. named (suc i) v at) rest
]

abbrev takes_lock : ℕ → ℕ → Event → Bool
takes_lock t l e = e.thread == t && is_acquire l e.op

held_named : (r : Recording) → IsWellFormed r → (n t l : ℕ) → 0 < hold_count (take n r.events) t l → l < length r.locks
held_named r well n t l held =
    let some : 0 < acquire_count (take n r.events) t l = omega (arith, held) in
    let fewer = sum_by-take-le (λ (e : Event). cond (takes_lock t l e) 1 0) r.events n in
    any_named r l r.events (λ i v at. subst (IsNamed r) (get_or_from_slice_get r.events i v v at) (All-get_or (IsNamed r) r.events i v (slice_get_within r.events i v at) well.named))
    (list_any-from_count (takes_lock t l) (λ v. is_acquire l v.op) r.events (λ v is. (and_parts (v.thread == t) (is_acquire l v.op) is).1) (omega (arith, some, fewer)))

-- the length of a thread's list
module _ (r : Recording) (well : IsWellFormed r) (n : ℕ) (held : List (Vec ℕ Global)) (are : AreHeld r.events n held) where
  length_total : (t : ℕ) (u : Vec ℕ Global) → slice_get held t ≡ Some u → length u.items ≡ hold_total r (take n r.events) t
  length_total t u at =
      sym (all_below u.items (length r.locks) (λ k above. held_named r well n t k (let is = are t u k at in omega (arith, is, above)))) ∙ sym (times_total u.items (length r.locks))
      ∙ ap (λ f. sum_by f (before (length r.locks))) (fun_ext (λ l. are t u l at))

  pub holds_use : (numbers : List ℕ) (v : Event) (u : Vec ℕ Global) → slice_get r.events n ≡ Some v → slice_get held v.thread ≡ Some u → 0 < slice_index numbers n → length u.items ≡ holds_at r (λ e. nat_lt 0 (slice_index numbers e)) n
  holds_use numbers v u at is positive =
      length_total v.thread u is ∙ sym (ap (λ b. cond b (holds_by r (take n r.events) (slice_get r.events n)) 0) (lt-ltb 0 (slice_index numbers n) positive) ∙ ap (holds_by r (take n r.events)) at)

pub holds_none : (r : Recording) (numbers : List ℕ) (n : ℕ) → slice_index numbers n ≡ 0 → 0 ≡ holds_at r (λ e. nat_lt 0 (slice_index numbers e)) n
holds_none r numbers n none = sym (ap (λ m. cond (nat_lt 0 m) (holds_by r (take n r.events) (slice_get r.events n)) 0) none)

-- one event further
pub holds_more : (r : Recording) (test : ℕ → Bool) (n : ℕ) → holds_in r test (n + 1) ≡ holds_in r test n + holds_at r test n
holds_more r test n = ap (sum_by (holds_at r test)) (before_more n) ∙ sum_by_push (holds_at r test) (before n) n

pub holds_grow : (r : Recording) (test : ℕ → Bool) (n m : ℕ) → n ≤ m → holds_in r test n ≤ holds_in r test m
holds_grow r test n zero le = let is : n ≡ 0 = omega (arith, le) in let same = ap (holds_in r test) is in omega (arith, same)
holds_grow r test n (suc m) le = elim (cases_eq n (suc m)) [
  | inl is ↦ let same = ap (holds_in r test) is in omega (arith, same)
  | inr ne ↦
      let rest = holds_grow r test n m (omega (arith, le, ne, add-one m)) in
      let more = holds_more r test m in
      let same = ap (holds_in r test) (add-one m) in
      omega (arith, rest, more, same)
]
