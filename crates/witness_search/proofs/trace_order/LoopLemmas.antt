-- The loop over the events that are counted and were not visited, by its lists.
use Rattle.std.proofs.Common.{◌≡◌, ℕ, ◌+◌, ◌-◌, ◌*◌, ◌<◌, ◌≤◌, set, replicate, List, [], ◌∷◌, suc, length, get_or, Option, Some, None, IfSome, refl, sym, ap, ◌∙◌, subst, arith, inl, inr}
use Rattle.std.proofs.lemmas.Bool.{cases_eq, cases_lt}
use Rattle.std.proofs.lemmas.Grind.{get_or-set_at}
use Rattle.std.proofs.lemmas.List.{length-set, length-replicate, get_or-replicate, get_or-set_other, get_or_default, get_or_past}
use Rattle.std.proofs.lemmas.List.Sums.{sum_by-cons}
use Rattle.rapid_text.specs.declared.event.Event.{Event}
use Rattle.trace_rules.specs.Rules.{IsDisciplined}
use Rattle.event_index.specs.Events.{thread_at}
use Rattle.event_index.specs.Lookups.{place_of}
use Rattle.event_index.proofs.CallerLemmas.{thread_within, events_of-length}
use Rattle.must_order.proofs.RowLemmas.{total, sum-grows}
use Rattle.witness_search.specs.trace_order.Layout.{IsBehind, IsVisit}
use Rattle.witness_search.proofs.trace_order.ClosingLemmas.{IsClosing, IsClosing-visit}

pub behind_found : (row visited xs ys : List ℕ) (o : Option ℕ) → xs ≡ row → ys ≡ visited → IfSome o (IsBehind xs ys) → IfSome o (IsBehind row visited)
behind_found row visited xs ys o one two is =
    subst (λ (zs : List ℕ). IfSome o (IsBehind zs visited)) one (subst (λ (zs : List ℕ). IfSome o (IsBehind xs zs)) two is)

pub behind_none : (row visited xs ys : List ℕ) (o : Option ℕ) → xs ≡ row → ys ≡ visited → (o ≡ None → (t : ℕ) → get_or xs t 0 ≤ get_or ys t 0) → o ≡ None → (t : ℕ) → get_or row t 0 ≤ get_or visited t 0
behind_none row visited xs ys o one two is none t =
    omega (arith, is none t, ap (λ zs. get_or zs t 0) one, ap (λ zs. get_or zs t 0) two)

zero_at : (n t : ℕ) → ◌≡◌ {A = ℕ} (get_or (replicate n 0) t 0) 0
zero_at n t =
    let none : ℕ = 0 in
    elim (cases_lt t n) [
      | inl low ↦ get_or-replicate n t 0 0 low
      | inr past ↦ let long = length-replicate n none in get_or_past (replicate n none) t 0 (omega (arith, past, long))
    ]

pub zeros_at : (n : ℕ) (xs : List ℕ) → xs ≡ replicate n 0 → (t : ℕ) → ◌≡◌ {A = ℕ} (get_or xs t 0) 0
zeros_at n xs is t = subst (λ (ys : List ℕ). ◌≡◌ {A = ℕ} (get_or ys t 0) 0) (sym is) (zero_at n t)

none_at : (n l : ℕ) → get_or (replicate {A = Option ℕ} n None) l None ≡ None
none_at n l =
    let none : Option ℕ = None in
    elim (cases_lt l n) [
      | inl low ↦ get_or-replicate n l none none low
      | inr past ↦ let long = length-replicate n none in get_or_past (replicate n none) l none (omega (arith, past, long))
    ]

pub nones_at : (n : ℕ) (xs : List (Option ℕ)) → xs ≡ replicate n None → (l : ℕ) → get_or xs l None ≡ None
nones_at n xs is l = subst (λ (ys : List (Option ℕ)). get_or ys l None ≡ None) (sym is) (none_at n l)

-- the last acquires are events
named_by : (n : ℕ) (o : Option ℕ) → ((m : ℕ) → o ≡ Some m → m < n) → IfSome o (λ m. m < n)
named_by n None low = tt
named_by n (Some m) low = low m refl

pub latest_named :
    (T : List Event) (start : ℕ → Type 0) (row visited : ℕ → ℕ) (latest : List (Option ℕ)) → IsClosing T start row visited (λ l. get_or latest l None)
    → (l : ℕ) → IfSome (get_or latest l None) (λ m. m < length T)
latest_named T start row visited latest is l =
    named_by (length T) (get_or latest l None)
    (λ m last. let known = (is.acquires l m last).1 in thread_within T m known.0 known.1)

-- a sum of numbers that are at most m
pub sum-bound : (xs : List ℕ) (m : ℕ) → ((t : ℕ) → get_or xs t 0 ≤ m) → total xs ≤ length xs * m
sum-bound [] m below = omega arith
sum-bound (x ∷ xs) m below =
    let first : x ≤ m = below 0 in
    let rest : total xs ≤ length xs * m = sum-bound xs m (λ t. below (suc t)) in
    omega (arith, sum_by-cons (λ (k : ℕ). k) x xs, rest, first)

module _
    (T : List Event) (rules : IsDisciplined T) (start : ℕ → Type 0) (row new visited : List ℕ) (latest now : List (Option ℕ))
    (is : IsClosing T start (λ t. get_or row t 0) (λ t. get_or visited t 0) (λ l. get_or latest l None))
    (e t width : ℕ) (len : length visited ≡ width) (wide : length row ≡ width) (of : thread_at T e ≡ Some t)
    (o : Option ℕ) (known : o ≡ Some t) (found : IfSome o (IsBehind row visited))
    (k : ℕ) (read : k ≡ get_or visited t k) (place : place_of T e ≡ k) where
  behind : IsBehind row visited t
  behind = subst (λ (p : Option ℕ). IfSome p (IsBehind row visited)) known found

  low : t < length visited
  low = omega (arith, behind.0, len, wide)

  value : (n : ℕ) → n ≡ get_or visited t n → n ≡ get_or visited t 0
  value n is_read = is_read ∙ get_or_default visited t n 0 low

  pub visited_fits : (n : ℕ) → n ≡ get_or visited t n → n + 1 ≤ length T
  visited_fits n is_read = omega (arith, value n is_read, behind.1, is.within t, events_of-length T t)

  module _ (n : ℕ) (also : n ≡ get_or visited t n) (visit : IsVisit T e (λ u. get_or row u 0) (λ u. get_or new u 0) (λ l. get_or latest l None) (λ l. get_or now l None)) where
    more : get_or (set visited t (n + 1)) t 0 ≡ get_or visited t 0 + 1
    more = get_or-set_at visited t t (n + 1) 0 refl low ∙ ap (λ m. m + 1) (value n also)

    pub advanced : IsClosing T start (λ u. get_or new u 0) (λ u. get_or (set visited t (n + 1)) u 0) (λ l. get_or now l None)
    advanced =
        IsClosing-visit T rules start (λ u. get_or row u 0) (λ u. get_or new u 0) (λ u. get_or visited u 0) (λ u. get_or (set visited t (n + 1)) u 0)
        (λ l. get_or latest l None) (λ l. get_or now l None) is e t of (place ∙ value k read) behind.1 more
        (λ u other. get_or-set_other visited t u (n + 1) 0 other) visit

    pub smaller : width * length T - total (set visited t (n + 1)) < width * length T - total visited
    smaller =
        let size : length (set visited t (n + 1)) ≡ length visited = length-set visited t (n + 1) in
        let bound : total (set visited t (n + 1)) ≤ length (set visited t (n + 1)) * length T =
        sum-bound (set visited t (n + 1)) (length T) (λ u. omega (arith, advanced.le u, advanced.within u, events_of-length T u)) in
        let limit : total (set visited t (n + 1)) ≤ width * length T = subst (λ (w : ℕ). total (set visited t (n + 1)) ≤ w * length T) (size ∙ len) bound in
        let grown : total visited < total (set visited t (n + 1)) =
        sum-grows visited (set visited t (n + 1)) t size
        (λ u lt. elim (cases_eq u t) [
          | inl one ↦ omega (arith, more, ap (λ w. get_or visited w 0) one, ap (λ w. get_or (set visited t (n + 1)) w 0) one)
          | inr other ↦ omega (arith, get_or-set_other visited t u (n + 1) 0 other)
        ])
        low (omega (arith, more)) in
        omega (arith, grown, limit)
