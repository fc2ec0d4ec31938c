-- The row of an event, begun and closed.
use Rattle.std.proofs.Common.{◌≡◌, ℕ, zero, suc, ◌+◌, ◌*◌, ◌-◌, ◌<◌, ◌≤◌, ◌⊎◌, max, sum_by, List, [], ◌∷◌, Option, Some, None, length, get_or, set, refl, sym, ap, ◌∙◌, subst, arith, inl, inr}
use Rattle.std.specs.List.{slice_get}
use Rattle.std.specs.Option.{IfSome}
use Rattle.std.proofs.lemmas.Bool.{cases_lt}
use Rattle.std.proofs.lemmas.Grind.{get_or-set_at}
use Rattle.std.proofs.lemmas.List.{length-set, get_or-set_other, get_or_past}
use Rattle.std.proofs.lemmas.List.Sums.{sum_by-cons}
use Rattle.rapid_text.specs.declared.event.Event.{Event}
use Rattle.trace_rules.specs.Rules.{IsDisciplined}
use Rattle.event_index.specs.Events.{thread_at}
use Rattle.event_index.specs.Lookups.{place_of, base_of}
use Rattle.event_index.proofs.CallerLemmas.{thread_here, events_of-length}
use Rattle.shb_clocks.specs.SharedRows.{Counted, len_of}
use Rattle.must_order.specs.Layout.{IsRow, AreCounts, row_count, source_of, IsCounted, IsFresh, IsBegun, IsClosed}
use Rattle.must_order.specs.MustBefore.{IsMustBefore, same, section}
use Rattle.must_order.specs.Sections.{IsOwed}
use Rattle.must_order.proofs.BegunLemmas.{IsCountBy, IsBegun-made, origin, IsBegun-raised, parts, Link-source, thread_cases}
use Rattle.must_order.proofs.ExactLemmas.{IsCount-exact}
use Rattle.must_order.proofs.OrderLemmas.{Link-earlier}

-- what a row counts
IsCountBy-read :
    (T : List Event) (width t : ℕ) (counts : Counted) (o : Option ℕ) → AreCounts T width counts → t < width
    → ((s : ℕ) → o ≡ Some s → s < len_of counts) → IsCountBy T o t (row_count counts o t)
IsCountBy-read T width t counts None are low within = refl
IsCountBy-read T width t counts (Some s) are low within = are s t low (within s refl)

earlier-read : (o : Option ℕ) (e n : ℕ) → IfSome o (λ s. s < e) → e ≤ n → (s : ℕ) → o ≡ Some s → s < n
earlier-read o e n early rows s is = let low : s < e = subst (λ (p : Option ℕ). IfSome p (λ s. s < e)) is early in omega (arith, low, rows)

IsCountBy-told :
    (T : List Event) (e width t : ℕ) (counts : Counted) (o p : Option ℕ) → AreCounts T width counts → e ≤ len_of counts → t < width
    → IfSome o (λ s. s < e) → o ≡ p → IsCountBy T p t (row_count counts o t)
IsCountBy-told T e width t counts o p are rows low early is =
    subst (λ (q : Option ℕ). IsCountBy T q t (row_count counts o t)) is
    (IsCountBy-read T width t counts o are low (earlier-read o e (len_of counts) early rows))

-- the source of an event stands before it
pub source_of-earlier : (T : List Event) → IsDisciplined T → (e : ℕ) (o : Option ℕ) → o ≡ source_of T e → IfSome o (λ s. s < e)
source_of-earlier T rules e None is = tt
source_of-earlier T rules e (Some s) is = Link-earlier T rules s e (Link-source T e s (sym is))

-- in its own thread an event counts itself and those before it, in the others what its base and its source count
pub IsBegun-row :
    (T : List Event) → IsDisciplined T → (e : ℕ) (v : Event) → slice_get T e ≡ Some v
    → (width : ℕ) → ((a t : ℕ) → thread_at T a ≡ Some t → t < width)
    → (counts : Counted) (row copied raised : List ℕ) (b o : Option ℕ) → AreCounts T width counts → e ≤ len_of counts
    → IfSome b (λ s. s < e) → b ≡ base_of T e → o ≡ source_of T e
    → length row ≡ width → length copied ≡ length row → length raised ≡ length copied
    → ((t : ℕ) → t < length row → get_or copied t 0 ≡ row_count counts b t)
    → ((t : ℕ) → t < length copied → get_or raised t 0 ≡ max (get_or copied t 0) (row_count counts o t))
    → (n : ℕ) → n ≡ place_of T e + 1 → IsBegun T e (λ t. get_or (set raised v.thread n) t 0) × IsFresh T e (λ t. get_or (set raised v.thread n) t 0)
IsBegun-row T rules e v at width named counts row copied raised b o are rows early base source wide same_len again copies raises n here =
    let of : thread_at T e ≡ Some v.thread = thread_here T e v at in
    let low : v.thread < length raised = omega (arith, named e v.thread of, wide, same_len, again) in
    let size : length (set raised v.thread n) ≡ length raised = length-set raised v.thread n in (
      IsBegun-made T rules e v.thread width of named
          (λ t. get_or (set raised v.thread n) t 0) (λ t. row_count counts b t) (λ t. row_count counts o t)
          (λ t lt. IsCountBy-told T e width t counts b (base_of T e) are rows lt early base)
          (λ t lt. IsCountBy-told T e width t counts o (source_of T e) are rows lt (source_of-earlier T rules e o source) source)
          (get_or-set_at raised v.thread v.thread n 0 refl low ∙ here)
          (λ t lt other.
          let copy : get_or copied t 0 ≡ row_count counts b t =
          copies t (omega (arith, wide)) in
          let raise : get_or raised t 0 ≡ max (get_or copied t 0) (row_count counts o t) =
          raises t (omega (arith, wide, same_len)) in
          get_or-set_other raised v.thread t n 0 other ∙ raise ∙ ap (λ k. max k (row_count counts o t)) copy)
          (λ t le. get_or_past (set raised v.thread n) t 0 (omega (arith, size, wide, same_len, again))),
      origin T rules e v.thread width of named
          (λ t. get_or (set raised v.thread n) t 0) (λ t. row_count counts b t) (λ t. row_count counts o t)
          (λ t lt. IsCountBy-told T e width t counts b (base_of T e) are rows lt early base)
          (λ t lt. IsCountBy-told T e width t counts o (source_of T e) are rows lt (source_of-earlier T rules e o source) source)
          (get_or-set_at raised v.thread v.thread n 0 refl low ∙ here)
          (λ t lt other.
          let copy : get_or copied t 0 ≡ row_count counts b t =
          copies t (omega (arith, wide)) in
          let raise : get_or raised t 0 ≡ max (get_or copied t 0) (row_count counts o t) =
          raises t (omega (arith, wide, same_len)) in
          get_or-set_other raised v.thread t n 0 other ∙ raise ∙ ap (λ k. max k (row_count counts o t)) copy)
          (λ t le. get_or_past (set raised v.thread n) t 0 (omega (arith, size, wide, same_len, again))),
    )

-- with the row of an event that is must-before it
pub IsBegun-joined :
    (T : List Event) → IsDisciplined T → (e own : ℕ) → thread_at T e ≡ Some own
    → (width : ℕ) → ((a t : ℕ) → thread_at T a ≡ Some t → t < width)
    → (counts : Counted) (row raised : List ℕ) (r : ℕ) → AreCounts T width counts → e ≤ len_of counts
    → r < e → IsMustBefore T r e → length row ≡ width → length raised ≡ length row
    → ((t : ℕ) → t < length row → get_or raised t 0 ≡ max (get_or row t 0) (row_count counts (Some r) t))
    → IsBegun T e (λ t. get_or row t 0) → IsBegun T e (λ t. get_or raised t 0)
IsBegun-joined T rules e own of width named counts row raised r are rows early must wide same_len raises begun =
    IsBegun-raised T rules e own width of named
    (λ t. get_or row t 0) (λ t. get_or raised t 0) (λ t. row_count counts (Some r) t) r early must begun
    (λ t lt. IsCountBy-told T e width t counts (Some r) (Some r) are rows lt early refl)
    (λ t lt. raises t (omega (arith, wide)))
    (λ t le. get_or_past raised t 0 (omega (arith, wide, same_len)))

-- what it then counts was counted, or is must-before that event
pub IsCounted-joined :
    (T : List Event) → IsDisciplined T → (e own : ℕ) → thread_at T e ≡ Some own
    → (width : ℕ) → ((a t : ℕ) → thread_at T a ≡ Some t → t < width)
    → (counts : Counted) (row raised : List ℕ) (r : ℕ) → AreCounts T width counts → e ≤ len_of counts
    → r < e → IsMustBefore T r e → length row ≡ width → length raised ≡ length row
    → ((t : ℕ) → t < length row → get_or raised t 0 ≡ max (get_or row t 0) (row_count counts (Some r) t))
    → IsBegun T e (λ t. get_or row t 0) → (a : ℕ) → IsCounted T (λ t. get_or raised t 0) a → IsCounted T (λ t. get_or row t 0) a ⊎ IsMustBefore T a r
IsCounted-joined T rules e own of width named counts row raised r are rows early must wide same_len raises begun =
    parts T rules e own width of named
    (λ t. get_or row t 0) (λ t. get_or raised t 0) (λ t. row_count counts (Some r) t) r early must begun
    (λ t lt. IsCountBy-told T e width t counts (Some r) (Some r) are rows lt early refl)
    (λ t lt. raises t (omega (arith, wide)))
    (λ t le. get_or_past raised t 0 (omega (arith, wide, same_len)))

-- a closed row is exact
pub IsRow-closed : (T : List Event) → IsDisciplined T → (e t : ℕ) → thread_at T e ≡ Some t → (row : List ℕ) → IsBegun T e (λ u. get_or row u 0) → IsClosed T e (λ u. get_or row u 0) → IsRow T e row
IsRow-closed T rules e t of row begun closed u lt = IsCount-exact T rules e t of (λ w. get_or row w 0) begun closed u

-- the sum of a row
abbrev pub total : List ℕ → ℕ
total xs = sum_by (λ k. k) xs

-- a sum of numbers that are at most m
sum-bound : (xs : List ℕ) (m : ℕ) → ((t : ℕ) → get_or xs t 0 ≤ m) → total xs ≤ length xs * m
sum-bound [] m below = omega arith
sum-bound (x ∷ xs) m below =
    let first : x ≤ m = below 0 in
    let rest : total xs ≤ length xs * m = sum-bound xs m (λ t. below (suc t)) in
    omega (arith, sum_by-cons (λ (k : ℕ). k) x xs, rest, first)

pub row-bound : (T : List Event) (e width : ℕ) (row : List ℕ) → IsBegun T e (λ t. get_or row t 0) → length row ≡ width → total row ≤ width * length T
row-bound T e width row begun wide =
    subst (λ (w : ℕ). total row ≤ w * length T) wide
    (sum-bound row (length T) (λ t. omega (arith, begun.within t, events_of-length T t)))

-- a row that is larger, at one place at least, has a larger sum
sum-le : (xs ys : List ℕ) → length ys ≡ length xs → ((t : ℕ) → t < length xs → get_or xs t 0 ≤ get_or ys t 0) → total xs ≤ total ys
sum-le [] [] len le = omega arith
sum-le [] (y ∷ ys) len le = absurd (omega arith)
sum-le (x ∷ xs) [] len le = absurd (omega arith)
sum-le (x ∷ xs) (y ∷ ys) len le =
    let first : x ≤ y = le 0 (omega arith) in
    let rest : total xs ≤ total ys = sum-le xs ys (omega arith) (λ t lt. le (suc t) (omega arith)) in
    omega (arith, sum_by-cons (λ (k : ℕ). k) x xs, sum_by-cons (λ (k : ℕ). k) y ys, rest, first)

pub sum-grows : (xs ys : List ℕ) (k : ℕ) → length ys ≡ length xs → ((t : ℕ) → t < length xs → get_or xs t 0 ≤ get_or ys t 0)
    → k < length xs → get_or xs k 0 < get_or ys k 0 → total xs < total ys
sum-grows [] ys k len le low more = absurd (omega arith)
sum-grows (x ∷ xs) [] k len le low more = absurd (omega arith)
sum-grows (x ∷ xs) (y ∷ ys) zero len le low more =
    let rest : total xs ≤ total ys = sum-le xs ys (omega arith) (λ t lt. le (suc t) (omega arith)) in
    omega (arith, sum_by-cons (λ (k : ℕ). k) x xs, sum_by-cons (λ (k : ℕ). k) y ys, rest, more)
sum-grows (x ∷ xs) (y ∷ ys) (suc k) len le low more =
    let first : x ≤ y = le 0 (omega arith) in
    let rest : total xs < total ys = sum-grows xs ys k (omega arith) (λ t lt. le (suc t) (omega arith)) (omega arith) more in
    omega (arith, sum_by-cons (λ (k : ℕ). k) x xs, sum_by-cons (λ (k : ℕ). k) y ys, rest, first)

-- a row that is joined with that of an event that it does not count grows
pub shrinks :
    (T : List Event) (e width : ℕ) (counts : Counted) (row raised : List ℕ) (r : ℕ) → AreCounts T width counts → e ≤ len_of counts
    → ((a t : ℕ) → thread_at T a ≡ Some t → t < width) → r < e → e < length T
    → length row ≡ width → length raised ≡ length row
    → ((t : ℕ) → t < length row → get_or raised t 0 ≡ max (get_or row t 0) (row_count counts (Some r) t))
    → IsBegun T e (λ t. get_or row t 0) → IsBegun T e (λ t. get_or raised t 0) → ¬ IsCounted T (λ t. get_or row t 0) r
    → width * length T - total raised < width * length T - total row
shrinks T e width counts row raised r are rows named early within wide same_len raises begun after missing =
    let u = thread_cases T r (omega arith) in
    let low : u.0 < width = named r u.0 u.1 in
    let counted : place_of T r < row_count counts (Some r) u.0 =
    (IsCountBy-told T e width u.0 counts (Some r) (Some r) are rows low early refl).counted r u.1 (same r r refl) in
    let value : get_or raised u.0 0 ≡ max (get_or row u.0 0) (row_count counts (Some r) u.0) =
    raises u.0 (omega (arith, wide)) in
    let beyond : get_or row u.0 0 ≤ place_of T r =
    elim (cases_lt (place_of T r) (get_or row u.0 0)) [
      | inl lt ↦ absurd (missing (u.0, u.1, lt))
      | inr le ↦ le
    ] in
    let grown : total row < total raised =
    sum-grows row raised u.0 same_len (λ t lt. omega (arith, raises t lt)) (omega (arith, wide)) (omega (arith, value, beyond, counted)) in
    let bound = row-bound T e width raised after (same_len ∙ wide) in
    omega (arith, grown, bound)

-- what is owed is must-before the event
pub owed_must : (T : List Event) (e : ℕ) (o : ℕ × ℕ) (row : ℕ → ℕ) → IsBegun T e row → IsOwed T e row o → IsMustBefore T o.1 e
owed_must T e o row begun owed = section o.1 o.0 o.1 e (same o.1 o.1 refl) (begun.sound o.0 owed.1) owed.0
