-- What the numbers of rows say about the keys of events.
use Rattle.std.proofs.Common.{◌≡◌, ℕ, zero, suc, ◌+◌, ◌<◌, ◌≤◌, ◌&&◌, nat_lt, Bool, true, false, cond, List, [], ◌∷◌, ◌++◌, Vec, All, Option, Some, IfSome, filter, count_by, length, get_or, slice_index, refl, sym, ap, ◌∙◌, subst, arith, add-one}
use Rattle.std.specs.List.{flat_map, slice_get}
use Rattle.std.specs.declared.alloc.Global.{Global}
use Rattle.std.proofs.Math.Path.{fun_ext}
use Rattle.std.proofs.lemmas.Bool.{true≢false, eqb-true, lt-ltb}
use Rattle.std.proofs.lemmas.List.Elements.{All-filter, All-from_get_or}
use Rattle.std.proofs.lemmas.List.FromFn.{length-map-range_with_len, length-range_with_len, get_or-range_with_len}
use Rattle.std.proofs.lemmas.List.Sums.{sum_by-cons, length-filter}
use Rattle.rapid_text.specs.Recording.{Recording}
use Rattle.rapid_text.specs.declared.event.Event.{Event}
use Rattle.event_index.specs.Lookups.{before}
use Rattle.event_index.proofs.CallerLemmas.{before_more}
use Rattle.variable_uses.specs.Columns.{AreFewUses, column_of, entry, list_at, items_by, totals_of}
use Rattle.variable_uses.specs.Held.{AreUsesBefore, is_use_under}
use Rattle.variable_uses.specs.Numbers.{has_number}
use Rattle.variable_uses.specs.Rows.{is_held_at, key_at, keys_of}
use Rattle.variable_uses.proofs.ColumnLemmas.{flat_map_one}
use Rattle.variable_uses.proofs.NumberLemmas.{count_within}
use Rattle.variable_uses.specs.Table.{held_count, lock_entry, locks_held}
use Rattle.variable_uses.specs.declared.columns.LockCount.{LockCount}

-- a count of those that pass another test
count_cond : (p : ℕ → Bool) (x : ℕ) (xs : List ℕ) (b : Bool) → count_by p (cond b (x ∷ xs) xs) ≡ cond (b && p x) 1 0 + count_by p xs
count_cond p x xs true = sum_by-cons (λ y. cond (p y) 1 0) x xs
count_cond p x xs false = omega arith

pub count_filter : (p q : ℕ → Bool) (xs : List ℕ) → count_by p (filter q xs) ≡ count_by (λ x. q x && p x) xs
count_filter p q [] = refl
count_filter p q (x ∷ xs) = count_cond p x (filter q xs) (q x) ∙ ap (λ n. cond (q x && p x) 1 0 + n) (count_filter p q xs) ∙ sym (sum_by-cons (λ y. cond (q y && p y) 1 0) x xs)

-- a row's events under a lock are those of the row at which the lock is held
under_row : (positive held mine : Bool) → (mine ≡ true → positive ≡ true) → ((positive && held) && mine) ≡ (mine && held)
under_row true true true h = refl
under_row true true false h = refl
under_row true false true h = refl
under_row true false false h = refl
under_row false held true h = absurd (true≢false (sym (h refl)))
under_row false held false h = refl

pub row_count : (T : List Event) (numbers : List ℕ) (k l : ℕ) → count_by (has_number numbers k) (filter (is_use_under T numbers l) (before (length T))) ≡ held_count T (length T) (has_number numbers k) l
row_count T numbers k l =
    count_filter (has_number numbers k) (is_use_under T numbers l) (before (length T))
    ∙ ap (λ test. count_by test (before (length T)))
    (fun_ext (λ e. under_row (nat_lt 0 (slice_index numbers e)) (is_held_at T l e) (has_number numbers k e) (λ mine. lt-ltb 0 (slice_index numbers e) (let is = eqb-true (slice_index numbers e) (k + 1) mine in omega (arith, is)))))

pub get_some : {X : Type 0} (xs : List X) (k : ℕ) → k < length xs → (x : X) × (slice_get xs k ≡ Some x)
get_some [] k lt = absurd (omega (arith, lt))
get_some (x ∷ xs) zero lt = (x, refl)
get_some (x ∷ xs) (suc k) lt = get_some xs k (omega (arith, lt, add-one (length xs)))

flat_more : (f : ℕ → List LockCount) (n : ℕ) → flat_map f (before (n + 1)) ≡ flat_map f (before n) ++ f n
flat_more f n = ap (flat_map f) (before_more n) ∙ flat_map_one f (before n) n

flat_same : (f g : ℕ → List LockCount) (n : ℕ) → ((l : ℕ) → l < n → f l ≡ g l) → flat_map f (before n) ≡ flat_map g (before n)
flat_same f g zero h = refl
flat_same f g (suc n) h =
    ap (λ m. flat_map f (before m)) (sym (add-one n)) ∙ flat_more f n ∙ ap (λ xs. xs ++ f n) (flat_same f g n (λ l lt. h l (omega (arith, lt, add-one n)))) ∙ ap (λ xs. flat_map g (before n) ++ xs) (h n (omega (arith, add-one n)))
    ∙ sym (flat_more g n) ∙ ap (λ m. flat_map g (before m)) (add-one n)

-- the locks of all lists, if each list has what a count says
pub locks_same : (lists : List (Vec ℕ Global)) (count : List ℕ → ℕ) (wanted : ℕ → ℕ) → ((l : ℕ) (v : Vec ℕ Global) → slice_get lists l ≡ Some v → count v.items ≡ wanted l)
    → flat_map (λ l. entry l (count (list_at lists l))) (before (length lists)) ≡ flat_map (λ l. lock_entry l (wanted l)) (before (length lists))
locks_same lists count wanted are =
    flat_same (λ l. entry l (count (list_at lists l))) (λ l. lock_entry l (wanted l)) (length lists)
    (λ l lt. let (v, at) = get_some lists l lt in ap (λ o. entry l (count (items_by o))) at ∙ ap (entry l) (are l v at))

-- an element of the first n numbers
below_length : (n i : ℕ) → i < length (before n) → get_or (before n) i 0 < n
below_length n i lt =
    let small : i < n = omega (arith, lt, length-range_with_len 0 n) in
    let is = get_or-range_with_len 0 n i 0 small in
    omega (arith, is, small)

-- the columns and the totals
module _ (T : List Event) (numbers : List ℕ) (lists : List (Vec ℕ Global)) (are : AreUsesBefore T numbers (length T) lists) where
  pub column_is : (k : ℕ) → column_of lists numbers k (length lists) ≡ flat_map (λ l. lock_entry l (held_count T (length T) (has_number numbers k) l)) (before (length lists))
  column_is k = locks_same lists (count_by (has_number numbers k)) (λ l. held_count T (length T) (has_number numbers k) l) (λ l v at. ap (count_by (has_number numbers k)) (are l v at) ∙ row_count T numbers k l)

  pub totals_are : totals_of lists (length lists) ≡ flat_map (λ l. lock_entry l (held_count T (length T) (λ e. nat_lt 0 (slice_index numbers e)) l)) (before (length lists))
  totals_are = locks_same lists length (λ l. held_count T (length T) (λ e. nat_lt 0 (slice_index numbers e)) l) (λ l v at. ap length (are l v at) ∙ length-filter (is_use_under T numbers l) (before (length T)))

  -- the lists have few events, each with a number
  pub few_uses : length numbers ≡ length T → length T ≤ 1048576 → AreFewUses numbers lists
  few_uses len few l v at =
      let size : length v.items ≡ count_by (is_use_under T numbers l) (before (length T)) = ap length (are l v at) ∙ length-filter (is_use_under T numbers l) (before (length T)) in
      let within = count_within (is_use_under T numbers l) (length T) in
      let inside : All (λ e. e < length numbers) (before (length T)) = All-from_get_or (λ e. e < length numbers) (before (length T)) 0 (λ i lt. let low = below_length (length T) i lt in omega (arith, low, len)) in (
        omega (arith, size, within, few),
        subst (All (λ e. e < length numbers)) (sym (are l v at)) (All-filter (is_use_under T numbers l) (λ e. e < length numbers) (before (length T)) inside),
      )

-- the same by the locks of a recording
module _ (r : Recording) (numbers : List ℕ) (lists : List (Vec ℕ Global)) (are : AreUsesBefore r.events numbers (length r.events) lists) (len : length lists ≡ length r.locks) where
  pub column_held : (k : ℕ) → column_of lists numbers k (length lists) ≡ locks_held r (has_number numbers k)
  column_held k = column_is r.events numbers lists are k ∙ ap (λ n. flat_map (λ l. lock_entry l (held_count r.events (length r.events) (has_number numbers k) l)) (before n)) len

  pub totals_held : totals_of lists (length lists) ≡ locks_held r (λ e. nat_lt 0 (slice_index numbers e))
  totals_held = totals_are r.events numbers lists are ∙ ap (λ n. flat_map (λ l. lock_entry l (held_count r.events (length r.events) (λ e. nat_lt 0 (slice_index numbers e)) l)) (before n)) len

-- what a call found
pub found_is : {X : Type 0} (o : Option X) (x : X) (P : X → Type 0) → o ≡ Some x → IfSome o P → P x
found_is o x P is h = subst (λ p. IfSome p P) is h

pub length-keys : (T : List Event) (places : List ℕ) (chosen : List Bool) → length (keys_of T places chosen) ≡ length T
length-keys T places chosen = length-map-range_with_len (key_at T places chosen) 0 (length T)
