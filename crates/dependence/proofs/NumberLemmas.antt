-- Rising numbers in two parts, and what a search in them finds.
use Rattle.std.proofs.Common.{◌≡◌, ◌≢◌, ◌⊎◌, ◌++◌, ◌||◌, All, ℕ, zero, suc, ◌+◌, ◌-◌, ◌<◌, ◌≤◌, Bool, true, false, cond, ltb, eqb, List, [], ◌∷◌, Option, None, Some, Result, Ok, Err, length, take, drop, remove, get_or, find, slice_get, refl, sym, ap, subst, ◌∙◌, arith, inl, inr}
use Rattle.std.specs.List.{list_any}
use Rattle.std.specs.Ordering.{nat_cmp}
use Rattle.std.specs.Result.{is_ok}
use Rattle.std.specs.BTreeSet.{insert_key}
use Rattle.std.specs.List.Sorted.{IsBinarySearchResult}
use Rattle.std.proofs.Math.Seq.{take-suc, take-append_seam}
use Rattle.std.proofs.lemmas.Bool.{lt-ltb, le-ltb, eq-eqb}
use Rattle.std.proofs.lemmas.Bool.Decides.{eqb_tells}
use Rattle.std.proofs.lemmas.List.{append_assoc, take-append-drop}
use Rattle.std.proofs.lemmas.List.Elements.{All-nil, All-head, All-tail, All-cons, All-append, All-weaker, All-get_or, All-from_get_or}
use Rattle.std.proofs.lemmas.List.Folds.{list_any-append, find-append}
use Rattle.std.proofs.lemmas.List.Sorted.{searched}
use Rattle.std.specs.Option.{option_or}
use Rattle.std.proofs.lemmas.List.{length-append, get_or_default}
use Rattle.std.proofs.Math.Seq.{get_or-append_seam}
use Rattle.std.proofs.lemmas.Option.{slice_get-get_or, slice_get_within, get_or_from_slice_get}
use Rattle.std.proofs.lemmas.Map.Views.{All-remove_key}
use Rattle.dependence.specs.Lists.{without, last_of, IsLeastAbove, IsReached}
use Rattle.dependence.specs.Rising.{Rises}
use Rattle.dependence.proofs.CallerLemmas.{without_other}
use Rattle.dependence.proofs.RisingLemmas.{insert_last, first_is_least}
use Rattle.dependence.proofs.ManyLemmas.{insert_there}

all_left : (P : ℕ → Type 0) (xs ys : List ℕ) → All P (xs ++ ys) → All P xs
all_left P [] ys all = All-nil P
all_left P (x ∷ xs) ys all = All-cons P x xs (All-head P x (xs ++ ys) all) (all_left P xs ys (All-tail P x (xs ++ ys) all))

all_right : (P : ℕ → Type 0) (xs ys : List ℕ) → All P (xs ++ ys) → All P ys
all_right P [] ys all = all
all_right P (x ∷ xs) ys all = all_right P xs ys (All-tail P x (xs ++ ys) all)

pub rises_left : (xs ys : List ℕ) → Rises (xs ++ ys) → Rises xs
rises_left [] ys up = tt
rises_left (x ∷ xs) ys up = (all_left (λ j. x < j) xs ys up.0, rises_left xs ys up.1)

pub rises_right : (xs ys : List ℕ) → Rises (xs ++ ys) → Rises ys
rises_right [] ys up = up
rises_right (x ∷ xs) ys up = rises_right xs ys up.1

-- one more number, above all others
pub rises_push : (xs : List ℕ) (k : ℕ) → Rises xs → All (λ j. j < k) xs → Rises (xs ++ k ∷ [])
rises_push [] k up low = (All-nil (λ j. k < j), tt)
rises_push (x ∷ xs) k up low = (
  All-append (λ j. x < j) xs (k ∷ []) up.0 (All-cons (λ j. x < j) k [] (All-head (λ j. j < k) x xs low) (All-nil (λ j. x < j))),
  rises_push xs k up.1 (All-tail (λ j. j < k) x xs low),
)

-- the last number is above all others
pub rises_before : (xs : List ℕ) (k : ℕ) → Rises (xs ++ k ∷ []) → All (λ j. j < k) xs
rises_before [] k up = All-nil (λ j. j < k)
rises_before (x ∷ xs) k up =
    All-cons (λ j. j < k) x xs (All-head (λ j. x < j) k [] (all_right (λ j. x < j) xs (k ∷ []) up.0)) (rises_before xs k up.1)

above_other : (x k : ℕ) (xs : List ℕ) → k ≡ x → All (λ j. x < j) xs → All (λ j. j ≢ k) xs
above_other x k xs is all = All-weaker (λ j. x < j) (λ j. j ≢ k) (λ j h e. absurd (omega (arith, is, e, h))) xs all

none_any : (k : ℕ) (xs : List ℕ) → All (λ j. j ≢ k) xs → list_any (eqb k) xs ≡ false
none_any k [] all = refl
none_any k (x ∷ xs) all = elim (eqb_tells k x) [
  | inl h ↦ absurd (All-head (λ j. j ≢ k) x xs all (sym h.1))
  | inr h ↦ rw h.0 (none_any k xs (All-tail (λ j. j ≢ k) x xs all))
]

-- what is taken out of a rising list leaves one, which has the number no more
pub rises_without : (k : ℕ) (xs : List ℕ) → Rises xs → Rises (without k xs)
rises_without k [] up = tt
rises_without k (x ∷ xs) up = elim (eqb_tells k x) [
  | inl h ↦ rw h.0 up.1
  | inr h ↦ rw h.0 (All-remove_key (eqb k) (λ j. x < j) xs up.0, rises_without k xs up.1)
]

pub gone_without : (k : ℕ) (xs : List ℕ) → Rises xs → list_any (eqb k) (without k xs) ≡ false
gone_without k [] up = refl
gone_without k (x ∷ xs) up = elim (eqb_tells k x) [
  | inl h ↦ rw h.0 (none_any k xs (above_other x k xs h.1 up.0))
  | inr h ↦ rw (h.0, h.0) (gone_without k xs up.1)
]

-- from two parts it is taken apart
pub without_parts : (k : ℕ) (xs ys : List ℕ) → Rises (xs ++ ys) → without k xs ++ without k ys ≡ without k (xs ++ ys)
without_parts k [] ys up = refl
without_parts k (x ∷ xs) ys up = elim (eqb_tells k x) [
  | inl h ↦ rw h.0 (ap (λ zs. xs ++ zs) (without_other k ys (above_other x k ys h.1 (all_right (λ j. x < j) xs ys up.0))))
  | inr h ↦ rw h.0 (ap (λ zs. x ∷ zs) (without_parts k xs ys up.1))
]

-- numbers do not fall
pub never_falls : (xs : List ℕ) → Rises xs → (i j : ℕ) → i ≤ j → j < length xs → get_or xs i 0 ≤ get_or xs j 0
never_falls [] up i j le lt = absurd (omega arith)
never_falls (x ∷ xs) up zero zero le lt = omega arith
never_falls (x ∷ xs) up zero (suc j) le lt = let more : x < get_or xs j 0 = All-get_or (λ n. x < n) xs j 0 (omega arith) up.0 in omega arith
never_falls (x ∷ xs) up (suc i) zero le lt = absurd (omega arith)
never_falls (x ∷ xs) up (suc i) (suc j) le lt = never_falls xs up.1 i j (omega arith) (omega arith)

-- the number at a place
pub without_at : (k : ℕ) (xs : List ℕ) (i : ℕ) → Rises xs → i < length xs → get_or xs i 0 ≡ k → remove xs i ≡ without k xs
without_at k [] i up lt is = absurd (omega arith)
without_at k (x ∷ xs) zero up lt is = rw (eq-eqb k x (sym is)) refl
without_at k (x ∷ xs) (suc i) up lt is = elim (eqb_tells k x) [
  | inl h ↦ let more : x < get_or xs i 0 = All-get_or (λ n. x < n) xs i 0 (omega arith) up.0 in absurd (omega (arith, h.1, is, more))
  | inr h ↦ rw h.0 (ap (λ ys. x ∷ ys) (without_at k xs i up.1 (omega arith) is))
]

-- numbers below k up to a place, and above it from there on
pub apart_at : (k : ℕ) (xs : List ℕ) (i : ℕ) → ((j : ℕ) → j < i → get_or xs j 0 < k) → ((j : ℕ) → i ≤ j → j < length xs → k < get_or xs j 0) → All (λ j. j ≢ k) xs
apart_at k xs i low high = All-from_get_or (λ j. j ≢ k) xs 0 (λ j lt e. elim (eqb_tells 0 0) [
  | inl h ↦ absurd (by j lt e (before j i))
  | inr h ↦ absurd (by j lt e (before j i))
])
  where
    before : (j i : ℕ) → (j < i) ⊎ (i ≤ j)
    before j zero = inr (omega arith)
    before zero (suc i) = inl (omega arith)
    before (suc j) (suc i) = elim (before j i) [ inl l ↦ inl (omega arith) | inr l ↦ inr (omega arith) ]

    by : (j : ℕ) → j < length xs → get_or xs j 0 ≡ k → ((j < i) ⊎ (i ≤ j)) → ⊥
    by j lt e (inl l) = let less = low j l in omega (arith, e, less)
    by j lt e (inr l) = let more = high j l lt in omega (arith, e, more)

-- what a search that fails says of the number
pub without_searched : (k : ℕ) (xs : List ℕ) (r : Result ℕ ℕ) (i : ℕ) → Rises xs → r ≡ Err i → IsBinarySearchResult (λ y. nat_cmp y k) xs r → All (λ j. j ≢ k) xs
without_searched k xs r i up is found = let s = searched xs k (Err i) (subst (IsBinarySearchResult (λ y. nat_cmp y k) xs) is found) (never_falls xs up) in apart_at k xs i s.1 s.2

there_any : (k : ℕ) (xs : List ℕ) (i : ℕ) → i < length xs → get_or xs i 0 ≡ k → list_any (eqb k) xs ≡ true
there_any k [] i lt is = absurd (omega arith)
there_any k (x ∷ xs) zero lt is = rw (eq-eqb k x (sym is)) refl
there_any k (x ∷ xs) (suc i) lt is = elim (eqb_tells k x) [
  | inl h ↦ rw h.0 refl
  | inr h ↦ rw h.0 (there_any k xs i (omega arith) is)
]

-- a search tells whether the number is there
pub searched_any : (k : ℕ) (xs : List ℕ) (r : Result ℕ ℕ) → Rises xs → IsBinarySearchResult (λ y. nat_cmp y k) xs r → is_ok r ≡ list_any (eqb k) xs
searched_any k xs (Ok i) up found = let s = searched xs k (Ok i) found (never_falls xs up) in sym (there_any k xs i s.0 s.1)
searched_any k xs (Err i) up found = sym (none_any k xs (without_searched k xs (Err i) i up refl found))

-- the first number above k stands where those up to k end
found_from : (k : ℕ) (xs : List ℕ) (i : ℕ) → ((j : ℕ) → j < i → j < length xs → get_or xs j 0 ≤ k) → ((j : ℕ) → i ≤ j → j < length xs → k < get_or xs j 0) → slice_get xs i ≡ find (λ j. ltb k j) xs
found_from k [] i low high = refl
found_from k (x ∷ xs) zero low high = rw (lt-ltb k x (high 0 (omega arith) (omega arith))) refl
found_from k (x ∷ xs) (suc i) low high =
    rw (le-ltb k x (low 0 (omega arith) (omega arith)))
    (found_from k xs i (λ j l lt. low (suc j) (omega arith) (omega arith)) (λ j l lt. high (suc j) (omega arith) (omega arith)))

-- behind the number that a search found, or at the place that it names
pub found_behind : (k : ℕ) (xs : List ℕ) (i : ℕ) → Rises xs → IsBinarySearchResult (λ y. nat_cmp y k) xs (Ok i) → slice_get xs (i + 1) ≡ find (λ j. ltb k j) xs
found_behind k xs i up found =
    let s = searched xs k (Ok i) found (never_falls xs up) in
    found_from k xs (i + 1) (λ j l lt. let le = never_falls xs up j i (omega arith) s.0 in omega (arith, le, s.1)) (λ j l lt. let more = rises_at xs up i j (omega arith) lt in omega (arith, more, s.1))
  where
    rises_at : (ys : List ℕ) → Rises ys → (a b : ℕ) → a < b → b < length ys → get_or ys a 0 < get_or ys b 0
    rises_at [] r a b l lt = absurd (omega arith)
    rises_at (y ∷ ys) r a zero l lt = absurd (omega arith)
    rises_at (y ∷ ys) r zero (suc b) l lt = All-get_or (λ n. y < n) ys b 0 (omega arith) r.0
    rises_at (y ∷ ys) r (suc a) (suc b) l lt = rises_at ys r.1 a b (omega arith) (omega arith)

pub found_there : (k : ℕ) (xs : List ℕ) (i : ℕ) → Rises xs → IsBinarySearchResult (λ y. nat_cmp y k) xs (Err i) → slice_get xs i ≡ find (λ j. ltb k j) xs
found_there k xs i up found =
    let s = searched xs k (Err i) found (never_falls xs up) in
    found_from k xs i (λ j l lt. let less = s.1 j l in omega (arith, less)) s.2

-- the numbers before a place of the second part, and the number there
pub low_at : (a b : List ℕ) (i d : ℕ) → Rises (a ++ b) → i < length b → All (λ j. j < get_or b i d) (a ++ take i b)
low_at a b i d up lt =
    let all : (a ++ take (suc i) b) ++ drop (suc i) b ≡ a ++ b = append_assoc a (take (suc i) b) (drop (suc i) b) ∙ ap (λ zs. a ++ zs) (take-append-drop (suc i) b) in
    let start : a ++ take (suc i) b ≡ (a ++ take i b) ++ get_or b i d ∷ [] = ap (λ zs. a ++ zs) (take-suc b i d lt) ∙ sym (append_assoc a (take i b) (get_or b i d ∷ [])) in
    rises_before (a ++ take i b) (get_or b i d) (subst Rises start (rises_left (a ++ take (suc i) b) (drop (suc i) b) (subst Rises (sym all) up)))

-- one more of them in the tree
pub settled_more : (a b t : List ℕ) (i k : ℕ) → Rises (a ++ b) → i < length b → k ≡ get_or b i k → t ≡ a ++ take i b → insert_key nat_cmp t k ≡ a ++ take (i + 1) b
settled_more a b t i k up lt is was =
    let up_to : i + 1 ≡ suc i = omega arith in
    let low : All (λ j. j < k) (a ++ take i b) = subst (λ n. All (λ j. j < n) (a ++ take i b)) (sym is) (low_at a b i k up lt) in
    ap (λ ys. insert_key nat_cmp ys k) was ∙ insert_last k (a ++ take i b) low ∙ append_assoc a (take i b) (k ∷ [])
    ∙ ap (λ zs. a ++ zs) (ap (λ n. take i b ++ n ∷ []) is ∙ sym (take-suc b i k lt) ∙ ap (λ n. take n b) (sym up_to))

pub settled_at : (a b ds t n : List ℕ) (i k : ℕ) → Rises (a ++ b) → ds ≡ b → i < length ds → k ≡ get_or ds i 0 → t ≡ a ++ take i b → n ≡ insert_key nat_cmp t k → n ≡ a ++ take (i + 1) b
settled_at a b ds t n i k up same lt is was now =
    let within : i < length b = subst (λ ys. i < length ys) same lt in
    now ∙ settled_more a b t i k up within (is ∙ ap (λ ys. get_or ys i 0) same ∙ get_or_default b i 0 k within) was

-- what is in the tree, turned to the end of the vector and cut off there
pub settled_rest : (a b t v w : List ℕ) (i : ℕ) → i ≤ length b → t ≡ a ++ take i b → v ≡ drop i b ++ take i b → w ≡ take (length (drop i b)) v → t ++ w ≡ a ++ b
settled_rest a b t v w i le was turned cut =
    let rest : w ≡ drop i b = cut ∙ ap (take (length (drop i b))) turned ∙ take-append_seam (drop i b) (take i b) in
    ap (λ ys. ys ++ w) was ∙ append_assoc a (take i b) w ∙ ap (λ zs. a ++ (take i b ++ zs)) rest ∙ ap (λ zs. a ++ zs) (take-append-drop i b)

-- the last of a list that ends in k
last_is : (xs : List ℕ) (k : ℕ) → last_of (xs ++ k ∷ []) ≡ Some k
last_is xs k =
    let len : length (xs ++ k ∷ []) ≡ length xs + 1 = length-append xs (k ∷ []) in
    ap (λ i. slice_get (xs ++ k ∷ []) i) (omega (arith, len)) ∙ slice_get-get_or (xs ++ k ∷ []) (length xs) 0 (omega (arith, len)) ∙ ap Some (get_or-append_seam xs k [] 0)

last_low : (xs : List ℕ) (k : ℕ) → All (λ j. j < k) xs → last_of xs ≡ Some k → ⊥
last_low xs k low is =
    let within : length xs - 1 < length xs = slice_get_within xs (length xs - 1) k is in
    let here : get_or xs (length xs - 1) 0 ≡ k = get_or_from_slice_get xs (length xs - 1) k 0 is in
    let less : get_or xs (length xs - 1) 0 < k = All-get_or (λ j. j < k) xs (length xs - 1) 0 within low in
    omega (arith, here, less)

-- a number that stands at the end, put in its place
pub reached_there : (k : ℕ) (vs : List ℕ) → IsReached k vs → last_of vs ≡ Some k → vs ≡ insert_key nat_cmp vs k
reached_there k vs (xs, low, inl same) last = absurd (last_low xs k low (ap last_of (sym same) ∙ last))
reached_there k vs (xs, low, inr same) last = same ∙ sym (insert_there k xs low) ∙ ap (λ ys. insert_key nat_cmp ys k) (sym same)

-- and one that does not stand there
pub reached_low : (k : ℕ) (vs : List ℕ) → IsReached k vs → ¬ (last_of vs ≡ Some k) → All (λ j. j < k) vs
reached_low k vs (xs, low, inl same) other = subst (All (λ j. j < k)) (sym same) low
reached_low k vs (xs, low, inr same) other = absurd (other (ap last_of same ∙ last_is xs k))

-- a number that was put in its place may be put there again
pub reached_again : (b : Bool) (k : ℕ) (n o : List ℕ) → IsReached k o → n ≡ cond b (insert_key nat_cmp o k) o → IsReached k n
reached_again false k n o (xs, low, inl same) now = (xs, low, inl (now ∙ same))
reached_again false k n o (xs, low, inr same) now = (xs, low, inr (now ∙ same))
reached_again true k n o (xs, low, inl same) now = (xs, low, inr (now ∙ ap (λ ys. insert_key nat_cmp ys k) same ∙ insert_last k xs low))
reached_again true k n o (xs, low, inr same) now = (xs, low, inr (now ∙ ap (λ ys. insert_key nat_cmp ys k) same ∙ insert_there k xs low))

pub reached_pushed : (b : Bool) (k : ℕ) (n xs : List ℕ) → All (λ j. j < k) xs → n ≡ cond b (xs ++ k ∷ []) xs → IsReached k n
reached_pushed true k n xs low now = (xs, low, inr now)
reached_pushed false k n xs low now = (xs, low, inl now)

-- the two parts, as callers see them
pub pushed_rises : (a b n vs : List ℕ) (k : ℕ) → Rises (a ++ b) → a ++ b ≡ vs → All (λ j. j < k) vs → n ≡ b ++ k ∷ [] → Rises (a ++ n)
pushed_rises a b n vs k up is low now =
    subst Rises (append_assoc a b (k ∷ []) ∙ ap (λ ys. a ++ ys) (sym now)) (rises_push (a ++ b) k up (subst (All (λ j. j < k)) (sym is) low))

pub any_parts : (k : ℕ) (a b ds vs : List ℕ) (r q : Bool) → r ≡ list_any (eqb k) a → r ≡ false → q ≡ list_any (eqb k) ds → ds ≡ b → a ++ b ≡ vs → q ≡ list_any (eqb k) vs
any_parts k a b ds vs r q in_a none in_b same is =
    in_b ∙ ap (list_any (eqb k)) same ∙ ap (λ c. c || list_any (eqb k) b) (sym none ∙ in_a) ∙ sym (list_any-append (eqb k) a b) ∙ ap (list_any (eqb k)) is

pub first_in_tree : (k : ℕ) (a b vs : List ℕ) (r : Option ℕ) (m : ℕ) → r ≡ Some m → r ≡ find (λ j. ltb k j) a → a ++ b ≡ vs → Some m ≡ find (λ j. ltb k j) vs
first_in_tree k a b vs r m some in_a is =
    ap (λ o. option_or o (find (λ j. ltb k j) b)) (sym some ∙ in_a) ∙ sym (find-append (λ j. ltb k j) a b) ∙ ap (find (λ j. ltb k j)) is

pub first_in_tail : (k : ℕ) (a b ds vs : List ℕ) (r q : Option ℕ) → r ≡ None → r ≡ find (λ j. ltb k j) a → q ≡ find (λ j. ltb k j) ds → ds ≡ b → a ++ b ≡ vs → q ≡ find (λ j. ltb k j) vs
first_in_tail k a b ds vs r q none in_a in_b same is =
    in_b ∙ ap (find (λ j. ltb k j)) same ∙ ap (λ o. option_or o (find (λ j. ltb k j) b)) (sym none ∙ in_a) ∙ sym (find-append (λ j. ltb k j) a b) ∙ ap (find (λ j. ltb k j)) is

pub least_first : (k : ℕ) (vs : List ℕ) (r : Option ℕ) → Rises vs → r ≡ find (λ j. ltb k j) vs → IsLeastAbove k vs r
least_first k vs r up is = subst (IsLeastAbove k vs) (sym is) (first_is_least k vs up)

-- what is left of a vector
pub taken_at : (k : ℕ) (xs ds n : List ℕ) (i : ℕ) → Rises xs → ds ≡ xs → IsBinarySearchResult (λ y. nat_cmp y k) ds (Ok i) → n ≡ remove xs i → n ≡ without k xs
taken_at k xs ds n i up same found now =
    let s = searched xs k (Ok i) (subst (λ ys. IsBinarySearchResult (λ y. nat_cmp y k) ys (Ok i)) same found) (never_falls xs up) in now ∙ without_at k xs i up s.0 s.1

pub taken_none : (k : ℕ) (xs ds : List ℕ) (i : ℕ) → Rises xs → ds ≡ xs → IsBinarySearchResult (λ y. nat_cmp y k) ds (Err i) → xs ≡ without k xs
taken_none k xs ds i up same found =
    sym (without_other k xs (without_searched k xs (Err i) i up refl (subst (λ ys. IsBinarySearchResult (λ y. nat_cmp y k) ys (Err i)) same found)))

pub removed_parts : (k : ℕ) (t v a b vs : List ℕ) → Rises vs → t ++ v ≡ vs → a ≡ without k t → b ≡ without k v → a ++ b ≡ without k vs
removed_parts k t v a b vs up is first second =
    ap (λ ys. ys ++ b) first ∙ ap (λ ys. without k t ++ ys) second ∙ without_parts k t v (subst Rises (sym is) up) ∙ ap (without k) is
