-- What two lists of locks have in common: that of a list and itself, and that of two lists that rise.
use Rattle.std.proofs.Common.{◌≡◌, ◌≢◌, ◌<◌, ℕ, suc, ◌==◌, ◌||◌, true, false, not, List, [], ◌∷◌, Vec, length, slice_index, Some, refl, sym, ap, ◌∙◌, arith, ne_eqb}
use Rattle.race_groups.proofs.BuildLemmas.{length-cons}
use Rattle.std.specs.declared.alloc.Global.{Global}
use Rattle.std.specs.List.{list_any, slice_get}
use Rattle.std.proofs.lemmas.Bool.{eq-eqb}
use Rattle.race_groups.specs.Shared.{is_meeting, is_sharing, is_sharing_by}

some_more : (n : ℕ) → true ≡ not (suc n == 0)
some_more n = ap not (sym (ne_eqb (suc n) 0 (λ e. absurd (omega (arith, e)))))

meets_itself : (xs : List ℕ) → is_meeting xs xs ≡ not (length xs == 0)
meets_itself [] = refl
meets_itself (x ∷ xs) = ap (λ b. (b || list_any (λ k. k == x) xs) || list_any (λ l. list_any (λ k. k == l) (x ∷ xs)) xs) (eq-eqb x x refl) ∙ some_more (length xs)

pub shares_itself : (lists : List (Vec ℕ Global)) (i j : ℕ) (v : Vec ℕ Global) (now : List ℕ) → slice_get lists i ≡ Some v → i ≡ j → now ≡ v.items → is_sharing lists i j ≡ not (length now == 0)
shares_itself lists i j v now at same is =
    ap (λ k. is_sharing_by (slice_get lists i) (slice_get lists k)) (sym same)
    ∙ ap (λ o. is_sharing_by o o) at
    ∙ meets_itself v.items
    ∙ ap (λ xs. not (length xs == 0)) (sym is)

-- an element that none of the list is
absent : (x : ℕ) (ys : List ℕ) → ((k : ℕ) → k < length ys → x ≢ slice_index ys k) → list_any (λ k. k == x) ys ≡ false
absent x [] never = refl
absent x (y ∷ ys) never =
    ap (λ b. b || list_any (λ k. k == x) ys) (ne_eqb y x (λ e. never 0 (omega (arith, length-cons y ys)) (sym e)))
    ∙ absent x ys (λ k lt. never (suc k) (omega (arith, lt, length-cons y ys)))

-- lists that have no element in common, place by place
pub apart_lists : (xs ys : List ℕ) → ((i k : ℕ) → i < length xs → k < length ys → slice_index xs i ≢ slice_index ys k) → is_meeting xs ys ≡ false
apart_lists [] ys apart = refl
apart_lists (x ∷ xs) ys apart =
    ap (λ b. b || is_meeting xs ys) (absent x ys (λ k lt. apart 0 k (omega (arith, length-cons x xs)) lt))
    ∙ apart_lists xs ys (λ i k within lt. apart (suc i) k (omega (arith, within, length-cons x xs)) lt)
