-- Lists that hold what a function gives for each number: begun, lengthened, written to, read.
use Rattle.std.proofs.Common.{◌≡◌, ◌≢◌, ℕ, ◌+◌, ◌<◌, List, [], ◌∷◌, ◌++◌, Some, length, get_or, set, replicate, refl, sym, ap, ◌∙◌, arith, inl, inr, get_or-set_same, get_or-set_other, length-set}
use Rattle.std.proofs.lemmas.Bool.{cases_eq}
use Rattle.std.proofs.lemmas.List.{length-replicate, length_push, get_or-replicate, get_or_append_left, get_or_push}
use Rattle.std.proofs.lemmas.Option.{slice_get-get_or, get_or_from_slice_get}
use Rattle.event_index.specs.Layout.{IsTable}

-- what a table has at a number
pub get_or-IsTable : {X : Type 0} (f : ℕ → X) (n : ℕ) (xs : List X) → IsTable f n xs → (i : ℕ) (d : X) → i < n → get_or xs i d ≡ f i
get_or-IsTable f n xs table i d within = get_or_from_slice_get xs i (f i) d (table.at i within)

-- a list that has the right value at each number is a table
pub IsTable-from_get_or : {X : Type 0} (f : ℕ → X) (n : ℕ) (xs : List X) → length xs ≡ n → ((i : ℕ) → i < n → get_or xs i (f i) ≡ f i) → IsTable f n xs
IsTable-from_get_or f n xs len at =
    record {
      len = len;
      at = λ i within. slice_get-get_or xs i (f i) (omega arith) ∙ ap Some (at i within);
    }

pub IsTable-nil : {X : Type 0} (f : ℕ → X) → IsTable f 0 []
IsTable-nil f = record { len = refl; at = λ i within. absurd (omega arith) }

pub IsTable-replicate : {X : Type 0} (f : ℕ → X) (n : ℕ) (x : X) → ((i : ℕ) → i < n → f i ≡ x) → IsTable f n (replicate n x)
IsTable-replicate f n x all =
    IsTable-from_get_or f n (replicate n x) (length-replicate n x) (λ i within. get_or-replicate n i x (f i) within ∙ sym (all i within))

pub IsTable-push : {X : Type 0} (f : ℕ → X) (n : ℕ) (xs : List X) (x : X) → IsTable f n xs → x ≡ f n → IsTable f (n + 1) (xs ++ x ∷ [])
IsTable-push f n xs x table is =
    IsTable-from_get_or f (n + 1) (xs ++ x ∷ []) (length_push xs x ∙ ap (λ (k : ℕ). k + 1) table.len) (λ i within.
    elim (cases_eq i n) [
      | inl same ↦ get_or_push xs x (f i) i (table.len ∙ sym same) ∙ is ∙ ap f (sym same)
      | inr other ↦
          let inside : i < n = omega arith in
          get_or_append_left xs (x ∷ []) (f i) i (omega (arith, table.len)) ∙ get_or-IsTable f n xs table i (f i) inside
    ])

-- a write that makes it the table of another function
pub IsTable-set : {X : Type 0} (f g : ℕ → X) (n : ℕ) (xs : List X) (j : ℕ) (x : X) → IsTable f n xs → x ≡ g j → ((i : ℕ) → i < n → i ≢ j → f i ≡ g i)
    → IsTable g n (set xs j x)
IsTable-set f g n xs j x table is others =
    IsTable-from_get_or g n (set xs j x) (length-set xs j x ∙ table.len) (λ i within.
    elim (cases_eq i j) [
      | inl same ↦
          rw same (get_or-set_same xs j x (g j) (omega (arith, table.len)) ∙ is)
      | inr other ↦ get_or-set_other xs j i x (g i) other ∙ get_or-IsTable f n xs table i (g i) within ∙ others i within other
    ])

-- two functions that agree below n have one table
pub IsTable-like : {X : Type 0} (f g : ℕ → X) (n : ℕ) (xs : List X) → IsTable f n xs → ((i : ℕ) → i < n → f i ≡ g i) → IsTable g n xs
IsTable-like f g n xs table same = record { len = table.len; at = λ i within. table.at i within ∙ ap Some (same i within) }
