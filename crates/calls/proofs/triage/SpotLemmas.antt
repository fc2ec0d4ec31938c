-- A set of locations that grows keeps their numbers.
use Rattle.std.proofs.Common.{◌≡◌, ℕ, ◌+◌, ◌<◌, List, [], ◌∷◌, ◌++◌, Bool, true, false, Vec, length, Some, position, get_or, sym, ap, ◌∙◌, subst, arith}
use Rattle.std.specs.Bool.{if◌then◌else◌}
use Rattle.std.specs.List.{list_any, position_or_len}
use Rattle.std.specs.Prelude.{nat_eq}
use Rattle.std.specs.Cmp.Lexicographic.{pointwise, bytes_decides}
use Rattle.std.specs.declared.alloc.Global.{Global}
use Rattle.std.proofs.lemmas.List.{length-append, get_or_append_left}
use Rattle.std.proofs.Math.Seq.{get_or-append_seam}
use Rattle.std.proofs.lemmas.List.Quantifiers.{position-Some}
use Rattle.std.proofs.lemmas.List.Sums.{position_or_len_is, passes_at_first, fails_before_first}
use Rattle.rapid_text.proofs.Positions.{none-position}
use Rattle.race_triage.specs.Places.{AreKept, IsSpot}

-- whether a key is the text
abbrev pub is_text : List ℕ → Vec ℕ Global → Bool
is_text name v = pointwise nat_eq name v.items

pub IsSpot-found : (keys : List (Vec ℕ Global)) (name : List ℕ) (i : ℕ) → position (is_text name) keys ≡ Some i → IsSpot keys name i
IsSpot-found [] name i at = cc
IsSpot-found (k ∷ ks) name i at =
    let is = position-Some (is_text name) (k ∷ ks) i k at in
    (position_or_len_is (is_text name) (k ∷ ks) i k (omega (arith, is.0)) is.2 (λ _. is.1), is.0)

-- a key more
module _ (old : List (Vec ℕ Global)) (key : Vec ℕ Global) where
  one_more : length (old ++ key ∷ []) ≡ length old + 1
  one_more = length-append old (key ∷ [])

  same_before : (name : List ℕ) (j : ℕ) → j < length old → is_text name (get_or (old ++ key ∷ []) j key) ≡ is_text name (get_or old j key)
  same_before name j lt = ap (is_text name) (get_or_append_left old (key ∷ []) key j lt)

  fails_before : (name : List ℕ) (j : ℕ) → j < position_or_len (is_text name) old → j < length old → is_text name (get_or (old ++ key ∷ []) j key) ≡ false
  fails_before name j lt within = same_before name j within ∙ fails_before_first (is_text name) old j key lt

  kept_push : AreKept old (old ++ key ∷ [])
  kept_push name k is =
      let size = one_more in
      let at : is_text name (get_or old k key) ≡ true = ap (λ i. is_text name (get_or old i key)) (sym is.0) ∙ passes_at_first (is_text name) old key (omega (arith, is.0, is.1)) in (
        position_or_len_is (is_text name) (old ++ key ∷ []) k key (omega (arith, is.1, size))
            (λ j lt. fails_before name j (omega (arith, lt, is.0)) (omega (arith, lt, is.1)))
            (λ _. same_before name k is.1 ∙ at),
        omega (arith, size, is.1),
      )

  new_push : (name : List ℕ) → is_text name key ≡ true → position_or_len (is_text name) old ≡ length old → IsSpot (old ++ key ∷ []) name (length old)
  new_push name same past =
      let size = one_more in (
        position_or_len_is (is_text name) (old ++ key ∷ []) (length old) key (omega (arith, size))
            (λ j lt. fails_before name j (omega (arith, lt, past)) lt)
            (λ _. ap (is_text name) (get_or-append_seam old key [] key) ∙ same),
        omega (arith, size),
      )

pub AreKept-insert : (old new : List (Vec ℕ Global)) (key : Vec ℕ Global) (b : Bool) → new ≡ (if b then old else old ++ key ∷ []) → AreKept old new
AreKept-insert old new key true is = λ name k spot. subst (λ (keys : List (Vec ℕ Global)). IsSpot keys name k) (sym is) spot
AreKept-insert old new key false is = λ name k spot. subst (λ (keys : List (Vec ℕ Global)). IsSpot keys name k) (sym is) (kept_push old key name k spot)

pub IsSpot-insert :
    (old new : List (Vec ℕ Global)) (key : Vec ℕ Global) (name : List ℕ) (n : ℕ) → key.items ≡ name → list_any (is_text name) old ≡ false
    → new ≡ (if list_any (is_text key.items) old then old else old ++ key ∷ []) → n ≡ position_or_len (is_text key.items) old → IsSpot new name n
IsSpot-insert old new key name n same none is at =
    let absent : list_any (is_text key.items) old ≡ false = ap (λ (t : List ℕ). list_any (is_text t) old) same ∙ none in
    let grown : new ≡ old ++ key ∷ [] = is ∙ ap (λ (b : Bool). if b then old else old ++ key ∷ []) absent in
    let past : position_or_len (is_text name) old ≡ length old = none-position (is_text name) old key none in
    let here : n ≡ length old = at ∙ ap (λ (t : List ℕ). position_or_len (is_text t) old) same ∙ past in
    let equal : is_text name key ≡ true = (bytes_decides name key.items).1 (sym same) in
    subst (λ (m : ℕ). IsSpot new name m) (sym here) (subst (λ (keys : List (Vec ℕ Global)). IsSpot keys name (length old)) (sym grown) (new_push old key name equal past))
