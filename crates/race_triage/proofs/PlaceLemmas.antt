-- Locations that are numbered by their first uses.
use Rattle.std.proofs.Common.{◌≡◌, ℕ, ◌+◌, ◌<◌, List, [], ◌∷◌, ◌++◌, ◌||◌, take, Bool, true, false, Vec, length, Some, position, get_or, refl, sym, ap, ◌∙◌, subst, arith, inl, inr}
use Rattle.std.specs.Bool.{if◌then◌else◌}
use Rattle.std.specs.List.{slice_get, list_any, position_or_len}
use Rattle.std.specs.Prelude.{nat_eq, slice_index}
use Rattle.std.specs.Cmp.Lexicographic.{pointwise, bytes_decides}
use Rattle.std.specs.declared.alloc.Global.{Global}
use Rattle.std.proofs.lemmas.Bool.{cases_lt, cond-true, cond-false}
use Rattle.std.proofs.lemmas.List.{length-append, get_or_append_left, map-append}
use Rattle.std.proofs.Math.Seq.{get_or-append_seam}
use Rattle.std.proofs.lemmas.List.Quantifiers.{position-Some}
use Rattle.std.proofs.lemmas.List.Sums.{fold_more, position_or_len_is, passes_at_first, fails_before_first}
use Rattle.std.proofs.lemmas.Option.{get_or_from_slice_get, slice_get-get_or, slice_get_within, same_Some}
use Rattle.rapid_text.specs.Recording.{Recording, IsWellFormed}
use Rattle.rapid_text.proofs.Positions.{none-position}
use Rattle.race_triage.specs.Places.{AreFirstUses, AreNumbers, AreNumbered, AreKept, IsSpot, first_uses, texts_of, with_text}

-- whether a key is the text
abbrev pub is_text : List ℕ → Vec ℕ Global → Bool
is_text name v = pointwise nat_eq name v.items

pub IsSpot-found : (keys : List (Vec ℕ Global)) (name : List ℕ) (d : Vec ℕ Global) (i : ℕ) → position (is_text name) keys ≡ Some i → IsSpot keys name i
IsSpot-found keys name d i at =
    let is = position-Some (is_text name) keys i d at in
    (position_or_len_is (is_text name) keys i d (omega (arith, is.0)) is.2 (λ _. is.1), is.0)

-- a key more
module _ (old : List (Vec ℕ Global)) (key : Vec ℕ Global) where
  one_more : length (old ++ key ∷ []) ≡ length old + 1
  one_more = length-append old (key ∷ [])

  same_before : (name : List ℕ) (j : ℕ) → j < length old → is_text name (get_or (old ++ key ∷ []) j key) ≡ is_text name (get_or old j key)
  same_before name j lt = ap (is_text name) (get_or_append_left old (key ∷ []) key j lt)

  fails_before : (name : List ℕ) (j : ℕ) → j < position_or_len (is_text name) old → j < length old → is_text name (get_or (old ++ key ∷ []) j key) ≡ false
  fails_before name j lt within = same_before name j within ∙ fails_before_first (is_text name) old j key lt

  kept_push : AreKept old (old ++ key ∷ [])
  kept_push name k is =
      let size = one_more in
      let at : is_text name (get_or old k key) ≡ true = ap (λ i. is_text name (get_or old i key)) (sym is.0) ∙ passes_at_first (is_text name) old key (omega (arith, is.0, is.1)) in (
        position_or_len_is (is_text name) (old ++ key ∷ []) k key (omega (arith, is.1, size))
            (λ j lt. fails_before name j (omega (arith, lt, is.0)) (omega (arith, lt, is.1)))
            (λ _. same_before name k is.1 ∙ at),
        omega (arith, size, is.1),
      )

  new_push : (name : List ℕ) → is_text name key ≡ true → position_or_len (is_text name) old ≡ length old → IsSpot (old ++ key ∷ []) name (length old)
  new_push name same past =
      let size = one_more in (
        position_or_len_is (is_text name) (old ++ key ∷ []) (length old) key (omega (arith, size))
            (λ j lt. fails_before name j (omega (arith, lt, past)) lt)
            (λ _. ap (is_text name) (get_or-append_seam old key [] key) ∙ same),
        omega (arith, size),
      )

pub AreKept-insert : (old new : List (Vec ℕ Global)) (key : Vec ℕ Global) (b : Bool) → new ≡ (if b then old else old ++ key ∷ []) → AreKept old new
AreKept-insert old new key true is = λ name k spot. subst (λ (keys : List (Vec ℕ Global)). IsSpot keys name k) (sym is) spot
AreKept-insert old new key false is = λ name k spot. subst (λ (keys : List (Vec ℕ Global)). IsSpot keys name k) (sym is) (kept_push old key name k spot)

pub IsSpot-insert :
    (old new : List (Vec ℕ Global)) (key : Vec ℕ Global) (name : List ℕ) (n : ℕ) → key.items ≡ name → list_any (is_text name) old ≡ false
    → new ≡ (if list_any (is_text key.items) old then old else old ++ key ∷ []) → n ≡ position_or_len (is_text key.items) old → IsSpot new name n
IsSpot-insert old new key name n same none is at =
    let absent : list_any (is_text key.items) old ≡ false = ap (λ (t : List ℕ). list_any (is_text t) old) same ∙ none in
    let grown : new ≡ old ++ key ∷ [] = is ∙ ap (λ (b : Bool). if b then old else old ++ key ∷ []) absent in
    let past : position_or_len (is_text name) old ≡ length old = none-position (is_text name) old key none in
    let here : n ≡ length old = at ∙ ap (λ (t : List ℕ). position_or_len (is_text t) old) same ∙ past in
    let equal : is_text name key ≡ true = (bytes_decides name key.items).1 (sym same) in
    subst (λ (m : ℕ). IsSpot new name m) (sym here) (subst (λ (keys : List (Vec ℕ Global)). IsSpot keys name (length old)) (sym grown) (new_push old key name equal past))

-- the texts of the set, with one more
any_texts : (name : List ℕ) (keys : List (Vec ℕ Global)) → list_any (pointwise nat_eq name) (texts_of keys) ≡ list_any (is_text name) keys
any_texts name [] = refl
any_texts name (key ∷ keys) = ap (λ (b : Bool). is_text name key || b) (any_texts name keys)

pub with_text-there : (keys : List (Vec ℕ Global)) (name : List ℕ) → list_any (is_text name) keys ≡ true → texts_of keys ≡ with_text (texts_of keys) name
with_text-there keys name there =
    sym (cond-true (list_any (pointwise nat_eq name) (texts_of keys)) (texts_of keys) (texts_of keys ++ name ∷ []) (any_texts name keys ∙ there))

pub with_text-insert :
    (old new : List (Vec ℕ Global)) (key : Vec ℕ Global) (name : List ℕ) → key.items ≡ name → list_any (is_text name) old ≡ false
    → new ≡ (if list_any (is_text key.items) old then old else old ++ key ∷ []) → texts_of new ≡ with_text (texts_of old) name
with_text-insert old new key name same none is =
    let absent : list_any (is_text key.items) old ≡ false = ap (λ (t : List ℕ). list_any (is_text t) old) same ∙ none in
    let grown : new ≡ old ++ key ∷ [] = is ∙ ap (λ (b : Bool). if b then old else old ++ key ∷ []) absent in
    ap texts_of grown
    ∙ map-append (λ (v : Vec ℕ Global). v.items) old (key ∷ [])
    ∙ ap (λ (t : List ℕ). texts_of old ++ t ∷ []) same
    ∙ sym (cond-false (list_any (pointwise nat_eq name) (texts_of old)) (texts_of old) (texts_of old ++ name ∷ []) (any_texts name old ∙ none))

pub AreFirstUses-push : (r : Recording) (n : ℕ) (old new : List (Vec ℕ Global)) (name : List ℕ) → AreFirstUses r n old → slice_get r.locations n ≡ Some name
    → texts_of new ≡ with_text (texts_of old) name → AreFirstUses r (n + 1) new
AreFirstUses-push r n old new name are at noted =
    let more = fold_more with_text [] r.locations n name (slice_get_within r.locations n name at) in
    let here = get_or_from_slice_get r.locations n name name at in
    noted
    ∙ ap (λ (ts : List (List ℕ)). with_text ts name) are
    ∙ ap (λ (t : List ℕ). with_text (first_uses (take n r.locations)) t) (sym here)
    ∙ sym more

index_before : (numbers : List ℕ) (m e : ℕ) → e < length numbers → slice_index (numbers ++ m ∷ []) e ≡ slice_index numbers e
index_before numbers m e lt = get_or_append_left numbers (m ∷ []) 0 e lt

index_last : (numbers : List ℕ) (m e : ℕ) → e ≡ length numbers → slice_index (numbers ++ m ∷ []) e ≡ m
index_last numbers m e is = ap (λ k. slice_index (numbers ++ m ∷ []) k) is ∙ get_or-append_seam numbers m [] 0

-- what stands at one place is one text
pub one_text : (keys : List (Vec ℕ Global)) (s t : List ℕ) (n : ℕ) → IsSpot keys s n → IsSpot keys t n → s ≡ t
one_text [] s t n is also = absurd (omega (arith, is.1))
one_text (k ∷ ks) s t n is also =
    let first = passes_at_first (is_text s) (k ∷ ks) k (omega (arith, is.0, is.1)) in
    let second = passes_at_first (is_text t) (k ∷ ks) k (omega (arith, also.0, also.1)) in
    let at : Vec ℕ Global = get_or (k ∷ ks) n k in
    let one : s ≡ at.items = (bytes_decides s at.items).0 (ap (λ i. is_text s (get_or (k ∷ ks) i k)) (sym is.0) ∙ first) in
    let other : t ≡ at.items = (bytes_decides t at.items).0 (ap (λ i. is_text t (get_or (k ∷ ks) i k)) (sym also.0) ∙ second) in
    one ∙ sym other

-- the set and the numbers that are made event by event
module _ (r : Recording) where
  pub AreNumbered-start : (keys : List (Vec ℕ Global)) → AreNumbered r 0 keys []
  AreNumbered-start keys = record { len = refl; spots = λ e name lt at. absurd (omega (arith, lt)) }

  pub AreNumbered-push :
      (n : ℕ) (old new : List (Vec ℕ Global)) (numbers : List ℕ) (m : ℕ) (name : List ℕ) → AreNumbered r n old numbers → AreKept old new
      → slice_get r.locations n ≡ Some name → IsSpot new name m → AreNumbered r (n + 1) new (numbers ++ m ∷ [])
  AreNumbered-push n old new numbers m name is kept located spot = record {
    len = length-append numbers (m ∷ []) ∙ ap (λ k. k + 1) is.len;
    spots = λ e text lt at. elim (cases_lt e n) [
      | inl earlier ↦
          let was = kept text (slice_index numbers e) (is.spots e text earlier at) in
          let same : slice_index (numbers ++ m ∷ []) e ≡ slice_index numbers e = index_before numbers m e (omega (arith, is.len, earlier)) in
          subst (λ (k : ℕ). IsSpot new text k) (sym same) was
      | inr late ↦
          let last : e ≡ n = omega (arith, lt, late) in
          let one : name ≡ text = same_Some name text (sym located ∙ ap (slice_get r.locations) (sym last) ∙ at) in
          let same : slice_index (numbers ++ m ∷ []) e ≡ m = index_last numbers m e (omega (arith, is.len, last)) in
          subst (λ (k : ℕ). IsSpot new text k) (sym same) (subst (λ (t : List ℕ). IsSpot new t m) one spot)
    ];
  }

  pub AreNumbers-end : (keys : List (Vec ℕ Global)) (numbers : List ℕ) → IsWellFormed r → AreNumbered r (length r.events) keys numbers → AreNumbers r numbers
  AreNumbers-end keys numbers well is = record {
    len = is.len;
    same = λ d e low also.
        let first = slice_get-get_or r.locations d [] (omega (arith, low, well.locations)) in
        let second = slice_get-get_or r.locations e [] (omega (arith, also, well.locations)) in
        let here = is.spots d (get_or r.locations d []) low first in
        let there = is.spots e (get_or r.locations e []) also second in (
          λ numbered. first ∙ ap Some (one_text keys (get_or r.locations d []) (get_or r.locations e []) (slice_index numbers d) here (subst (λ (k : ℕ). IsSpot keys (get_or r.locations e []) k) (sym numbered) there)) ∙ sym second,
          λ located.
              let one : get_or r.locations d [] ≡ get_or r.locations e [] = same_Some _ _ (sym first ∙ located ∙ second) in
              sym here.0 ∙ ap (λ (t : List ℕ). position_or_len (is_text t) keys) one ∙ there.0,
        );
  }
