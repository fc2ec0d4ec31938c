-- Patterns that a set of texts has.
use Rattle.std.proofs.Common.{◌≡◌, ◌≢◌, ℕ, zero, suc, ◌<◌, length, arith, Bool, true, false, List, [], ◌∷◌, ◌++◌, ◌||◌, Vec, Option, Some, None, IfSome, is_some, position, get_or, refl, sym, ap, ◌∙◌, inl, inr, nat_eq}
use Rattle.std.specs.Bool.{if◌then◌else◌}
use Rattle.std.specs.Cmp.Lexicographic.{pointwise, bytes_decides}
use Rattle.std.specs.List.{slice_get, list_any}
use Rattle.std.specs.Option.{option_map}
use Rattle.std.specs.declared.alloc.Global.{Global}
use Rattle.std.proofs.lemmas.Bool.{cases_Bool, or_parts, or_from, true≢false}
use Rattle.std.proofs.lemmas.List.Quantifiers.{position-Some}
use Rattle.std.proofs.lemmas.Option.{same_Some, slice_get-get_or, none-some}
use Rattle.deadlock_triage.specs.Rows.{IsAdded, text_at}
use Rattle.deadlock_triage.proofs.ListLemmas.{length-cons}

-- whether a key is the text
abbrev pub is_text : List ℕ → Vec ℕ Global → Bool
is_text name v = pointwise nat_eq name v.items

pub index_some : (keys : List (Vec ℕ Global)) (name : List ℕ) (o : Option ℕ) → o ≡ position (is_text name) keys → IfSome o (λ at. text_at keys at ≡ Some name)
index_some keys name None e = tt
index_some [] name (Some i) e = cc
index_some (k ∷ ks) name (Some i) e =
    let at = position-Some (is_text name) (k ∷ ks) i k (sym e) in
    let key : Vec ℕ Global = get_or (k ∷ ks) i k in
    let same : name ≡ key.items = (bytes_decides name key.items).0 at.1 in
    ap (option_map (λ v. v.items)) (slice_get-get_or (k ∷ ks) i k at.0) ∙ ap Some (sym same)

key_differs : (name : List ℕ) (key : Vec ℕ Global) → is_text name key ≡ false → key.items ≢ name
key_differs name key fails same = true≢false (sym ((bytes_decides name key.items).1 (sym same)) ∙ fails)

pub none_there : (keys : List (Vec ℕ Global)) (name : List ℕ) → list_any (is_text name) keys ≡ false → (k : ℕ) → text_at keys k ≢ Some name
none_there [] name none k at = none-some name at
none_there (x ∷ xs) name none zero at =
    key_differs name x (or_parts (is_text name x) (list_any (is_text name) xs) none).0 (same_Some x.items name at)
none_there (x ∷ xs) name none (suc k) at = none_there xs name (or_parts (is_text name x) (list_any (is_text name) xs) none).1 k at

pub index_none : (keys : List (Vec ℕ Global)) (name : List ℕ) (o : Option ℕ) → is_some o ≡ list_any (is_text name) keys → o ≡ None → (k : ℕ) → text_at keys k ≢ Some name
index_none keys name o found none = none_there keys name (sym found ∙ ap is_some none)

pub absent_any : (keys : List (Vec ℕ Global)) (name : List ℕ) → ((k : ℕ) → text_at keys k ≢ Some name) → list_any (is_text name) keys ≡ false
absent_any [] name none = refl
absent_any (x ∷ xs) name none =
    elim (cases_Bool (is_text name x)) [
      | inl same ↦ absurd (none zero (ap Some (sym ((bytes_decides name x.items).0 same))))
      | inr other ↦ or_from (is_text name x) (list_any (is_text name) xs) other (absent_any xs name (λ k. none (suc k)))
    ]

pub added_at_end :
    (keys new : List (Vec ℕ Global)) (key : Vec ℕ Global) (name : List ℕ) → key.items ≡ name → ((k : ℕ) → text_at keys k ≢ Some name)
    → new ≡ (if list_any (is_text key.items) keys then keys else keys ++ key ∷ []) → IsAdded name keys new
added_at_end keys new key name same none is =
    let absent : list_any (is_text key.items) keys ≡ false = ap (λ (t : List ℕ). list_any (is_text t) keys) same ∙ absent_any keys name none in
    (key, same, is ∙ ap (λ (b : Bool). if b then keys else keys ++ key ∷ []) absent)

pub text-within : (keys : List (Vec ℕ Global)) (at : ℕ) (text : List ℕ) → text_at keys at ≡ Some text → at < length keys
text-within [] at text is = absurd (none-some text is)
text-within (x ∷ xs) zero text is = omega (arith, length-cons x xs)
text-within (x ∷ xs) (suc k) text is = omega (arith, text-within xs k text is, length-cons x xs)
