-- What is read of the lines of a text of known deadlocks.
use Rattle.std.proofs.Common.{◌≡◌, ℕ, suc, ◌+◌, ◌||◌, nat_eq, not, Bool, true, false, cond, List, [], ◌∷◌, ◌++◌, take, Vec, Option, Some, None, refl, sym, ap, ◌∙◌, arith, inl, inr}
use Rattle.std.specs.Bool.{if◌then◌else◌}
use Rattle.std.specs.Cmp.Lexicographic.{pointwise, bytes_decides}
use Rattle.std.specs.List.{after_first, before_first, cons_option, filter_map, list_any, position_or_len}
use Rattle.std.specs.declared.alloc.Global.{Global}
use Rattle.std.proofs.lemmas.Bool.{cases_Bool, cond-true, cond-false}
use Rattle.std.proofs.lemmas.List.Folds.{list_any-append}
use Rattle.rapid_text.specs.Reading.{is_bar, trimmed}
use Rattle.race_triage.specs.Known.{IsLocation}
use Rattle.deadlock_report.specs.Known.{has_key, is_head, is_in, keys_if, keys_of, known_keys, location_in, locations_in, IsNoted}
use Rattle.deadlock_report.specs.declared.known.Block.{Block}

-- a line before the others, among those before the next head
before-head : (line : List ℕ) (left : List (List ℕ)) → is_head line ≡ true → before_first is_head (line ∷ left) ≡ []
before-head line left e = ap (λ c. take (cond (not c) (1 + position_or_len is_head left) 0) (line ∷ left)) e

before-other : (line : List ℕ) (left : List (List ℕ)) → is_head line ≡ false → before_first is_head (line ∷ left) ≡ line ∷ before_first is_head left
before-other line left e =
    let more : 1 + position_or_len is_head left ≡ suc (position_or_len is_head left) = omega arith in
    ap (λ c. take (cond (not c) (1 + position_or_len is_head left) 0) (line ∷ left)) e ∙ ap (λ n. take n (line ∷ left)) more

module _ (line : List ℕ) (left : List (List ℕ)) where
  pub locations-head : is_head line ≡ true → locations_in (line ∷ left) ≡ []
  locations-head head = ap (filter_map location_in) (before-head line left head)

  locations-line : is_head line ≡ false → locations_in (line ∷ left) ≡ cons_option (location_in line) (locations_in left)
  locations-line other = ap (filter_map location_in) (before-other line left other)

  pub locations-more : (location : List ℕ) → is_head line ≡ false → IsLocation line location → locations_in (line ∷ left) ≡ location ∷ locations_in left
  locations-more location other is =
      let behind : List ℕ = after_first is_bar (trimmed line) in
      let there : location_in line ≡ Some location =
      cond-true (list_any is_bar behind) (Some (trimmed (after_first is_bar behind))) None is.0 ∙ ap Some (sym is.1) in
      locations-line other ∙ ap (λ (o : Option (List ℕ)). cons_option o (locations_in left)) there

  pub locations-same : is_head line ≡ false → ((location : List ℕ) → ¬ IsLocation line location) → locations_in (line ∷ left) ≡ locations_in left
  locations-same other none =
      let behind : List ℕ = after_first is_bar (trimmed line) in
      let lacks : location_in line ≡ None =
      elim (cases_Bool (list_any is_bar behind)) [
        | inl has ↦ absurd (none (trimmed (after_first is_bar behind)) (has, refl))
        | inr without ↦ cond-false (list_any is_bar behind) (Some (trimmed (after_first is_bar behind))) None without
      ] in
      locations-line other ∙ ap (λ (o : Option (List ℕ)). cons_option o (locations_in left)) lacks

-- whether the key is the text
abbrev is_text : List ℕ → Vec ℕ Global → Bool
is_text key v = pointwise nat_eq key v.items

or_swap : (a b : Bool) → (a || (b || false)) ≡ (b || a)
or_swap true true = refl
or_swap true false = refl
or_swap false true = refl
or_swap false false = refl

or_two : (a b c : Bool) → (b || (a || c)) ≡ ((a || (b || false)) || c)
or_two true true c = refl
or_two true false c = refl
or_two false true c = refl
or_two false false c = refl

or_three : (a b c : Bool) → ((a || b) || c) ≡ (b || (a || c))
or_three true true c = refl
or_three true false c = refl
or_three false true c = refl
or_three false false c = refl

or_false : (a : Bool) → (a || false) ≡ a
or_false true = refl
or_false false = refl

already : (texts : List (Vec ℕ Global)) (text : Vec ℕ Global) (key : List ℕ) → list_any (is_text text.items) texts ≡ true → has_key texts key ≡ (is_text key text || has_key texts key)
already texts text key there =
    elim (cases_Bool (is_text key text)) [
      | inl equal ↦
          let same : key ≡ text.items = (bytes_decides key text.items).0 equal in
          let has : has_key texts key ≡ true = ap (λ (t : List ℕ). list_any (is_text t) texts) same ∙ there in
          has ∙ sym (ap (λ (b : Bool). b || has_key texts key) equal)
      | inr other ↦ sym (ap (λ (b : Bool). b || has_key texts key) other)
    ]

-- one text is inserted
has_key-insert : (texts new : List (Vec ℕ Global)) (text : Vec ℕ Global) → new ≡ (if list_any (is_text text.items) texts then texts else texts ++ text ∷ []) → (key : List ℕ)
    → has_key new key ≡ (is_text key text || has_key texts key)
has_key-insert texts new text is key =
    elim (cases_Bool (list_any (is_text text.items) texts)) [
      | inl there ↦
          ap (λ (ts : List (Vec ℕ Global)). has_key ts key) (is ∙ ap (λ (b : Bool). if b then texts else texts ++ text ∷ []) there)
          ∙ already texts text key there
      | inr absent ↦
          ap (λ (ts : List (Vec ℕ Global)). has_key ts key) (is ∙ ap (λ (b : Bool). if b then texts else texts ++ text ∷ []) absent)
          ∙ list_any-append (is_text key) texts (text ∷ [])
          ∙ or_swap (has_key texts key) (is_text key text)
    ]

-- the two keys of a block are inserted
pub noted-two : (texts between new : List (Vec ℕ Global)) (one two : Vec ℕ Global) (k l : List ℕ) → one.items ≡ k → two.items ≡ l
    → between ≡ (if list_any (is_text one.items) texts then texts else texts ++ one ∷ [])
    → new ≡ (if list_any (is_text two.items) between then between else between ++ two ∷ []) → (key : List ℕ)
    → has_key new key ≡ (is_in (k ∷ l ∷ []) key || has_key texts key)
noted-two texts between new one two k l is_one is_two first second key =
    has_key-insert between new two second key
    ∙ ap (λ (b : Bool). is_text key two || b) (has_key-insert texts between one first key)
    ∙ or_two (is_text key one) (is_text key two) (has_key texts key)
    ∙ ap (λ (t : List ℕ). (pointwise nat_eq key t || (is_text key two || false)) || has_key texts key) is_one
    ∙ ap (λ (t : List ℕ). (pointwise nat_eq key k || (pointwise nat_eq key t || false)) || has_key texts key) is_two

-- one more line is read
pub known-step : (texts new : List (Vec ℕ Global)) (lines rest : List (List ℕ)) (line : List ℕ) (block : Option Block) (all : List ℕ → Bool)
    → ((key : List ℕ) → (has_key texts key || is_in (known_keys lines) key) ≡ all key) → lines ≡ line ∷ rest
    → keys_if block ≡ cond (is_head line) (keys_of (locations_in rest)) [] → IsNoted block texts new → (key : List ℕ)
    → (has_key new key || is_in (known_keys rest) key) ≡ all key
unfolding known_keys
known-step texts new lines rest line block all before whole keys noted key =
    let left : Bool = is_in (known_keys rest) key in
    ap (λ (b : Bool). b || left) (noted key)
    ∙ or_three (is_in (keys_if block) key) (has_key texts key) left
    ∙ ap (λ (ks : List (List ℕ)). has_key texts key || (is_in ks key || left)) keys
    ∙ ap (λ (b : Bool). has_key texts key || b) (sym (list_any-append (pointwise nat_eq key) (cond (is_head line) (keys_of (locations_in rest)) []) (known_keys rest)))
    ∙ ap (λ (ls : List (List ℕ)). has_key texts key || is_in (known_keys ls) key) (sym whole)
    ∙ before key

-- all lines are read
pub known-end : (texts : List (Vec ℕ Global)) (lines : List (List ℕ)) (all : List ℕ → Bool) → ((key : List ℕ) → (has_key texts key || is_in (known_keys lines) key) ≡ all key) → lines ≡ [] → (key : List ℕ)
    → has_key texts key ≡ all key
unfolding known_keys
known-end texts lines all before none key =
    sym (or_false (has_key texts key))
    ∙ ap (λ (ls : List (List ℕ)). has_key texts key || is_in (known_keys ls) key) (sym none)
    ∙ before key
