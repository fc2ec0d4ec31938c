-- The number of a name leads back to the name, for each name that is used.
use Rattle.std.proofs.Common.{◌≡◌, ℕ, ◌<◌, Bool, true, false, cond, not, List, [], ◌∷◌, ◌++◌, length, filter, flat_map, get_or, bytes_eq, position, unwrap_or, All, Option, Some, None, refl, sym, ap, ◌∙◌, inl, inr}
use Rattle.std.specs.List.{list_any, position_or_len}
use Rattle.std.specs.Cmp.Lexicographic.{bytes_decides}
use Rattle.std.proofs.lemmas.Bool.{cases_Bool, cond_below, or_left, or_right, false≢true, not_from_false}
use Rattle.std.proofs.lemmas.List.Elements.{All-nil, All-cons, All-weaker}
use Rattle.std.proofs.lemmas.List.Folds.{list_any-append}
use Rattle.std.proofs.lemmas.List.Sums.{passes_at_first}
use Rattle.rapid_text.specs.Canonical.{name_at}
use Rattle.rapid_text.specs.Reading.{NamedEvent, first_uses, number_of}
use Rattle.rapid_text.proofs.Cuts.{has-first}

-- the name is one of the names
abbrev pub has : List (List ℕ) → List ℕ → Bool
has names name = list_any (bytes_eq name) names

pub bytes_eq-refl : (name : List ℕ) → bytes_eq name name ≡ true
bytes_eq-refl name = (bytes_decides name name).1 refl

-- the number of a name leads back to it
pub name_at-number_of : (names : List (List ℕ)) (name : List ℕ) → has names name ≡ true
    → name_at names (number_of names name) ≡ name
name_at-number_of names name in_names =
    let at = position_or_len (bytes_eq name) names in
    let within : at < length names = has-first (bytes_eq name) names in_names in
    let found : Some at ≡ position (λ other. bytes_eq name other) names = cond_below at (length names) (Some at) None within in
    ap (λ (o : Option ℕ). get_or names (unwrap_or o 0) []) (sym found)
    ∙ sym ((bytes_decides name (get_or names at [])).0 (passes_at_first (bytes_eq name) names [] within))

-- one more name at the front, or not
has-cond : (b : Bool) (other : List ℕ) (names : List (List ℕ)) (name : List ℕ) → has names name ≡ true
    → has (cond b (other ∷ names) names) name ≡ true
has-cond true other names name in_names = or_right (bytes_eq name other) (has names name) in_names
has-cond false other names name in_names = in_names

-- a filter that keeps the name keeps that it is there
has-filter : (p : List ℕ → Bool) (names : List (List ℕ)) (name : List ℕ) → p name ≡ true
    → has names name ≡ true → has (filter p names) name ≡ true
has-filter p [] name keeps in_names = in_names
has-filter p (other ∷ names) name keeps in_names =
    elim (cases_Bool (bytes_eq name other)) [
      | inl same ↦ (
          let is : name ≡ other = (bytes_decides name other).0 same in
          let kept : p other ≡ true = sym (ap p is) ∙ keeps in
          rw kept (or_left (bytes_eq name other) (has (filter p names) name) same))
      | inr differs ↦ (
          let behind : has names name ≡ true = rw differs at in_names in
          has-cond (p other) other (filter p names) name (has-filter p names name keeps behind))
    ]

-- the test of two names may be turned round
pub differs-turned : (a b : List ℕ) → bytes_eq b a ≡ false → bytes_eq a b ≡ false
differs-turned a b differs =
    elim (cases_Bool (bytes_eq a b)) [
      | inl same ↦ absurd (false≢true (sym differs ∙ (bytes_decides b a).1 (sym ((bytes_decides a b).0 same))))
      | inr no_match ↦ no_match
    ]

-- each name that is used is among the first uses
pub has-first_uses : (names : List (List ℕ)) (name : List ℕ) → has names name ≡ true
    → has (first_uses names) name ≡ true
has-first_uses [] name in_names = in_names
has-first_uses (first ∷ names) name in_names =
    let later = filter (λ other. not (bytes_eq first other)) (first_uses names) in
    elim (cases_Bool (bytes_eq name first)) [
      | inl same ↦ or_left (bytes_eq name first) (has later name) same
      | inr differs ↦ (
          let behind : has names name ≡ true = rw differs at in_names in
          let other : bytes_eq first name ≡ false = differs-turned first name differs in
          or_right (bytes_eq name first) (has later name) (has-filter (λ other. not (bytes_eq first other)) (first_uses names) name (not_from_false (bytes_eq first name) other) (has-first_uses names name behind)))
    ]

has-append_left : (front names : List (List ℕ)) (name : List ℕ) → has front name ≡ true
    → has (front ++ names) name ≡ true
has-append_left front names name in_front = list_any-append (bytes_eq name) front names ∙ or_left (has front name) (has names name) in_front

has-append_right : (front names : List (List ℕ)) (name : List ℕ) → has names name ≡ true
    → has (front ++ names) name ≡ true
has-append_right front names name in_names = list_any-append (bytes_eq name) front names ∙ or_right (has front name) (has names name) in_names

-- each name that the event uses is one of the names
abbrev pub UsesOf : (NamedEvent → List (List ℕ)) → List (List ℕ) → NamedEvent → Type 0
UsesOf uses names event = (name : List ℕ) → has (uses event) name ≡ true → has names name ≡ true

-- each name that an event uses is among the uses of all events
pub uses-each : (uses : NamedEvent → List (List ℕ)) (events : List NamedEvent) → All (UsesOf uses (flat_map uses events)) events
uses-each uses [] = All-nil (UsesOf uses [])
uses-each uses (event ∷ events) =
    let later = flat_map uses events in
    let here = λ (name : List ℕ). has-append_left (uses event) (flat_map uses events) name in
    All-cons (UsesOf uses (uses event ++ later)) event events here
    (All-weaker (UsesOf uses later) (UsesOf uses (uses event ++ later))
    (λ other known name used. has-append_right (uses event) later name (known name used)) events (uses-each uses events))
