-- The search for the first arrow of a text, index by index.
use Rattle.std.proofs.Common.{◌≡◌, ℕ, ◌+◌, ◌-◌, ◌<◌, ◌≤◌, nat_eq, Bool, true, false, cond, List, [], ◌∷◌, length, drop, take, get_or, codes, Option, Some, None, take_all, refl, ap, sym, ◌∙◌, arith}
use Rattle.std.specs.List.{starts_with}
use Rattle.std.specs.Option.{option_map}
use Rattle.std.proofs.lemmas.List.{at_drop_all, drop_more, length-drop}
use Rattle.explain_report.specs.places.Places.{arrow_at, is_arrow}

-- an index that counts from `at`
abbrev pub shifted : ℕ → Option ℕ → Option ℕ
shifted at o = option_map (λ n. n + at) o

pub shifted-zero : (o : Option ℕ) → shifted 0 o ≡ o
shifted-zero None = refl
shifted-zero (Some n) = ap Some (omega arith)

shifted-more : (at : ℕ) (o : Option ℕ) → shifted at (shifted 1 o) ≡ shifted (at + 1) o
shifted-more at None = refl
shifted-more at (Some n) = ap Some (omega arith)

-- the rest of a text
pub rest_is : (text : List ℕ) (at : ℕ) → take (length text - at) (drop at text) ≡ drop at text
rest_is text at = take_all (length text - at) (drop at text) (omega (arith, length-drop at text))

module _ (text : List ℕ) (at : ℕ) where
  -- the arrow is found from an index on
  abbrev pub IsAhead : Type 0
  IsAhead = shifted at (arrow_at (drop at text)) ≡ arrow_at text

  abbrev pub is_here : Bool
  is_here = is_arrow (drop at text)

  step : at < length text → arrow_at (drop at text) ≡ cond is_here (Some 0) (shifted 1 (arrow_at (drop (at + 1) text)))
  step lt =
      let cut = drop_more text at 0 lt in
      ap arrow_at cut ∙ ap (λ (rest : List ℕ). cond (is_arrow rest) (Some 0) (shifted 1 (arrow_at (drop (at + 1) text)))) (sym cut)

  pub found : at < length text → IsAhead → is_here ≡ true → arrow_at text ≡ Some at
  found lt ahead here =
      sym ahead
      ∙ ap (shifted at) (step lt ∙ ap (λ (b : Bool). cond b (Some 0) (shifted 1 (arrow_at (drop (at + 1) text)))) here)
      ∙ ap Some (omega arith)

  pub passed : at < length text → IsAhead → is_here ≡ false → shifted (at + 1) (arrow_at (drop (at + 1) text)) ≡ arrow_at text
  passed lt ahead here =
      sym (shifted-more at (arrow_at (drop (at + 1) text)))
      ∙ ap (shifted at) (sym (step lt ∙ ap (λ (b : Bool). cond b (Some 0) (shifted 1 (arrow_at (drop (at + 1) text)))) here))
      ∙ ahead

  pub none : length text ≤ at → IsAhead → arrow_at text ≡ None
  none all ahead = sym ahead ∙ ap (shifted at) (at_drop_all arrow_at text at all)
