-- A name that stands at a place of a table has that place as its number, since the names of a table differ.
use Rattle.std.proofs.Common.{◌≡◌, ℕ, ◌<◌, Bool, List, map, length, get_or, slice_get, bytes_eq, Some, None, sym, ap, ◌∙◌, arith}
use Rattle.std.specs.Prelude.{Vec}
use Rattle.std.specs.List.{position_or_len, IsDistinct}
use Rattle.std.specs.Cmp.Lexicographic.{bytes_decides}
use Rattle.std.proofs.lemmas.Bool.{cond_below}
use Rattle.std.proofs.lemmas.List.Sums.{position_or_len_is}
use Rattle.std.proofs.lemmas.Map.Keys.{apart_from_distinct}
use Rattle.std.proofs.lemmas.Option.{get_or_from_slice_get, slice_get_within}
use Rattle.rapid_text.specs.Growth.{IsNumber}
use Rattle.rapid_text.proofs.NameNumbers.{differs-turned}
use Rattle.rapid_text.proofs.Numbering.{items}
use Rattle.rapid_text.proofs.Positions.{position-map}

module _ {A : Type 0} (keys : List (Vec ℕ A)) (name : List ℕ) (i : ℕ) (found : Vec ℕ A) where
  abbrev same : Vec ℕ A → Vec ℕ A → Bool
  same v w = bytes_eq v.items w.items

  pub IsNumber-at : IsDistinct same keys → slice_get keys i ≡ Some found → items found ≡ name → IsNumber (map items keys) name i
  IsNumber-at distinct stands is =
      let within : i < length keys = slice_get_within keys i found stands in
      let there : get_or keys i found ≡ found = get_or_from_slice_get keys i found found stands in
      let test : Vec ℕ A → Bool = λ v. bytes_eq name (items v) in
      let first : position_or_len test keys ≡ i =
      position_or_len_is test keys i found (omega (arith, within))
      (λ j before.
      ap (λ n. bytes_eq n (items (get_or keys j found))) (sym is ∙ ap items (sym there))
      ∙ differs-turned (items (get_or keys i found)) (items (get_or keys j found)) (apart_from_distinct same keys j i found distinct before within))
      (λ _. (bytes_decides name (items (get_or keys i found))).1 (sym is ∙ ap items (sym there))) in
      position-map items (bytes_eq name) keys
      ∙ sym (cond_below (position_or_len test keys) (length keys) (Some (position_or_len test keys)) None (omega (arith, first, within)))
      ∙ ap Some first
