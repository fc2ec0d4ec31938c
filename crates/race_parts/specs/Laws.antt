-- Merging is a union: the order and the grouping of parts do not matter, nor how often a part is merged.
use Rattle.std.specs.Prelude.{◌≡◌, ℕ, List, ◌++◌, Some}
use Rattle.std.specs.BTreeMap.{BTreeMap, IsOrdered, get}
use Rattle.race_parts.specs.Parts.{bytes_cmp, joined, told_in}

-- no name has two different texts
abbrev pub AreAlike : List (List ℕ × List ℕ) → List (List ℕ × List ℕ) → Type 0
AreAlike xs ys = (q s t : List ℕ) → told_in xs q ≡ Some s → told_in ys q ≡ Some t → s ≡ t

pub record MergingIsAUnion : Type 0 where
  -- a name has its text in xs, or otherwise its text in ys
  pub each : (xs ys : List (List ℕ × List ℕ)) (q : List ℕ) → told_in (xs ++ ys) q ≡ joined (told_in xs q) (told_in ys q)
  pub commutes : (xs ys : List (List ℕ × List ℕ)) → AreAlike xs ys → (q : List ℕ) → told_in (xs ++ ys) q ≡ told_in (ys ++ xs) q
  pub associates : (xs ys zs : List (List ℕ × List ℕ)) (q : List ℕ) → told_in ((xs ++ ys) ++ zs) q ≡ told_in (xs ++ (ys ++ zs)) q
  pub again : (xs : List (List ℕ × List ℕ)) (q : List ℕ) → told_in (xs ++ xs) q ≡ told_in xs q
  -- and the texts of all names determine the list of parts
  pub one : (m n : BTreeMap (List ℕ) (List ℕ)) → IsOrdered bytes_cmp m → IsOrdered bytes_cmp n → ((q : List ℕ) → get bytes_cmp m q ≡ get bytes_cmp n q) → m.entries ≡ n.entries
