-- Lines that are numbered, and a text in two parts.
use Rattle.std.proofs.Common.{◌≡◌, ℕ, zero, suc, ◌+◌, List, [], ◌++◌, ap, sym, ◌∙◌, arith, add-one, append-nil, append_assoc}
use Rattle.std.specs.List.{flat_map, range_with_len}

-- the texts of one number more
flat_map-suc : (f : ℕ → List ℕ) (a n j : ℕ) → a + n ≡ j
    → flat_map f (range_with_len a (suc n)) ≡ flat_map f (range_with_len a n) ++ f j
flat_map-suc f a zero j at = let same : a ≡ j = (omega (arith, at)) in simp (same, append-nil)
flat_map-suc f a (suc n) j at =
    ap (λ (later : List ℕ). f a ++ later) (flat_map-suc f (a + 1) n j (omega (arith, at)))
    ∙ sym (append_assoc (f a) (flat_map f (range_with_len (a + 1) n)) (f j))

-- the line of one more
pub lines-more : (f : ℕ → List ℕ) (n : ℕ)
    → flat_map f (range_with_len 0 (n + 1)) ≡ flat_map f (range_with_len 0 n) ++ f n
lines-more f n = ap (λ m. flat_map f (range_with_len 0 m)) (add-one n) ∙ flat_map-suc f 0 n n (omega arith)

-- two parts of a text that is empty at first, and is then appended to another
pub appended-parts : (old empty one both lent new first second : List ℕ)
    → empty ≡ [] → one ≡ empty ++ first → both ≡ one ++ second → lent ≡ both → new ≡ old ++ lent
    → new ≡ old ++ (first ++ second)
appended-parts old empty one both lent new first second none at_first at_second same whole = cc
