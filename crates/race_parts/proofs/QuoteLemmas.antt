-- Bytes that stand for themselves in quotes, a run after another.
use Rattle.std.proofs.Common.{◌≡◌, ◌==◌, ℕ, zero, suc, ◌+◌, ◌-◌, ◌<◌, ◌≤◌, Bool, false, List, [], ◌∷◌, take, drop, length, map, nat_le, get_or, refl, sym, ap, subst, ◌∙◌, arith, inl, inr}
use Rattle.std.specs.Int.{bit_at}
use Rattle.std.specs.Simd.Lanes.{mask_l}
use Rattle.std.proofs.lemmas.Bool.{cases_lt, eqb-false, false≢true, le-leb}
use Rattle.std.proofs.lemmas.List.{get_or-drop, get_or-map, get_or-take, length-drop, length-take, take_all}
use Rattle.json.specs.Print.{escape, escape_byte}
use Rattle.json.proofs.Printed.Strings.{escape_byte_plain}
use Rattle.rapid_text.proofs.Marked.{mask-set}
use Rattle.rapid_text.proofs.Positions.{not_true}
use Rattle.race_parts.proofs.ScanLemmas.{plain_more}

-- a bit is clear, so the lane does not pass
clear_lane : (test : ℕ → Bool) (xs : List ℕ) (n k : ℕ) → n ≤ length xs → k < n → bit_at (mask_l (map test (take n xs))) k ≡ 0 → test (get_or xs k 0) ≡ false
clear_lane test xs n k le lt clear =
    let front = take n xs in
    let inside : k < length front = omega (arith, lt, le, length-take n xs) in
    not_true (test (get_or xs k 0))
    (λ passes.
    let set : bit_at (mask_l (map test front)) k ≡ 1 = mask-set (map test front) k (get_or-map test front k 0 false inside ∙ ap test (get_or-take n xs k 0 lt) ∙ passes) in
    absurd (omega (arith, set, clear)))

above : (x : ℕ) → nat_le x 31 ≡ false → 32 ≤ x
above x e =
    elim (cases_lt 31 x) [
      | inl more ↦ omega (arith, more)
      | inr le ↦ absurd (false≢true (sym e ∙ le-leb x 31 le))
    ]

pub plain_lane : (xs : List ℕ) (q s c k : ℕ) → 32 ≤ length xs → k < 32
    → q ≡ mask_l (map (λ x. x == 34) (take 32 xs)) → s ≡ mask_l (map (λ x. x == 92) (take 32 xs)) → c ≡ mask_l (map (λ x. nat_le x 31) (take 32 xs))
    → bit_at q k ≡ 0 → bit_at s k ≡ 0 → bit_at c k ≡ 0 → escape_byte (get_or xs k 0) ≡ get_or xs k 0 ∷ []
plain_lane xs q s c k le lt eq es ec bq bs bc =
    escape_byte_plain (get_or xs k 0)
    (eqb-false (get_or xs k 0) 34 (clear_lane (λ x. x == 34) xs 32 k le lt (ap (λ m. bit_at m k) (sym eq) ∙ bq)))
    (eqb-false (get_or xs k 0) 92 (clear_lane (λ x. x == 92) xs 32 k le lt (ap (λ m. bit_at m k) (sym es) ∙ bs)))
    (above (get_or xs k 0) (clear_lane (λ x. nat_le x 31) xs 32 k le lt (ap (λ m. bit_at m k) (sym ec) ∙ bc)))

-- so many bytes more stand for themselves
pub plain_run : (xs : List ℕ) (at n m : ℕ) → at + n ≡ m → m ≤ length xs → escape (take at xs) ≡ take at xs
    → ((k : ℕ) → k < n → escape_byte (get_or (drop at xs) k 0) ≡ get_or (drop at xs) k 0 ∷ []) → escape (take m xs) ≡ take m xs
plain_run xs at zero m e inside before each = subst (λ (t : ℕ). escape (take t xs) ≡ take t xs) (omega (arith, e)) before
plain_run xs at (suc n) m e inside before each =
    let front : escape (take (at + n) xs) ≡ take (at + n) xs = plain_run xs at n (at + n) refl (omega (arith, e, inside)) before (λ k lt. each k (omega (arith, lt))) in
    let byte : escape_byte (get_or xs (at + n) 0) ≡ get_or xs (at + n) 0 ∷ [] = subst (λ (b : ℕ). escape_byte b ≡ b ∷ []) (get_or-drop at xs n 0) (each n (omega arith)) in
    subst (λ (t : ℕ). escape (take t xs) ≡ take t xs) (omega (arith, e)) (plain_more xs (at + n) (omega (arith, e, inside)) front byte)

-- the same of the bytes of what is left
pub plain_next : (xs : List ℕ) (at n : ℕ) → at + n ≤ length xs → escape (take at xs) ≡ take at xs
    → ((k : ℕ) → k < n → escape_byte (get_or (take (length xs - at) (drop at xs)) k 0) ≡ get_or (take (length xs - at) (drop at xs)) k 0 ∷ [])
    → escape (take (at + n) xs) ≡ take (at + n) xs
plain_next xs at n inside before each =
    plain_run xs at n (at + n) refl inside before
    (subst (λ (ys : List ℕ). (k : ℕ) → k < n → escape_byte (get_or ys k 0) ≡ get_or ys k 0 ∷ []) (take_all (length xs - at) (drop at xs) (omega (arith, length-drop at xs))) each)
