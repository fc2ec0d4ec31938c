-- Digits that are a number, one after another.
use Rattle.std.proofs.Common.{◌≡◌, ℕ, ◌+◌, ◌*◌, ◌/◌, ◌%◌, ◌<◌, List, [], ◌∷◌, ◌++◌, take, length, get_or, ap, sym, ◌∙◌, arith}
use Rattle.std.specs.Prelude.{decimal}
use Rattle.std.proofs.lemmas.Fmt.{decimal_digit, decimal_step}
use Rattle.std.proofs.lemmas.List.{take_more}

pub digit_first : (text : List ℕ) (d : ℕ) → 0 < length text → d < 10 → get_or text 0 0 ≡ 48 + d → take 1 text ≡ decimal d
digit_first text d some low byte = take_more text 0 0 some ∙ ap (λ (b : ℕ). b ∷ []) byte ∙ sym (decimal_digit d low)

pub digit_more : (text : List ℕ) (at n d : ℕ) → take at text ≡ decimal n → at < length text → 0 < n → n < 1000000000000000000 → d < 10 → get_or text at 0 ≡ 48 + d
    → take (at + 1) text ≡ decimal (n * 10 + d)
digit_more text at n d before inside some small low byte =
    let m : ℕ = n * 10 + d in
    let front : m / 10 ≡ n = omega (arith, low) in
    let last : m % 10 ≡ d = omega (arith, low) in
    take_more text at 0 inside
    ∙ ap (λ (xs : List ℕ). xs ++ get_or text at 0 ∷ []) before
    ∙ ap (λ (b : ℕ). decimal n ++ b ∷ []) byte
    ∙ sym (decimal_step m (omega (arith, some)) (omega (arith, small, low)) ∙ ap (λ (k : ℕ). decimal k ++ (48 + m % 10) ∷ []) front ∙ ap (λ (k : ℕ). decimal n ++ (48 + k) ∷ []) last)
