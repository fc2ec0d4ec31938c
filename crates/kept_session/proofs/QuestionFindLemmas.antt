-- A search over numbers, one at a time.
use Rattle.std.proofs.Common.{◌≡◌, ◌+◌, ℕ, suc, Bool, false, ap, ◌∙◌, find}
use Rattle.std.specs.List.{range_with_len}

-- a number that fails the test is passed
pub find-past : (test : ℕ → Bool) (n a b : ℕ) → a ≡ suc b → test n ≡ false → find test (range_with_len n a) ≡ find test (range_with_len (n + 1) b)
find-past test n a b one fails = ap (λ (k : ℕ). find test (range_with_len n k)) one ∙ simp fails
