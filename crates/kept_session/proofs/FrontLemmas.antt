-- Which files begin with the lines that were known.
use Rattle.std.proofs.Common.{◌≡◌, ℕ, List, [], ◌++◌, inl, inr, sym, ap, ◌∙◌, subst, append_assoc, append-nil}
use Rattle.kept_log.specs.Log.{StandsFor, IsOldOrNew, BeginsWith}

-- a file that begins with more lines begins with the first of them
pub in_front : (head h : List ℕ) (before others lines : List (List ℕ)) (f : List ℕ) → h ≡ head → lines ≡ before ++ others → BeginsWith h lines f → BeginsWith head before f
in_front head h before others lines f same is begins = (
  others ++ begins.0,
  subst (λ ls. StandsFor head ls f) (ap (λ (ls : List (List ℕ)). ls ++ begins.0) is ∙ append_assoc before others begins.0) (subst (λ k. StandsFor k (lines ++ begins.0) f) same begins.1),
)

-- and so does one with a block or without it
pub old_or_new_front : (h : List ℕ) (lines gained : List (List ℕ)) (f : List ℕ) → IsOldOrNew h lines gained f → BeginsWith h lines f
old_or_new_front h lines gained f (inl stands) = ([], subst (λ ls. StandsFor h ls f) (sym (append-nil lines)) stands)
old_or_new_front h lines gained f (inr stands) = (gained, stands)
