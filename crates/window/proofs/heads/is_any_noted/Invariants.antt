use Rattle.std.proofs.Common.{◌≡◌, ℕ, List, [], take}
use Rattle.window.specs.HeadText.{noted_lines}
use Rattle.window.specs.Heads.{level_names}
use Rattle.window.proofs.heads.is_any_noted.Given as goal

abbrev pub invariant-loop-thread : goal.invariant-loop-thread
invariant-loop-thread l = (line : List ℕ → List ℕ) → noted_lines line (level_names l.noted) (take l.thread l.raw.threads) ≡ []
