-- Which read on the way from one event to another races with the write that it reads.
use Rattle.std.specs.Prelude.{◌≡◌, ◌⊎◌, ℕ, List, Option, None}
use Rattle.rapid_text.specs.Recording.{Recording}
use Rattle.must_order.specs.Chains.{AreReasons}
use Rattle.must_order.specs.MustBefore.{IsMustBefore}
use Rattle.must_order.specs.declared.chains.Chain.{Chain}
use Rattle.must_order.specs.declared.chains.Step.{Step}
use Rattle.explain_report.specs.Chains.{raced_step}

-- the first such step of chains that show why a is must-before b; none if it is not
abbrev pub IsRacedIn : Recording → ℕ → ℕ → Option Step → Type 0
IsRacedIn r a b raced =
    ((cs : List Chain) × AreReasons r.events a b cs × (raced ≡ raced_step r.events cs)) ⊎ ((¬ IsMustBefore r.events a b) × (raced ≡ None))
