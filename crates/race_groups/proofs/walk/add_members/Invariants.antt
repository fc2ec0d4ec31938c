use Rattle.std.proofs.Common.{◌≡◌, ℕ, ◌+◌, ◌-◌, ◌≤◌, length, take, sum_by}
use Rattle.std.specs.Bool.{if◌then◌else◌}
use Rattle.std.specs.List.{slice_get}
use Rattle.race_groups.specs.Classes.{adds_to}
use Rattle.race_groups.specs.Counts.{keeps}
use Rattle.race_groups.specs.Rows.{Part, count_at, AreRows}
use Rattle.race_groups.proofs.walk.add_members.Given as goal

abbrev pub invariant-loop-at : goal.invariant-loop-at
invariant-loop-at g l =
    record {
      rows : AreRows l.rows;
      within : l.at ≤ length l.members;
      counts :
          (k : Part) (p q : ℕ) → p ≤ q
          → count_at k l.rows p q ≡ count_at k l.fn.rows p q
          + sum_by (λ c. if adds_to (keeps l.classes.lists.keys k) p q l.later (slice_get l.classes.infos.items c) then g.A.Shares.amount_of l.shares k c else 0) (take l.at l.members);
    }

abbrev pub decreases-loop-at : goal.decreases-loop-at
decreases-loop-at g l = length l.members - l.at
