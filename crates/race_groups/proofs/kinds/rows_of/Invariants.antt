use Rattle.std.proofs.Common.{◌≡◌, All, map, take, slice_index}
use Rattle.std.specs.Map.{keys_of}
use Rattle.race_groups.specs.Kinds.{IsRow}
use Rattle.race_groups.specs.declared.kinds.Row.{Row}
use Rattle.race_groups.proofs.kinds.rows_of.Given as goal

abbrev pub invariant-loop-at : goal.invariant-loop-at
invariant-loop-at l =
    record {
      rows : All (IsRow l.indexed (slice_index l.fn.places)) l.rows.items;
      places : map (λ (row : Row). row.places) l.rows.items ≡ keys_of (take l.at l.counted.entries);
    }
