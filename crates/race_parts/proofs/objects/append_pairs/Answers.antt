use Rattle.std.proofs.Common.{◌+◌, None, Some, drop, rules}
use Rattle.race_parts.specs.Objects.{json_line, pair_lines, pair_object_at}
use Rattle.race_parts.proofs.LoopLemmas.{more_of, pairs-more, pairs-same, same_of}
use Rattle.race_parts.proofs.objects.append_pairs.Goals as goal
use Rattle.race_parts.proofs.objects.append_pairs.Goals.{then-is_new+in_ok-append_pair, else-is_new}

pub cells-preserved : goal.cells-preserved
cells-preserved c =
    let parts = c.args.parts in
    let cell = c.cell_at-cell.result in
    let left = drop c.cells.at c.args.cells.now in
    let behind = drop (c.cells.at + 1) c.args.cells.now in (
      elim c.if-is_new.branch [
        | then-is_new+in_ok-append_pair w ↦
            more_of c.args.out.now.items c.cells.out.items c.if-is_new.out.items (json_line (pair_object_at parts cell left))
            (pair_lines parts (Some cell) behind) (pair_lines parts c.cells.before left) (pair_lines parts None c.args.cells.now)
            c.cells.invariant.0 (pairs-more parts c.cells.before cell left behind c.cell_at-cell.ensures (search rules)) (search rules)
        | else-is_new w ↦
            same_of c.args.out.now.items c.cells.out.items c.if-is_new.out.items
            (pair_lines parts (Some cell) behind) (pair_lines parts c.cells.before left) (pair_lines parts None c.args.cells.now)
            c.cells.invariant.0 (pairs-same parts c.cells.before cell left behind c.cell_at-cell.ensures (search rules)) (search rules)
      ],
      search rules,
    )
