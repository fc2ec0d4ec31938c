use Rattle.std.proofs.Common.{◌+◌, None, Some, drop, map, rules}
use Rattle.race_parts.specs.Pairs.{pair_shown, pair_told, pairs_told}
use Rattle.race_parts.proofs.PairLemmas.{pairs-grown, pairs-kept, told-more, told-same}
use Rattle.race_parts.proofs.pairs.push_pairs.Goals as goal
use Rattle.race_parts.proofs.pairs.push_pairs.Goals.{then-is_head+in_ok-push_pair, else-is_head}

pub cells-preserved : goal.cells-preserved
cells-preserved c =
    let rows = c.args.rows.now in
    let rank = c.args.rank in
    let cell = c.cell_at-cell.result in
    let left = drop c.cells.at c.args.cells.now in
    let behind = drop (c.cells.at + 1) c.args.cells.now in
    let old = map pair_shown c.args.pairs.now.items in
    let now = map pair_shown c.cells.pairs.items in
    let new = map pair_shown c.if-is_head.pairs.items in (
      elim c.if-is_head.branch [
        | then-is_head+in_ok-push_pair w ↦
            pairs-grown old now new (pair_told rows cell left) (pairs_told rows rank (Some cell) behind) (pairs_told rows rank c.cells.before left)
            (pairs_told rows rank None c.args.cells.now) c.cells.invariant.0 (told-more rows rank c.cells.before cell left behind c.cell_at-cell.ensures (search rules)) (search rules)
        | else-is_head w ↦
            pairs-kept old now new (pairs_told rows rank (Some cell) behind) (pairs_told rows rank c.cells.before left)
            (pairs_told rows rank None c.args.cells.now) c.cells.invariant.0 (told-same rows rank c.cells.before cell left behind c.cell_at-cell.ensures (search rules)) (search rules)
      ],
      search rules,
    )
