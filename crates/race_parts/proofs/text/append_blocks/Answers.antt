use Rattle.std.proofs.Common.{◌+◌, None, Some, drop, rules}
use Rattle.race_parts.specs.Texts.{block_text, blocks_text}
use Rattle.race_parts.proofs.LoopLemmas.{blocks-more, blocks-same, more_of, same_of}
use Rattle.race_parts.proofs.text.append_blocks.Goals as goal
use Rattle.race_parts.proofs.text.append_blocks.Goals.{then-is_head+in_ok-append_block, else-is_head}

pub cells-preserved : goal.cells-preserved
cells-preserved c =
    let parts = c.args.parts in
    let rows = c.args.rows.now in
    let rank = c.args.rank in
    let cell = c.cell_at-cell.result in
    let left = drop c.cells.at c.args.cells.now in
    let behind = drop (c.cells.at + 1) c.args.cells.now in (
      elim c.if-is_head.branch [
        | then-is_head+in_ok-append_block w ↦
            more_of c.args.out.now.items c.cells.out.items c.if-is_head.out.items (block_text parts rows cell left)
            (blocks_text parts rows rank (Some cell) behind) (blocks_text parts rows rank c.cells.before left) (blocks_text parts rows rank None c.args.cells.now)
            c.cells.invariant.0 (blocks-more parts rows rank c.cells.before cell left behind c.cell_at-cell.ensures (search rules)) (search rules)
        | else-is_head w ↦
            same_of c.args.out.now.items c.cells.out.items c.if-is_head.out.items
            (blocks_text parts rows rank (Some cell) behind) (blocks_text parts rows rank c.cells.before left) (blocks_text parts rows rank None c.args.cells.now)
            c.cells.invariant.0 (blocks-same parts rows rank c.cells.before cell left behind c.cell_at-cell.ensures (search rules)) (search rules)
      ],
      search rules,
    )
