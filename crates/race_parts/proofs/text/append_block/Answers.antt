use Rattle.std.proofs.Common.{drop, slice_get}
use Rattle.race_parts.specs.Texts.{part_text, row_text_at, tallies_text}
use Rattle.race_parts.proofs.LoopLemmas.{three_of}
use Rattle.race_parts.proofs.text.append_block.Goals as goal

pub returns : goal.returns
returns c =
    three_of c.args.out.now.items c.append_row_at.new.out.items c.append_tallies.new.out.items c.append_part.new.out.items
    (row_text_at (slice_get c.args.rows.now c.args.cell.number)) (tallies_text c.args.parts c.args.cell (drop c.args.at c.args.cells.now)) (part_text c.args.cell.part.now)
    c.in_ok-append_row_at.ensures c.in_ok-append_tallies.ensures c.in_ok-append_part.ensures
