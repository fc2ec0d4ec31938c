use Rattle.std.proofs.Common.{map}
use Rattle.race_parts.specs.Cells.{row_said, rows_of_part}
use Rattle.race_parts.specs.Kept.{kept_said}
use Rattle.race_parts.proofs.KeptLemmas.{kept_at, on_ok_more}
use Rattle.race_parts.proofs.cells.push_part.Goals as goal

pub returns-in-Some : goal.returns-in-Some
returns-in-Some c =
    on_ok_more c.push_kept.result (map row_said c.push_kept.new.rows.items) (map row_said c.args.rows.now.items)
    (map (kept_said c.args.name.now c.args.part.now.text.items) c.in-Some.kept.items) (rows_of_part c.args.name.now c.args.part.now)
    (kept_at c.args.part.now.text.items c.args.part.now.rows c.in-Some.kept c.args.name.now c.args.part.now.read c.in-Some.is)
    c.push_kept.ensures
