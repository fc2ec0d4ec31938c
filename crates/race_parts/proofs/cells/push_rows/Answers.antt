use Rattle.std.proofs.Common.{◌++◌, map}
use Rattle.race_parts.specs.Cells.{row_said}
use Rattle.race_parts.specs.Said.{said_in}
use Rattle.race_parts.specs.Lines.{lines_of}
use Rattle.race_parts.proofs.LoopLemmas.{rows-end, rows-more}
use Rattle.race_parts.proofs.cells.push_rows.Goals as goal

pub lines-preserved : goal.lines-preserved
lines-preserved c =
    rows-more (said_in c.args.name.now) c.lines.rows.items c.push.new.self.items c.in_ok-row.row c.in-Some.line.now c.lines.rest.now c.in-Some.behind.now
    (map row_said c.args.rows.now.items ++ map (said_in c.args.name.now) (lines_of c.args.text.now)) c.in-Some.ensures.some.0 c.in-Some.ensures.some.1 c.in_ok-row.ensures c.in_ok-push.ensures.items
    c.lines.invariant

pub returns : goal.returns
returns c =
    rows-end (said_in c.args.name.now) c.lines.rows.items c.lines.rest.now (map row_said c.args.rows.now.items ++ map (said_in c.args.name.now) (lines_of c.args.text.now))
    (c.cut_line.ensures.none c.in_default.is) c.lines.invariant
