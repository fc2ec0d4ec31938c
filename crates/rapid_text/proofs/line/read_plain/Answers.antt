use Rattle.std.proofs.Common.{ap, subst, ◌∙◌}
use Rattle.rapid_text.specs.Marking.{HasNoBlank}
use Rattle.rapid_text.specs.Reading.{is_line_feed, line_reading}
use Rattle.rapid_text.proofs.Marked.{marked-before, taken-before}
use Rattle.rapid_text.proofs.line.read_plain.Goals as goal

pub read_parts-requires-clause-marked : goal.read_parts-requires-clause-marked
read_parts-requires-clause-marked c = marked-before is_line_feed c.args.marks c.args.text.now c.in_ok-line.line.now c.in_ok-line.ensures.before c.requires

pub read_parts-requires-clause-plain : goal.read_parts-requires-clause-plain
read_parts-requires-clause-plain c =
    let text = c.args.text.now in
    subst HasNoBlank (taken-before is_line_feed text c.in_ok-line.line.now c.in_ok-line.ensures.before) (c.is_plain.ensures c.if-is_plain.true text c.requires)

pub returns-then-is_plain-clause-line : goal.returns-then-is_plain-clause-line
returns-then-is_plain-clause-line c = c.in_ok-reading.ensures ∙ ap line_reading c.in_ok-line.ensures.before
