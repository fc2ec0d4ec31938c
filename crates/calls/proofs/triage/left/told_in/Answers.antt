use Rattle.std.proofs.Common.{None, ap, ◌∙◌}
use Rattle.race_parts.specs.Texts.{heads_count}
use Rattle.calls.proofs.triage.left.told_in.Goals as goal

pub returns : goal.returns
returns c = record {
  rows = c.args.rows.now;
  cells = c.args.cells.now;
  left = c.in_ok-left.left;
  all = c.requires.rows;
  sorted = c.requires.sorted;
  is_left = c.in_ok-left.ensures;
  is = c.in_ok-text.ensures;
  races_is = c.races_in.ensures ∙ ap (heads_count 0 None) c.as_slice.ensures.value;
}
