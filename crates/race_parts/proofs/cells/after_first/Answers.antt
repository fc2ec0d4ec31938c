use Rattle.std.proofs.Common.{ap, drop, rules, sym, ◌∙◌}
use Rattle.race_parts.specs.Lines.{lines_of}
use Rattle.race_parts.proofs.LineLemmas.{lines-more, lines-none}
use Rattle.race_parts.proofs.cells.after_first.Goals as goal

pub returns-in-Some : goal.returns-in-Some
returns-in-Some c = sym (ap (drop 1) (ap lines_of c.in-Some.ensures.some.0 ∙ lines-more _ _ c.in-Some.ensures.some.1))

pub returns-in-None : goal.returns-in-None
unfolding lines_of
returns-in-None c = sym (ap (drop 1) (lines-none c.args.text.now (search rules)))
