-- The lines so far are those of the tallies so far.
use Rattle.std.proofs.Common.{◌≡◌, ◌++◌, take}
use Rattle.explain_report.specs.RunTexts.{tally_lines}
use Rattle.explain_report.proofs.folded.append_each_tally.Given as goal

abbrev pub invariant-loop-tally : goal.invariant-loop-tally
invariant-loop-tally l = l.out.items ≡ l.fn.out.items ++ tally_lines l.indexed (take l.tally-index l.tallies)
