-- The blocks so far are those of the verdicts so far.
use Rattle.std.proofs.Common.{◌≡◌, ◌++◌, take}
use Rattle.deadlock_report.specs.Texts.{kind_blocks}
use Rattle.deadlock_report.proofs.text.append_blocks.Given as goal

abbrev pub invariant-loop-verdict : goal.invariant-loop-verdict
invariant-loop-verdict l = l.out.items ≡ l.fn.out.items ++ kind_blocks l.analysis l.kind (take l.verdict-index l.verdicts)
