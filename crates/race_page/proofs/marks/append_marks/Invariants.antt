-- So far those marks stand there.
use Rattle.std.proofs.Common.{◌≡◌, ◌++◌, take}
use Rattle.race_page.specs.Marks.{marks_text}
use Rattle.race_page.proofs.marks.append_marks.Given as goal

abbrev pub invariant-loop-mark : goal.invariant-loop-mark
invariant-loop-mark l = l.out.items ≡ l.fn.out.items ++ marks_text (take l.mark-index l.marks)
