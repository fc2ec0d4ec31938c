use Rattle.std.proofs.Common.{drop}
use Rattle.rapid_text.proofs.Marked.{marked-drop}
use Rattle.rapid_text.proofs.marks.Marks.behind.Goals as goal

pub returns : goal.returns
returns c xs marked = marked-drop c.args.self c.args.count xs marked

pub returns-then-count-ge64 : goal.returns-then-count-ge64
returns-then-count-ge64 c xs marked = c.none.ensures (drop c.args.count xs)
