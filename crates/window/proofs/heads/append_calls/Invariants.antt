use Rattle.std.proofs.Common.{◌≡◌, ◌++◌, take}
use Rattle.window.specs.HeadText.{noted_lines, said_line}
use Rattle.window.specs.Heads.{level_names}
use Rattle.window.proofs.heads.append_calls.Given as goal

abbrev pub invariant-loop-other : goal.invariant-loop-other
invariant-loop-other l =
    l.text.items ≡ l.fn.text.items ++ noted_lines (λ name. said_line l.thread l.word name) (level_names l.noted) (take l.other l.raw.threads)
