use Rattle.std.proofs.Common.{◌≡◌, ◌++◌, codes, take}
use Rattle.window.specs.HeadText.{noted_lines, said_line}
use Rattle.window.specs.Heads.{level_names, names_of}
use Rattle.window.specs.Streams.{read_name}
use Rattle.window.proofs.heads.append_level_reads.Given as goal

abbrev pub invariant-loop-at : goal.invariant-loop-at
invariant-loop-at l =
    l.text.items ≡ l.fn.text.items ++ noted_lines (λ name. said_line name (codes "r") read_name) (level_names l.noted) (take l.at (names_of l.level))
