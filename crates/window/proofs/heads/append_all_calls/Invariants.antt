use Rattle.std.proofs.Common.{◌≡◌, ◌++◌, flat_map, take}
use Rattle.window.specs.HeadText.{noted_lines, said_line}
use Rattle.window.specs.Heads.{level_names, names_of}
use Rattle.window.proofs.heads.append_all_calls.Given as goal

abbrev pub invariant-loop-at : goal.invariant-loop-at
invariant-loop-at l =
    l.text.items ≡ l.fn.text.items ++ noted_lines (λ name. said_line l.thread l.word name) (level_names l.noted) (flat_map names_of (take l.at l.noted.levels.items))
