-- So far those bytes were appended.
use Rattle.std.proofs.Common.{◌≡◌, ◌++◌, take, flat_map}
use Rattle.race_page.specs.Shell.{quoted_byte}
use Rattle.race_page.proofs.shell.append_within.Given as goal

abbrev pub invariant-loop-byte : goal.invariant-loop-byte
invariant-loop-byte l = l.word.items ≡ l.fn.word.items ++ flat_map quoted_byte (take l.byte-index l.name)
