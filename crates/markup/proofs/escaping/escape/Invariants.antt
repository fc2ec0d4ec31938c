-- The markup so far is that of the characters so far.
use Rattle.std.proofs.Common.{◌≡◌, flat_map, string_bytes}
use Rattle.markup.specs.Escaped.{escaped_char}
use Rattle.markup.proofs.escaping.escape.Given as goal

abbrev pub invariant-loop-letter : goal.invariant-loop-letter
invariant-loop-letter l = string_bytes l.markup ≡ flat_map escaped_char l.yielded
