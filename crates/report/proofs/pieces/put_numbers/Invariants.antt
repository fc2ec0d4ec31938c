-- The numbers so far stand there, and there is room for the others.
use Rattle.std.proofs.Common.{◌≡◌, ◌+◌, ◌*◌, ◌≤◌, ◌++◌, take, vec_len, vec_capacity}
use Rattle.report.specs.Pieces.{spaced}
use Rattle.report.proofs.pieces.put_numbers.Given as goal

abbrev pub invariant-loop-number : goal.invariant-loop-number
invariant-loop-number l =
    (l.out.items ≡ l.fn.out.items ++ spaced (take l.number-index l.numbers))
    × (vec_len l.out ≤ vec_len l.fn.out + 11 * l.number-index)
    × (vec_capacity l.out ≡ vec_capacity l.fn.out)
