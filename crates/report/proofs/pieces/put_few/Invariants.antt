-- The bytes so far stand there, and there is room for the others.
use Rattle.std.proofs.Common.{◌≡◌, ◌+◌, ◌++◌, take, vec_len, vec_capacity}
use Rattle.report.proofs.pieces.put_few.Given as goal

abbrev pub invariant-loop-byte : goal.invariant-loop-byte
invariant-loop-byte l =
    (l.out.items ≡ l.fn.out.items ++ take l.byte-index l.bytes)
    × (vec_len l.out ≡ vec_len l.fn.out + l.byte-index)
    × (vec_capacity l.out ≡ vec_capacity l.fn.out)
