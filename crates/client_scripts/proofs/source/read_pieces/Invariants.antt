use Rattle.std.proofs.Common.{◌≡◌, ◌<◌, ◌≤◌, ◌-◌, false, vec_len, length}
use Rattle.std.specs.Io.KnownBytes.{Consumes}
use Rattle.client_scripts.specs.declared.fault.TheConstants.{LIMIT}
use Rattle.client_scripts.proofs.source.read_pieces.Given as goal

-- what was read so far is kept
abbrev pub invariant-reads : goal.invariant-reads
invariant-reads g l =
    (g.S.Source.has_failed l.source ≡ false) × (vec_len l.out ≤ LIMIT) × (0 < length l.piece) × Consumes (g.S.Source.rest l.fn.source) (g.S.Source.rest l.source) l.out.items

abbrev pub decreases-reads : goal.decreases-reads
decreases-reads g l = LIMIT - vec_len l.out
