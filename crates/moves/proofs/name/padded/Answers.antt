use Rattle.std.proofs.Common.{ap, length, ◌++◌}
use Rattle.std.proofs.lemmas.List.{drop-replicate}
use Rattle.moves.proofs.name.padded.Goals as goal

pub returns : goal.returns
returns c =
    let bytes = c.args.bytes.now in
    rw c.copy_from_slice.ensures.after (ap (λ zs. bytes ++ zs) (drop-replicate (length bytes) 64 0))
