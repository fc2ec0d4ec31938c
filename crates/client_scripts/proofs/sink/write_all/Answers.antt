use Rattle.std.proofs.Common.{arith}
use Rattle.std.proofs.Math.Seq.{take-add}
use Rattle.std.proofs.lemmas.List.{take_rest}
use Rattle.client_scripts.proofs.KnownBytesLemmas.{Appends-then}
use Rattle.client_scripts.proofs.sink.write_all.Goals as goal

pub loop-at-preserved : goal.loop-at-preserved
loop-at-preserved g c =
    let inv = c.loop-at.invariant in
    let wrote = c.in_ok-at.ensures in (
      rw inv.0 at wrote.failed,
      omega (arith, wrote.bound),
      rw (take-add c.loop-at.at c.in_ok-at.field-0 c.args.bytes.now) (Appends-then _ _ _ _ _ inv.2 (rw take_rest at wrote.bytes)),
    )
