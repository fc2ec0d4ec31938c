-- What follows from what holds at an answer.
use Rattle.std.proofs.Common.{Result, Ok, Err}
use Rattle.std.specs.Prelude.{OnOk}

pub then-ok : {X E A B : Type 0} (r : Result X E) → (A → B) → OnOk r A → OnOk r B
then-ok (Ok x) next holds = next holds
then-ok (Err why) next holds = tt
