use Rattle.std.specs.Prelude.{⊤}
use Rattle.std.proofs.Common.{◌≡◌, ◌%◌, arith}
use Rattle.std.proofs.lemmas.Result.{IfOk-weaker}
use Rattle.race_triage.proofs.OnceLemmas.{AreOn-weaker}
use Rattle.race_triage.proofs.workers.all_verdicts.Goals as goal

pub returns-then-found-eq0 : goal.returns-then-found-eq0
returns-then-found-eq0 g c =
    IfOk-weaker c.part_of.result _ _
    (λ vs part. record {
      verdicts = part.verdicts;
      answered = λ k d lt. part.answered k d lt (omega arith);
      on = AreOn-weaker c.args.found.now.groups.rows.items (λ at. at % 1 ≡ 0) (λ at. ⊤) vs.items (λ k own. tt) part.on;
    })
    c.part_of.ensures
