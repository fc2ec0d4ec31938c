use Rattle.std.proofs.Common.{cond}
use Rattle.deadlock_report.specs.Counts.{is_of}
use Rattle.deadlock_report.specs.declared.kinds.Kind.TheVariants.{Shown, Open, Never}
use Rattle.deadlock_report.proofs.CountLemmas.{one_longer, one_more}
use Rattle.deadlock_report.proofs.counts.Counts.add.Goals as goal

pub returns : goal.returns
returns c = λ r nested is_whole vs are.
    let v = c.args.verdict.now in
    record {
      events = are.events;
      threads = are.threads;
      nested = are.nested;
      patterns = one_longer vs v _ _ are.patterns c.saturating_add-self.ensures;
      deadlocks = one_more (λ v. cond (is_of Shown v) 1 0) vs v _ _ c.one_if.result are.deadlocks c.one_if.ensures c.saturating_add-self-2.ensures;
      undecided = one_more (λ v. cond (is_of Open v) 1 0) vs v _ _ c.one_if-2.result are.undecided c.one_if-2.ensures c.saturating_add-self-3.ensures;
      apart = one_more (λ v. cond (is_of Never v) 1 0) vs v _ _ c.one_if-3.result are.apart c.one_if-3.ensures c.saturating_add-self-4.ensures;
      whole = are.whole;
    }
