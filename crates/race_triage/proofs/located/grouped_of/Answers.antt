use Rattle.std.proofs.Common.{ℕ, List, subst}
use Rattle.race_triage.specs.Tables.{AreClassesOf}
use Rattle.race_triage.proofs.located.grouped_of.Goals as goal

pub returns-clause-classes : goal.returns-clause-classes
returns-clause-classes c =
    let r = c.args.indexed.now in
    let is = c.in_ok-classes.ensures in
    let made : AreClassesOf r c.as_slice.result.now c.in_ok-classes.classes = record {
      classes = is.classes;
      few = is.few;
      members = is.members;
      locks = is.locks;
    } in
    subst (λ (ns : List ℕ). AreClassesOf r ns c.in_ok-classes.classes) c.as_slice.ensures.value made
