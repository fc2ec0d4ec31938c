use Rattle.std.proofs.Common.{[], append-nil, ap, sym, refl, ◌∙◌, inr}
use Rattle.rapid_text.specs.Recording.{Recording}
use Rattle.explain_report.specs.Causes.{lock_taken}
use Rattle.deadlock_report.proofs.WaitLemmas.{no_wait}
use Rattle.deadlock_report.proofs.explained.append_wait.Goals as goal

pub returns-in-None : goal.returns-in-None
returns-in-None c =
    let none = sym (c.in-None.ensures.lock ∙ ap (λ (r : Recording). lock_taken r.events c.args.request) c.indexed.ensures) in
    ([], sym (append-nil _), inr (no_wait c.args.analysis.now.events c.args.request c.args.other none, refl))
