use Rattle.std.proofs.Common.{◌++◌, List, ℕ, refl, subst, sym}
use Rattle.std.proofs.lemmas.Result.{on_ok_weaker}
use Rattle.deadlock_triage.specs.declared.finding.Finding.{Finding}
use Rattle.deadlock_report.specs.Explained.{IsDeadlockTold, IsShownTold, requests_text}
use Rattle.deadlock_report.proofs.PieceLemmas.{two_pieces}
use Rattle.deadlock_report.proofs.explained.append_finding.Goals as goal

pub returns-in-Shown : goal.returns-in-Shown
returns-in-Shown c =
    let r = c.args.analysis.now in
    let pair = c.args.pair in
    let all = c.args.all in
    on_ok_weaker c.append_shown.result
    (λ told. (
      told.0,
      told.1,
      subst (λ (f : Finding). IsDeadlockTold r f pair.0 pair.1 all told.0) (sym c.in-Shown.is)
          (subst (λ (es : List ℕ). IsShownTold r es pair.0 pair.1 all told.0) c.events.ensures.same told.2),
    ))
    c.append_shown.ensures

pub returns-in_ok-append_reason-in-Apart : goal.returns-in_ok-append_reason-in-Apart
returns-in_ok-append_reason-in-Apart c =
    let r = c.args.analysis.now in
    let pair = c.args.pair in
    let reason = c.in_ok-append_reason-in-Apart.ensures in
    let asked = requests_text r pair.0 pair.1 in
    on_ok_weaker c.append_requests.result
    (λ added. (
      _,
      two_pieces c.args.out.now.items reason.0 asked _ _ reason.1 added,
      subst (λ (f : Finding). IsDeadlockTold r f pair.0 pair.1 c.args.all (reason.0 ++ asked)) (sym c.in-Apart.is) (reason.0, reason.2, refl),
    ))
    c.append_requests.ensures

pub returns-in-Undecided : goal.returns-in-Undecided
returns-in-Undecided c =
    let r = c.args.analysis.now in
    let pair = c.args.pair in
    on_ok_weaker c.append_undecided.result
    (λ told. (
      told.0,
      told.1,
      subst (λ (f : Finding). IsDeadlockTold r f pair.0 pair.1 c.args.all told.0) (sym c.in-Undecided.is) told.2,
    ))
    c.append_undecided.ensures
