use Rattle.std.proofs.Common.{subst, sym}
use Rattle.rapid_text.specs.Recording.{Recording}
use Rattle.deadlock_triage.specs.Rows.{IsNext}
use Rattle.deadlock_triage.specs.Verdicts.{IsJudged}
use Rattle.deadlock_triage.proofs.VisitLemmas.{next-same}
use Rattle.deadlock_triage.proofs.judge.Judge.next.Goals as goal

pub returns-then-is_settled : goal.returns-then-is_settled
returns-then-is_settled c =
    next-same c.args.self.now.analysis.now.events c.args.first c.args.second c.args.row (c.is_settled.ensures c.if-is_settled.true)

pub returns-then-is_over : goal.returns-then-is_over
returns-then-is_over c =
    subst (λ (p : Recording). IsNext p.events c.args.first c.args.second c.args.row c.given_up.result) c.indexed-indexed.ensures c.given_up.ensures

pub after-requires : goal.after-requires
after-requires c =
    subst (λ (p : Recording). IsJudged p.events c.args.first c.args.second c.in_ok-known.known) (sym c.indexed-indexed.ensures) c.in_ok-known.ensures

pub returns : goal.returns
returns c =
    subst (λ (p : Recording). IsNext p.events c.args.first c.args.second c.args.row c.after.result) c.indexed-indexed.ensures c.after.ensures
