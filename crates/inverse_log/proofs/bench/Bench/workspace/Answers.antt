use Rattle.std.proofs.Common.{subst}
use Rattle.inverse_log.specs.Headline.{IsFoldOfLive}
use Rattle.inverse_log.specs.Log.{Benched}
use Rattle.inverse_log.proofs.HeadLemmas.{fold_law}
use Rattle.inverse_log.proofs.KeptLemmas.{kept_rows}
use Rattle.inverse_log.proofs.bench.Bench.workspace.Goals as goal

pub returns : goal.returns
returns c =
    let s = c.self.inside in
    let b = c.self.invariant in
    rw c.workspace.ensures (subst (λ (v : Benched). IsFoldOfLive v.trace v.log s.rows.rows) c.self.view_is (subst (IsFoldOfLive _ s.log.items) (kept_rows _ s.log.items s.rows.rows s.board s.steps.items b.kept) (fold_law _ s.log.items b.disciplined b.legal).0))
