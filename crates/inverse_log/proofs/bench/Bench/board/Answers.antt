use Rattle.std.proofs.Common.{◌≡◌, All, sym, subst}
use Rattle.inverse_log.specs.Headline.{IsSound}
use Rattle.inverse_log.specs.Log.{Benched, board_of}
use Rattle.inverse_log.proofs.HeadLemmas.{fold_law}
use Rattle.inverse_log.proofs.bench.Bench.board.Goals as goal

pub returns-clause-board : goal.returns-clause-board
returns-clause-board c = subst (λ (v : Benched). c.self.inside.board ≡ board_of v.trace v.log) c.self.view_is c.self.invariant.kept.board

pub returns-clause-sound : goal.returns-clause-sound
returns-clause-sound c =
    let s = c.self.inside in
    let b = c.self.invariant in
    subst (λ (v : Benched). All (IsSound v.trace) s.board) c.self.view_is (subst (All (IsSound _)) (sym b.kept.board) (fold_law _ s.log.items b.disciplined b.legal).1)
