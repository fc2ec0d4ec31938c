use Rattle.std.proofs.Common.{◌≡◌, ◌++◌, ◌∙◌, ap, Err, List, ℕ}
use Rattle.kept_log.specs.Log.{head_of, lines_of}
use Rattle.kept_session.proofs.CatchingLemmas.{block_fault, block_unchanged, block_written}
use Rattle.kept_session.proofs.WholeLemmas.{block_long}
use Rattle.kept_session.proofs.LogLemmas.{grown_log, grown_logged}
use Rattle.kept_session.proofs.session.Session.make_piece.Goals as goal

pub returns-in-Ok-clause-at_work : goal.returns-in-Ok-clause-at_work
returns-in-Ok-clause-at_work g c =
    let answered = c.in_ok-next.ensures.answered in
    let gained : lines_of g.D.Device c.add.new.self ≡ lines_of g.D.Device c.args.self.now.log ++ answered.lines =
    c.in-Ok.ensures.lines
    ∙ ap (λ (b : List (List ℕ)). lines_of g.D.Device c.args.self.now.log ++ b) (answered.kept ∙ ap (λ (b : List (List ℕ)). b ++ answered.lines) (c.make_room.ensures ∙ c.new-block.ensures)) in
    record {
      at_rest = c.in-Ok.ensures.at_rest;
      says = grown_log _ _ (lines_of g.D.Device c.args.self.now.log) answered.lines _ _ _ c.in_ok-next.ensures.trace gained c.requires.at_work.says answered.gained;
      logged = grown_logged _ _ (lines_of g.D.Device c.args.self.now.log) answered.lines _ _ c.in_ok-next.ensures.trace gained c.requires.at_work.says c.requires.at_work.logged answered.logged;
    }

pub returns-in-Err-clause-fault : goal.returns-in-Err-clause-fault
returns-in-Err-clause-fault g c = block_fault c.in-Err.why c.from.result c.from.ensures

pub returns-in-Err-clause-unchanged : goal.returns-in-Err-clause-unchanged
returns-in-Err-clause-unchanged g c =
    block_unchanged c.in-Err.why c.from.result _ c.from.ensures
    (λ room. let same = c.in-Err.ensures.memory (ap Err room) in (ap (head_of g.D.Device) same, ap (lines_of g.D.Device) same))
    (λ memory. c.in-Err.ensures.refused (ap Err memory))

pub returns-in-Err-clause-unwritten : goal.returns-in-Err-clause-unwritten
returns-in-Err-clause-unwritten g c =
    block_written c.in-Err.why c.from.result _ _ c.from.ensures (λ failed. c.in-Err.ensures.failed (ap Err failed)) c.in-Err.ensures.not_shorter
    (λ full.
    let long = c.in-Err.ensures.full (ap Err full) in
    block_long g.D.Device c.args.self.now.bench.trace _ _ _ _ _ _ _ _ _ c.args.self.now.log c.add.new.self c.in_ok-next.ensures.answered (c.make_room.ensures ∙ c.new-block.ensures)
    c.requires.at_work.says c.requires.at_work.at_rest long.0 long.1)
