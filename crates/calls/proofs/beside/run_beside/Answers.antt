use Rattle.std.proofs.Common.{length, subst}
use Rattle.std.specs.Arc.{arc_value}
use Rattle.calls.specs.Jobs.{AnswerJobs}
use Rattle.calls.proofs.ToldLemmas.{behind-back, behind-seat}
use Rattle.calls.proofs.beside.run_beside.Goals as goal

pub returns-then-workers-eq0-clause-told : goal.returns-then-workers-eq0-clause-told
returns-then-workers-eq0-clause-told g c =
    subst (λ trace. AnswerJobs trace c.args.jobs.items c.in_ok-run_all.field-0.items) c.deref.ensures c.in_ok-run_all.ensures.told

pub unreachable-requires : goal.unreachable-requires
unreachable-requires g c =
    behind-seat c.args.seats.now.site (length c.args.jobs.items) c.args.workers c.args.seats.now.rows c.if-workers-eq0.false c.requires.rows c.in_default.ensures.none.1

pub returns-clause-rows : goal.returns-clause-rows
returns-clause-rows g c =
    let came = c.in_ok-told.ensures in
    behind-back (arc_value c.args.indexed.now) (length c.args.jobs.items) c.args.seats.now c.take.new.self c.in-Some.seat c.in_ok-told.seat c.in-Some.ensures.some came.searches came.seat.1 c.give_back.new.seats.rows c.give_back.ensures.back c.args.workers c.if-workers-eq0.false c.requires.rows
