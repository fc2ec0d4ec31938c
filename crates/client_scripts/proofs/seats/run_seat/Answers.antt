use Rattle.std.proofs.Common.{◌∙◌, arith, refl, sym, ap, Some}
use Rattle.client_scripts.proofs.SeatLemmas.{on_err, seated-start, seated-more, seated-untold, seated-whole}
use Rattle.client_scripts.proofs.seats.run_seat.Goals as goal

pub returns-in_err-append_answer-clause-err : goal.returns-in_err-append_answer-clause-err
returns-in_err-append_answer-clause-err g c =
    on_err c.from_residual.result _ (seated-untold _ _ _ _ _ _ _ c.loop-at.invariant.seated c.get.result.now (c.call-call.ensures ∙ ap Some (sym c.get.ensures)) c.run-answer.result _ c.run-answer.ensures.run _ c.in_err-append_answer.ensures.err (omega (arith, c.loop-at-test.true, c.len-at-end.ensures)))

pub loop-at-preserved : goal.loop-at-preserved
loop-at-preserved g c =
    record {
      seated = seated-more _ _ _ _ _ _ _ c.loop-at.invariant.seated c.get.result.now (c.call-call.ensures ∙ ap Some (sym c.get.ensures)) c.run-answer.result _ c.run-answer.ensures.run _ c.in_ok-append_answer.ensures.ok;
      site = c.run-answer.ensures.seat.0 ∙ c.loop-at.invariant.site;
      number = c.run-answer.ensures.seat.1 ∙ c.loop-at.invariant.number;
    }

pub returns-clause-ok : goal.returns-clause-ok
returns-clause-ok g c =
    seated-whole _ _ _ _ _ _ _ c.loop-at.invariant.seated (omega (arith, c.loop-at-test.false, c.len-at-end.ensures))

pub loop-at-init : goal.loop-at-init
loop-at-init g c = record { seated = seated-start _ _ _ _; site = refl; number = refl }
