use Rattle.std.proofs.Common.{◌∙◌, refl}
use Rattle.calls.proofs.SearchLemmas.{others-asked, proposed-more, proposed-none}
use Rattle.calls.proofs.searching.propose_all.Goals as goal

pub loop-init : goal.loop-init
loop-init g c = record {
  trace = refl;
  pending = c.requires;
  proposes = proposed-none _ _ _;
  site = refl;
  number = refl;
}

pub returns-in_err-propose-clause-proposes : goal.returns-in_err-propose-clause-proposes
returns-in_err-propose-clause-proposes g c =
    let was = c.loop.invariant in
    proposed-more _ _ _ _ _ was.trace was.pending c.in-Ok.ensures.ok _ _ _ was.proposes c.propose.ensures.proposes

pub loop-preserved : goal.loop-preserved
loop-preserved g c =
    let was = c.loop.invariant in
    let collects = c.in-Ok.ensures.ok in
    record {
      trace = collects.trace ∙ was.trace;
      pending = others-asked _ _ _ _ _ was.trace was.pending collects;
      proposes = proposed-more _ _ _ _ _ was.trace was.pending collects _ _ _ was.proposes c.propose.ensures.proposes;
      site = c.propose.ensures.seat.0 ∙ was.site;
      number = c.propose.ensures.seat.1 ∙ was.number;
    }
