use Rattle.std.proofs.Common.{◌∙◌, refl, sym, ap, subst}
use Rattle.std.proofs.lemmas.List.Elements.{Contains-get_or}
use Rattle.search_pool.specs.Pools.{Pooled}
use Rattle.calls.specs.Requests.{AreSlices}
use Rattle.calls.proofs.SearchLemmas.{asked-more}
use Rattle.calls.proofs.searching.ask_all.Goals as goal

pub returns-in-Err-OutOfMemory-clause-asked : goal.returns-in-Err-OutOfMemory-clause-asked
returns-in-Err-OutOfMemory-clause-asked g c =
    subst (λ (p : Pooled). AreSlices c.args.pairs.now p.pending) (sym c.in-Err-OutOfMemory.ensures.refused) c.loop-pair.invariant.1

pub returns-in-Err-Busy : goal.returns-in-Err-Busy
returns-in-Err-Busy g c = record {
  trace = ap (λ (p : Pooled). p.trace) c.in-Err-Busy.ensures.refused ∙ c.loop-pair.invariant.0;
  asked = subst (λ (p : Pooled). AreSlices c.args.pairs.now p.pending) (sym c.in-Err-Busy.ensures.refused) c.loop-pair.invariant.1;
}

pub loop-pair-preserved : goal.loop-pair-preserved
loop-pair-preserved g c = (
  c.in-Ok.ensures.ok.trace ∙ c.loop-pair.invariant.0,
  asked-more c.args.pairs.now _ _ _ _ c.loop-pair.invariant.1 c.in-Ok.ensures.ok (Contains-get_or c.args.pairs.now c.loop-pair.pair-index _ c.loop-pair-test.true, refl),
)
