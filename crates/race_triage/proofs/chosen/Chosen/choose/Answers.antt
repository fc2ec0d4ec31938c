use Rattle.std.proofs.Common.{List, ◌<◌, length, filter, map, take, subst, sym}
use Rattle.std.proofs.lemmas.List.Elements.{filter_more}
use Rattle.race_triage.specs.Chosen.{is_of, known_places, AreConsidered}
use Rattle.race_triage.specs.declared.verdicts.Verdict.{Verdict}
use Rattle.race_triage.proofs.ChosenLemmas.{Considered-append}
use Rattle.race_triage.proofs.chosen.Chosen.choose.Goals as goal

pub loop-verdict-preserved : goal.loop-verdict-preserved
loop-verdict-preserved c =
    let r = c.args.indexed.now in
    let known = known_places c.args.known.now in
    let only = map (λ t. t.now) c.args.filters.only.now in
    let hide = map (λ t. t.now) c.args.filters.hide.now in
    let all = c.args.all.now in
    let at = c.loop-verdict.verdict-index in
    let lt : at < length all = c.loop-verdict-test.true in
    subst (λ (l : List Verdict). AreConsidered r known only hide l c.args.self.now c.consider_of.new.self) (sym (filter_more (is_of c.args.part) all at _ lt))
    (Considered-append r known only hide (filter (is_of c.args.part) (take at all)) _ _ _ _ c.loop-verdict.invariant c.in_ok-consider_of.ensures)
