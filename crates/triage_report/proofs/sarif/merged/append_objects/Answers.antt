use Rattle.std.proofs.Common.{◌≡◌, ◌++◌, ℕ, List, append-nil, arith, subst, sym, take, take_all}
use Rattle.std.proofs.lemmas.List.{take_more}
use Rattle.race_parts.specs.Pairs.{pair_shown}
use Rattle.race_parts.specs.declared.pairs.Pair.{Pair}
use Rattle.triage_report.specs.sarif.Logs.{joined}
use Rattle.triage_report.specs.sarif.Merged.{merged_object, merged_objects}
use Rattle.triage_report.proofs.sarif.LogLemmas.{objects-more}
use Rattle.triage_report.proofs.sarif.merged.append_objects.Goals as goal

pub loop-at-init : goal.loop-at-init
loop-at-init c = sym (append-nil c.args.out.now.items)

pub loop-at-preserved : goal.loop-at-preserved
loop-at-preserved c =
    objects-more c.args.out.now.items c.loop-at.out.items c.append_object.new.out.items (λ (p : Pair). merged_object c.args.parts c.args.sources (pair_shown p)) c.args.pairs.now c.loop-at.at _
    (omega (arith, c.loop-at-test.true)) (take_more c.args.pairs.now c.loop-at.at _ (omega (arith, c.loop-at-test.true))) c.loop-at.invariant c.in_ok-append_object.ensures

pub returns : goal.returns
returns c =
    subst (λ (ps : List Pair). c.loop-at.out.items ≡ c.args.out.now.items ++ joined (merged_objects c.args.parts c.args.sources ps))
    (take_all c.loop-at.at c.args.pairs.now (omega (arith, c.loop-at-test.false))) c.loop-at.invariant
