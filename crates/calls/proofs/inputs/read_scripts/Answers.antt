use Rattle.std.proofs.Common.{◌≡◌, ◌∷◌, ◌++◌, ◌∙◌, map, suc, ap, sym, arith}
use Rattle.std.specs.Vec.Iter.{into_iter_items}
use Rattle.calls.proofs.InputLemmas.{scripts_next, first_fault}
use Rattle.calls.proofs.inputs.read_scripts.Goals as goal

pub returns-in-Err-clause-fault : goal.returns-in-Err-clause-fault
returns-in-Err-clause-fault g c =
    let rest = g.S.Source.rest in
    let read = c.loop-reader.invariant.read in
    let steps : into_iter_items c.loop-reader.reader-iterator ≡ c.in-Some.reader ∷ into_iter_items c.next.new.self = c.in-Some.ensures.steps.0 in
    let split = ap (λ l. read.0 ++ map rest l) (sym steps) ∙ read.1 in
    first_fault _ read.0 _ (rest c.in-Some.reader) c.loop-reader.all.scripts.items _ split read.2 (c.loop-reader.all.scripts.ok.0) _ c.in-Err.ensures.fault

pub loop-reader-preserved : goal.loop-reader-preserved
loop-reader-preserved g c =
    let rest = g.S.Source.rest in
    let read = c.loop-reader.invariant.read in
    let steps : into_iter_items c.loop-reader.reader-iterator ≡ c.in-Some.reader ∷ into_iter_items c.next.new.self = c.in-Some.ensures.steps.0 in
    let all = rw steps at c.loop-reader.invariant.working in
    let was = c.loop-reader.invariant.count in
    let left = c.in-Some.ensures.steps.1 in
    let counted = c.in-Ok.ensures.count in
    let split = ap (λ l. read.0 ++ map rest l) (sym steps) ∙ read.1 in
    record {
      count = omega arith;
      working = λ k d below. all (suc k) d (omega arith);
      read = scripts_next _ read.0 _ (rest c.in-Some.reader) c.loop-reader.all.scripts.items _ split read.2 (c.loop-reader.all.scripts.ok.0) _ c.in-Ok.ensures.read;
    }
