use Rattle.std.proofs.Common.{◌≡◌, List, ◌++◌, Result, Vec, IfOk, ap, subst, ◌∙◌, slice_index}
use Rattle.std.specs.declared.alloc.Global.{Global}
use Rattle.rapid_text.specs.declared.memory.OutOfMemory.{OutOfMemory}
use Rattle.race_triage.specs.Verdicts.{ArePart}
use Rattle.race_triage.specs.declared.verdicts.Verdict.{Verdict}
use Rattle.race_triage.proofs.OnceLemmas.{AreOn-part}
use Rattle.race_triage.proofs.WorkerLemmas.{all_added, part_answered}
use Rattle.race_triage.proofs.workers.add_part.Goals as goal

pub returns-in_ok-extend_from_slice-in-Ok-clause-all : goal.returns-in_ok-extend_from_slice-in-Ok-clause-all
returns-in_ok-extend_from_slice-in-Ok-clause-all c =
    let old = c.args.all.now.items in
    let some = c.in-Ok.some.items in
    let is : c.extend_from_slice.new.self.items ≡ old ++ some = c.in_ok-extend_from_slice-in-Ok.ensures.items ∙ ap (λ (vs : List Verdict). old ++ vs) c.as_slice.ensures.value in
    all_added c.args._found.now.tables.indexed.now (slice_index c.args._found.now.tables.places.now) c.args._found.now.effort.tries c.args._found.now.effort.apart c.args._found.now.groups.rows.items c.args._from c.args._every old some
    c.extend_from_slice.new.self.items is c.requires.all (subst (λ (p : Result (Vec Verdict Global) OutOfMemory). IfOk p (λ vs. ArePart c.args._found.now.tables.indexed.now (slice_index c.args._found.now.tables.places.now) c.args._found.now.effort.tries c.args._found.now.effort.apart c.args._found.now.groups.rows.items c.args._from c.args._every vs.items)) c.in-Ok.is c.requires.part)

pub returns-in_ok-extend_from_slice-in-Ok-clause-answered : goal.returns-in_ok-extend_from_slice-in-Ok-clause-answered
returns-in_ok-extend_from_slice-in-Ok-clause-answered c =
    let old = c.args.all.now.items in
    let some = c.in-Ok.some.items in
    let is : c.extend_from_slice.new.self.items ≡ old ++ some = c.in_ok-extend_from_slice-in-Ok.ensures.items ∙ ap (λ (vs : List Verdict). old ++ vs) c.as_slice.ensures.value in
    part_answered c.args._found.now.tables.indexed.now (slice_index c.args._found.now.tables.places.now) c.args._found.now.effort.tries c.args._found.now.effort.apart c.args._found.now.groups.rows.items c.args._from c.args._every old some
    c.extend_from_slice.new.self.items is (subst (λ (p : Result (Vec Verdict Global) OutOfMemory). IfOk p (λ vs. ArePart c.args._found.now.tables.indexed.now (slice_index c.args._found.now.tables.places.now) c.args._found.now.effort.tries c.args._found.now.effort.apart c.args._found.now.groups.rows.items c.args._from c.args._every vs.items)) c.in-Ok.is c.requires.part)

pub returns-in_ok-extend_from_slice-in-Ok-clause-on : goal.returns-in_ok-extend_from_slice-in-Ok-clause-on
returns-in_ok-extend_from_slice-in-Ok-clause-on c =
    let old = c.args.all.now.items in
    let some = c.in-Ok.some.items in
    let is : c.extend_from_slice.new.self.items ≡ old ++ some = c.in_ok-extend_from_slice-in-Ok.ensures.items ∙ ap (λ (vs : List Verdict). old ++ vs) c.as_slice.ensures.value in
    let part = subst (λ (p : Result (Vec Verdict Global) OutOfMemory). IfOk p (λ vs. ArePart c.args._found.now.tables.indexed.now (slice_index c.args._found.now.tables.places.now) c.args._found.now.effort.tries c.args._found.now.effort.apart c.args._found.now.groups.rows.items c.args._from c.args._every vs.items)) c.in-Ok.is c.requires.part in
    AreOn-part c.args._found.now.groups.rows.items c.requires.once c.args._every c.args._from old some c.extend_from_slice.new.self.items is c.requires.on part.on
