use Rattle.std.proofs.Common.{rules, ◌≡◌, ◌∙◌, true, length, slice_index, arith}
use Rattle.deadlock_triage.proofs.EndLemmas.{sorted-apart, sorted-complete, sorted-once, sorted-verdicts}
use Rattle.deadlock_triage.proofs.RowLemmas.{rows-none}
use Rattle.deadlock_triage.proofs.verdicts.verdicts_of.Goals as goal

pub loop-later-init : goal.loop-later-init
loop-later-init c =
    let j = c.args.judge.now in
    rows-none j.analysis.now (slice_index j.places.now) j.nested.now j.is_whole _ _ (search rules) (search rules)

pub returns-clause-verdicts : goal.returns-clause-verdicts
returns-clause-verdicts c =
    let j = c.args.judge.now in
    let rows = c.loop-later.rows in
    sorted-verdicts j.analysis.now (slice_index j.places.now) j.nested.now j.is_whole c.loop-later.later rows.patterns.keys rows.verdicts.items c.sort.new.verdicts.items
    c.loop-later.invariant c.sort.ensures

pub returns-clause-once : goal.returns-clause-once
returns-clause-once c =
    let j = c.args.judge.now in
    let rows = c.loop-later.rows in
    sorted-once j.analysis.now (slice_index j.places.now) j.nested.now j.is_whole c.loop-later.later rows.patterns.keys rows.verdicts.items c.sort.new.verdicts.items
    c.loop-later.invariant c.sort.ensures

pub returns-clause-apart : goal.returns-clause-apart
returns-clause-apart c =
    let j = c.args.judge.now in
    let rows = c.loop-later.rows in
    let visited : j.is_whole ≡ true → c.loop-later.later ≡ length j.nested.now = λ so. omega (arith, c.requires.whole so, c.loop-later-test.false, c.loop-later.auto.later-end) in
    sorted-apart j.analysis.now (slice_index j.places.now) j.nested.now j.is_whole c.loop-later.later rows.patterns.keys rows.verdicts.items c.sort.new.verdicts.items
    c.loop-later.invariant c.sort.ensures c.requires.judge.nested visited

pub returns-clause-complete : goal.returns-clause-complete
returns-clause-complete c =
    let j = c.args.judge.now in
    let rows = c.loop-later.rows in
    let visited : j.is_whole ≡ true → c.loop-later.later ≡ length j.nested.now = λ so. omega (arith, c.requires.whole so, c.loop-later-test.false, c.loop-later.auto.later-end) in
    sorted-complete j.analysis.now (slice_index j.places.now) j.nested.now j.is_whole c.loop-later.later rows.patterns.keys rows.verdicts.items c.sort.new.verdicts.items
    c.loop-later.invariant c.sort.ensures c.requires.judge.nested visited
