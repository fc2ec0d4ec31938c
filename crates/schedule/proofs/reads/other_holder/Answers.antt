use Rattle.std.proofs.Common.{◌≡◌, ◌<◌, Some, None, sym, ◌∙◌, arith, rules}
use Rattle.trace_rules.specs.Rules.{hold_count}
use Rattle.schedule.specs.Locks.{last_taker}
use Rattle.schedule.specs.Reordering.{events_at}
use Rattle.schedule.specs.LatestTables.{held}
use Rattle.schedule.specs.declared.latest.Key.TheVariants.{Lock}
use Rattle.schedule.proofs.LockLemmas.{other_holder-no_taker, other_holder-own, other_holder-freed, other_holder-taker}
use Rattle.schedule.proofs.TableReads.{no_taker, taker_named, holds_named}
use Rattle.schedule.proofs.reads.other_holder.Goals as goal

pub returns-in_default : goal.returns-in_default
returns-in_default c =
    let T = c.args.indexed.now.events in
    let P = c.args.events.now in
    let none : held c.args.tables.now.latest (Lock c.args.lock) ≡ None = search rules in
    sym (other_holder-no_taker T P c.args.thread c.args.lock c.requires.reordering.locks (no_taker T P c.args.tables.now c.requires.tables c.args.lock none))

pub returns-in_default-get : goal.returns-in_default-get
returns-in_default-get c =
    let T = c.args.indexed.now.events in
    let P = c.args.events.now in
    let m = c.in-Some.kept in
    let is : held c.args.tables.now.latest (Lock c.args.lock) ≡ Some m = search rules in
    let taker : last_taker T P c.args.lock ≡ None = taker_named T P c.args.tables.now c.requires.tables c.args.lock m is None (search rules) in
    sym (other_holder-no_taker T P c.args.thread c.args.lock c.requires.reordering.locks taker)

pub returns-then-found-thread : goal.returns-then-found-thread
returns-then-found-thread c =
    let T = c.args.indexed.now.events in
    let P = c.args.events.now in
    let m = c.in-Some.kept in
    let v = c.in-Some-get.found in
    let is : held c.args.tables.now.latest (Lock c.args.lock) ≡ Some m = search rules in
    let taker : last_taker T P c.args.lock ≡ Some v.thread = taker_named T P c.args.tables.now c.requires.tables c.args.lock m is (Some v) (search rules) in
    sym (other_holder-own T P c.args.thread c.args.lock v.thread c.requires.reordering.locks taker c.if-found-thread.true)

pub returns-then-kept-eq0 : goal.returns-then-kept-eq0
returns-then-kept-eq0 c =
    let T = c.args.indexed.now.events in
    let P = c.args.events.now in
    let m = c.in-Some.kept in
    let v = c.in-Some-get.found in
    let is : held c.args.tables.now.latest (Lock c.args.lock) ≡ Some m = search rules in
    let taker : last_taker T P c.args.lock ≡ Some v.thread = taker_named T P c.args.tables.now c.requires.tables c.args.lock m is (Some v) (search rules) in
    let free : hold_count (events_at T P) v.thread c.args.lock ≡ 0 =
    holds_named T P c.args.tables.now c.requires.tables c.args.lock m is c.requires.disciplined c.requires.reordering v.thread taker ∙ c.if-kept-eq0.true in
    sym (other_holder-freed T P c.args.thread c.args.lock v.thread c.requires.reordering.locks taker free)

pub returns : goal.returns
returns c =
    let T = c.args.indexed.now.events in
    let P = c.args.events.now in
    let m = c.in-Some.kept in
    let v = c.in-Some-get.found in
    let is : held c.args.tables.now.latest (Lock c.args.lock) ≡ Some m = search rules in
    let taker : last_taker T P c.args.lock ≡ Some v.thread = taker_named T P c.args.tables.now c.requires.tables c.args.lock m is (Some v) (search rules) in
    let depth = holds_named T P c.args.tables.now c.requires.tables c.args.lock m is c.requires.disciplined c.requires.reordering v.thread taker in
    let holds : 0 < hold_count (events_at T P) v.thread c.args.lock = omega (arith, depth, c.if-kept-eq0.false) in
    sym (other_holder-taker T P c.args.thread c.args.lock v.thread c.requires.reordering.locks taker c.if-found-thread.false holds)
