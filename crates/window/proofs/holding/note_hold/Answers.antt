use Rattle.std.proofs.Common.{◌<◌, length, subst, arith}
use Rattle.rapid_text.specs.Recording.{IsNamedOp}
use Rattle.trace_rules.proofs.TableLemmas.{IsApartFrom-acquire, IsApartFrom-release, IsApartFrom-rest}
use Rattle.window.proofs.HoldLemmas.{depth_small, held_acquire, release_own, held_release, held_read, held_set, held_same}
use Rattle.window.proofs.holding.note_hold.Goals as goal

pub overflow_add-depth : goal.overflow_add-depth
overflow_add-depth c =
    let T = c.args.trace.now.events in
    let rules = c.raw.ensures.disciplined in
    let lt : c.in-Acquire.lock < length c.args.trace.now.locks = subst (IsNamedOp c.args.trace.now) c.in-Acquire.is (rw c.raw.ensures.same at c.event-event.ensures.named.1) in
    let is = held_read T rules c.args.at _ (rw c.raw.ensures.same at c.event-event.ensures.found) _ _ c.requires.held c.in-Acquire.lock _ lt c.index.ensures in
    let small = depth_small T rules c.args.at _ (rw c.raw.ensures.same at c.event-event.ensures.found) c.in-Acquire.lock _ is in
    omega (arith, small, c.requires.event, c.raw.ensures.well_formed.events)

pub overflow_sub-depth : goal.overflow_sub-depth
overflow_sub-depth c =
    let T = c.args.trace.now.events in
    let rules = c.raw.ensures.disciplined in
    let lt : c.in-Release.lock < length c.args.trace.now.locks = subst (IsNamedOp c.args.trace.now) c.in-Release.is (rw c.raw.ensures.same at c.event-event.ensures.named.1) in
    let is = held_read T rules c.args.at _ (rw c.raw.ensures.same at c.event-event.ensures.found) _ _ c.requires.held c.in-Release.lock _ lt c.index-in-Release.ensures in
    let own = release_own T rules c.args.at _ (rw c.raw.ensures.same at c.event-event.ensures.found) c.in-Release.lock _ c.in-Release.is is in
    omega (arith, own.1)

pub returns-in-Acquire : goal.returns-in-Acquire
returns-in-Acquire c =
    let T = c.args.trace.now.events in
    let rules = c.raw.ensures.disciplined in
    let lt : c.in-Acquire.lock < length c.args.trace.now.locks = subst (IsNamedOp c.args.trace.now) c.in-Acquire.is (rw c.raw.ensures.same at c.event-event.ensures.named.1) in
    let is = held_read T rules c.args.at _ (rw c.raw.ensures.same at c.event-event.ensures.found) _ _ c.requires.held c.in-Acquire.lock _ lt c.index.ensures in
    held_set T rules c.args.at _ (rw c.raw.ensures.same at c.event-event.ensures.found) _ _ c.requires.held c.in-Acquire.lock _ lt
    (held_acquire T rules c.args.at _ (rw c.raw.ensures.same at c.event-event.ensures.found) c.in-Acquire.lock _ c.in-Acquire.is is) (IsApartFrom-acquire _ _ c.in-Acquire.is)

pub returns-in-Release : goal.returns-in-Release
returns-in-Release c =
    let T = c.args.trace.now.events in
    let rules = c.raw.ensures.disciplined in
    let lt : c.in-Release.lock < length c.args.trace.now.locks = subst (IsNamedOp c.args.trace.now) c.in-Release.is (rw c.raw.ensures.same at c.event-event.ensures.named.1) in
    let is = held_read T rules c.args.at _ (rw c.raw.ensures.same at c.event-event.ensures.found) _ _ c.requires.held c.in-Release.lock _ lt c.index-in-Release.ensures in
    held_set T rules c.args.at _ (rw c.raw.ensures.same at c.event-event.ensures.found) _ _ c.requires.held c.in-Release.lock _ lt
    (held_release T rules c.args.at _ (rw c.raw.ensures.same at c.event-event.ensures.found) c.in-Release.lock _ c.in-Release.is is) (IsApartFrom-release _ _ c.in-Release.is)

pub returns-in-Read : goal.returns-in-Read
returns-in-Read c =
    held_same c.args.trace.now.events c.raw.ensures.disciplined c.args.at _ (rw c.raw.ensures.same at c.event-event.ensures.found) _ _ c.requires.held (IsApartFrom-rest _ c.in-Read.is)
