use Rattle.std.proofs.Common.{◌-◌, length, inl, ap, refl, subst, sym, arith}
use Rattle.rapid_text.specs.Recording.{Recording}
use Rattle.window.specs.Heads.{IsReadAfter, past_of}
use Rattle.window.specs.Streams.{Stream}
use Rattle.window.proofs.FrontLemmas.{front_after, front_of, goes_after, long_after}
use Rattle.window.proofs.front.Front.take_in.Goals as goal

pub overflow_sub-events : goal.overflow_sub-events
overflow_sub-events c =
    let long = long_after c.args.self.now.read c.args.more.now c.args.next.now.trace c.args.next.now.from c.requires.next in
    omega (arith, long, c.len.ensures.len, ap (λ (r : Recording). length r.events) c.raw.ensures.same)

pub returns-in_default-clause-fault : goal.returns-in_default-clause-fault
returns-in_default-clause-fault c =
    let s = c.args.self.now in
    let long = long_after s.read c.args.more.now c.args.next.now.trace c.args.next.now.from c.requires.next in
    let front = front_of _ _ _ _ _ s c.self.view_is c.self.invariant in
    let none = c.in_default.ensures.none refl in
    inl (omega (arith, none, front.number_is, long, c.len.ensures.len, ap (λ (r : Recording). length r.events) c.raw.ensures.same))

pub go_on-requires : goal.go_on-requires
go_on-requires c = omega (arith, long_after c.args.self.now.read c.args.more.now c.args.next.now.trace c.args.next.now.from c.requires.next)

pub invariant_of-self-2 : goal.invariant_of-self-2
invariant_of-self-2 c =
    let i = c.self.inside in
    let read = i.read.numbers in
    let more = c.args.more.now in
    let r = c.args.next.now.trace in
    let from = c.args.next.now.from in
    let next = subst (λ (t : Stream). IsReadAfter t.read more r from) (sym c.self.view_is) c.requires.next in
    let on = c.in_ok-go_on.ensures in
    let long = long_after read more r from next in
    let goes = goes_after read more (past_of i.known) (past_of c.go_on.new.self) r from c.self.invariant.is_past c.requires.whole next c.raw.ensures.disciplined on.forked on.seen on.joined on.held in
    rw c.with_piece.ensures
    (front_after read (past_of i.known) _ _ _ c.self.invariant more (past_of c.go_on.new.self) _ c.in-Some.number c.in-Some-checked_add.lines (length r.events - from) goes.0 goes.1 goes.2
    (omega (arith, c.in-Some.ensures.some.0, c.len.ensures.len, ap (λ (q : Recording). length q.events) c.raw.ensures.same)) (omega (arith, long)) c.in-Some.ensures.some.1 (omega (arith, c.in-Some-checked_add.ensures, c.lines_in.ensures)))
