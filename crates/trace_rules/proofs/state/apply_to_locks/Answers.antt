use Rattle.std.proofs.Common.{refl, arith, length-take-le}
use Rattle.trace_rules.proofs.HoldLemmas.{depth-above, depth-le}
use Rattle.trace_rules.proofs.TableLemmas.{acquire_at, release_at, AreHoldsOf-set, AreHoldsOf-same, IsApartFrom-acquire, IsApartFrom-release, IsApartFrom-rest}
use Rattle.trace_rules.proofs.state.apply_to_locks.Goals as goal

pub taken-requires-clause-allowed : goal.taken-requires-clause-allowed
taken-requires-clause-allowed c =
    let e = c.event-event.ensures in
    (acquire_at c.args.raw.now c.args.at _ e.found c.requires.kept _ c.requires.tables c.requires.locks e.named.1 _ _ c.index-hold.ensures c.in-Acquire.is).2

pub taken-requires-clause-room : goal.taken-requires-clause-room
taken-requires-clause-room c =
    let e = c.event-event.ensures in
    let is = (acquire_at c.args.raw.now c.args.at _ e.found c.requires.kept _ c.requires.tables c.requires.locks e.named.1 _ _ c.index-hold.ensures c.in-Acquire.is).1 in
    omega (arith, depth-le _ _ _ is _ refl, length-take-le c.args.at c.args.raw.now.events, c.requires.room)

pub let_go-requires-clause-owned : goal.let_go-requires-clause-owned
let_go-requires-clause-owned c =
    let e = c.event-event.ensures in
    (release_at c.args.raw.now c.args.at _ e.found c.requires.kept _ c.requires.tables c.requires.locks e.named.1 _ _ c.index-hold-in-Release.ensures c.in-Release.is).2

pub let_go-requires-clause-deep : goal.let_go-requires-clause-deep
let_go-requires-clause-deep c =
    let e = c.event-event.ensures in
    let at = release_at c.args.raw.now c.args.at _ e.found c.requires.kept _ c.requires.tables c.requires.locks e.named.1 _ _ c.index-hold-in-Release.ensures c.in-Release.is in
    depth-above _ _ _ at.1.depth at.2

pub returns-in-Acquire-clause-tables : goal.returns-in-Acquire-clause-tables
returns-in-Acquire-clause-tables c =
    let e = c.event-event.ensures in
    let at = acquire_at c.args.raw.now c.args.at _ e.found c.requires.kept _ c.requires.tables c.requires.locks e.named.1 _ _ c.index-hold.ensures c.in-Acquire.is in
    AreHoldsOf-set _ _ _ e.found _ _ _ at.0 c.requires.tables (c.taken.ensures _ _ _ refl c.in-Acquire.is at.1) (IsApartFrom-acquire _ _ c.in-Acquire.is)

pub returns-in-Release-clause-tables : goal.returns-in-Release-clause-tables
returns-in-Release-clause-tables c =
    let e = c.event-event.ensures in
    let at = release_at c.args.raw.now c.args.at _ e.found c.requires.kept _ c.requires.tables c.requires.locks e.named.1 _ _ c.index-hold-in-Release.ensures c.in-Release.is in
    AreHoldsOf-set _ _ _ e.found _ _ _ at.0 c.requires.tables (c.let_go.ensures _ _ _ refl c.in-Release.is at.1) (IsApartFrom-release _ _ c.in-Release.is)

pub returns-in-Read-clause-tables : goal.returns-in-Read-clause-tables
returns-in-Read-clause-tables c = AreHoldsOf-same _ _ _ c.event-event.ensures.found _ c.requires.tables (IsApartFrom-rest _ c.in-Read.is)
