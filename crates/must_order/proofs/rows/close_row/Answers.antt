use Rattle.std.proofs.Common.{◌≡◌, ◌<◌, ℕ, List, Option, None, IfSome, length, get_or, refl, sym, subst, ap, ◌∙◌, arith}
use Rattle.shb_clocks.proofs.ReadLemmas.{thread_named}
use Rattle.must_order.specs.Layout.{IsBegun, IsClosed, IsFresh}
use Rattle.must_order.specs.Sections.{IsOwed}
use Rattle.must_order.proofs.BegunLemmas.{thread_cases}
use Rattle.must_order.proofs.ExactLemmas.{IsCounted-all}
use Rattle.must_order.proofs.JoinLemmas.{IsLed-fresh, IsLedRow, IsLedRow-joined, EndsFirst-led}
use Rattle.must_order.proofs.RowLemmas.{IsBegun-joined, IsCounted-joined, IsRow-closed, shrinks, owed_must}
use Rattle.must_order.proofs.rows.close_row.Goals as goal

pub loop-owed-init : goal.loop-owed-init
loop-owed-init c =
    let T = c.args.indexed.now.events in
    let e = c.args.event in
    let js = c.args.joins.now.list.items in
    record {
      len = c.requires.row;
      owes = subst (λ (xs : List ℕ). IfSome c.first_owed-owed.result (IsOwed T e (λ t. get_or xs t 0))) c.as_slice.ensures.value c.first_owed-owed.ensures.owed;
      earlier = c.first_owed-owed.ensures.earlier;
      closed = subst (λ (xs : List ℕ). c.first_owed-owed.result ≡ None → IsClosed T e (λ t. get_or xs t 0)) c.as_slice.ensures.value c.first_owed-owed.ensures.none;
      begun = c.requires.begun;
      joins = c.requires.joins;
      led = λ a counted. IsLed-fresh T e (λ t. get_or c.args.row.now.items t 0) js (get_or c.args.joins.now.starts.items e 0) (length js) a c.requires.fresh counted;
    }

pub add-requires-clause-ends : goal.add-requires-clause-ends
add-requires-clause-ends c =
    let T = c.args.indexed.now.events in
    let e = c.args.event in
    (subst (λ (o : Option (ℕ × ℕ)). IfSome o (IsOwed T e (λ t. get_or c.loop-owed.row.items t 0))) c.in-Some.is c.loop-owed.invariant.owes).0

pub add-requires-clause-earlier : goal.add-requires-clause-earlier
add-requires-clause-earlier c =
    subst (λ (x : Option (ℕ × ℕ)). IfSome x (λ k. k.1 < c.args.event)) c.in-Some.is c.loop-owed.invariant.earlier

pub add-requires-clause-led : goal.add-requires-clause-led
add-requires-clause-led c =
    let T = c.args.indexed.now.events in
    let e = c.args.event in
    let owed : IsOwed T e (λ t. get_or c.loop-owed.row.items t 0) c.in-Some.section = subst (λ (o : Option (ℕ × ℕ)). IfSome o (IsOwed T e (λ t. get_or c.loop-owed.row.items t 0))) c.in-Some.is c.loop-owed.invariant.owes in
    EndsFirst-led T c.loop-owed.joins.list.items (get_or c.loop-owed.joins.starts.items e 0) e c.in-Some.section.0 c.in-Some.section.1 (λ t. get_or c.loop-owed.row.items t 0) c.loop-owed.invariant.led owed.1 owed.0

pub loop-owed-smaller : goal.loop-owed-smaller
loop-owed-smaller c =
    let T = c.args.indexed.now.events in
    let e = c.args.event in
    let own = thread_cases T e c.requires.event in
    let width = length c.args.indexed.now.threads in
    let row = c.loop-owed.row.items in
    let raised = c.raise_row.new.row.items in
    let o = c.in-Some.section in
    let owed : IsOwed T e (λ t. get_or row t 0) o = subst (λ (x : Option (ℕ × ℕ)). IfSome x (IsOwed T e (λ t. get_or row t 0))) c.in-Some.is c.loop-owed.invariant.owes in
    let early : o.1 < e = subst (λ (x : Option (ℕ × ℕ)). IfSome x (λ k. k.1 < e)) c.in-Some.is c.loop-owed.invariant.earlier in
    let named = thread_named c.args.indexed.now c.requires.well_formed in
    let after =
    IsBegun-joined T c.requires.rules e own.0 own.1 width named c.args.counts.now row raised o.1 c.requires.counts (omega (arith, c.requires.len)) early
    (owed_must T e o (λ t. get_or row t 0) c.loop-owed.invariant.begun owed) c.loop-owed.invariant.len c.raise_row.ensures.len c.raise_row.ensures.counts c.loop-owed.invariant.begun in
    shrinks T e width c.args.counts.now row raised o.1 c.requires.counts (omega (arith, c.requires.len)) named early c.requires.event
    c.loop-owed.invariant.len c.raise_row.ensures.len c.raise_row.ensures.counts c.loop-owed.invariant.begun after owed.2

pub loop-owed-preserved : goal.loop-owed-preserved
loop-owed-preserved c =
    let T = c.args.indexed.now.events in
    let e = c.args.event in
    let own = thread_cases T e c.requires.event in
    let width = length c.args.indexed.now.threads in
    let row = c.loop-owed.row.items in
    let raised = c.raise_row.new.row.items in
    let o = c.in-Some.section in
    let js = c.loop-owed.joins.list.items in
    let owed : IsOwed T e (λ t. get_or row t 0) o = subst (λ (x : Option (ℕ × ℕ)). IfSome x (IsOwed T e (λ t. get_or row t 0))) c.in-Some.is c.loop-owed.invariant.owes in
    let early : o.1 < e = subst (λ (x : Option (ℕ × ℕ)). IfSome x (λ k. k.1 < e)) c.in-Some.is c.loop-owed.invariant.earlier in
    let must = owed_must T e o (λ t. get_or row t 0) c.loop-owed.invariant.begun owed in
    let next = c.owed-owed.result in
    let start = ap (λ (ss : List ℕ). get_or ss e 0) c.in_ok-add.ensures.starts in
    record {
      len = c.raise_row.ensures.len ∙ c.loop-owed.invariant.len;
      owes = subst (λ (xs : List ℕ). IfSome next (IsOwed T e (λ t. get_or xs t 0))) c.as_slice-in-Some.ensures.value c.owed-owed.ensures.owed;
      earlier = c.owed-owed.ensures.earlier;
      closed = subst (λ (xs : List ℕ). next ≡ None → IsClosed T e (λ t. get_or xs t 0)) c.as_slice-in-Some.ensures.value c.owed-owed.ensures.none;
      begun = IsBegun-joined T c.requires.rules e own.0 own.1 width (thread_named c.args.indexed.now c.requires.well_formed) c.args.counts.now row raised o.1 c.requires.counts
          (omega (arith, c.requires.len)) early must c.loop-owed.invariant.len c.raise_row.ensures.len c.raise_row.ensures.counts c.loop-owed.invariant.begun;
      joins = c.in_ok-add.ensures.known;
      led = subst (λ (s : ℕ). IsLedRow T c.add.new.self.list.items s e (λ t. get_or raised t 0)) (sym start)
          (IsLedRow-joined T js c.add.new.self.list.items (get_or c.loop-owed.joins.starts.items e 0) e o.0 o.1 (λ t. get_or row t 0) (λ t. get_or raised t 0)
          (c.loop-owed.invariant.joins.within e (omega arith)) c.loop-owed.invariant.led
          (IsCounted-joined T c.requires.rules e own.0 own.1 width (thread_named c.args.indexed.now c.requires.well_formed) c.args.counts.now row raised o.1 c.requires.counts
          (omega (arith, c.requires.len)) early must c.loop-owed.invariant.len c.raise_row.ensures.len c.raise_row.ensures.counts c.loop-owed.invariant.begun)
          c.in_ok-add.ensures.list);
    }

pub returns-clause-row : goal.returns-clause-row
returns-clause-row c =
    let T = c.args.indexed.now.events in
    let e = c.args.event in
    let own = thread_cases T e c.requires.event in
    IsRow-closed T c.requires.rules e own.0 own.1 c.loop-owed.row.items c.loop-owed.invariant.begun (c.loop-owed.invariant.closed c.in_default.is)

pub returns-clause-led : goal.returns-clause-led
returns-clause-led c =
    let T = c.args.indexed.now.events in
    let e = c.args.event in
    let own = thread_cases T e c.requires.event in
    λ d must. c.loop-owed.invariant.led d
    (IsCounted-all T c.requires.rules e own.0 own.1 (λ t. get_or c.loop-owed.row.items t 0) c.loop-owed.invariant.begun (c.loop-owed.invariant.closed c.in_default.is) d e must refl)

pub first_owed-owed-requires-clause-fresh : goal.first_owed-owed-requires-clause-fresh
first_owed-owed-requires-clause-fresh c =
    subst (λ (xs : List ℕ). IsFresh c.args.indexed.now.events c.args.event (λ t. get_or xs t 0)) (sym c.as_slice.ensures.value) c.requires.fresh

pub owed-owed-requires-clause-begun : goal.owed-owed-requires-clause-begun
owed-owed-requires-clause-begun c =
    let T = c.args.indexed.now.events in
    let e = c.args.event in
    let own = thread_cases T e c.requires.event in
    let row = c.loop-owed.row.items in
    let o = c.in-Some.section in
    let owed : IsOwed T e (λ t. get_or row t 0) o = subst (λ (x : Option (ℕ × ℕ)). IfSome x (IsOwed T e (λ t. get_or row t 0))) c.in-Some.is c.loop-owed.invariant.owes in
    let early : o.1 < e = subst (λ (x : Option (ℕ × ℕ)). IfSome x (λ k. k.1 < e)) c.in-Some.is c.loop-owed.invariant.earlier in
    subst (λ (xs : List ℕ). IsBegun T e (λ t. get_or xs t 0)) (sym c.as_slice-in-Some.ensures.value)
    (IsBegun-joined T c.requires.rules e own.0 own.1 (length c.args.indexed.now.threads) (thread_named c.args.indexed.now c.requires.well_formed) c.args.counts.now row c.raise_row.new.row.items o.1 c.requires.counts
    (omega (arith, c.requires.len)) early (owed_must T e o (λ t. get_or row t 0) c.loop-owed.invariant.begun owed)
    c.loop-owed.invariant.len c.raise_row.ensures.len c.raise_row.ensures.counts c.loop-owed.invariant.begun)
