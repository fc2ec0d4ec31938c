use Rattle.std.proofs.Common.{◌≡◌, ◌<◌, ◌+◌, length, subst, ap, ◌∙◌, arith, inl, inr}
use Rattle.rapid_text.specs.Recording.{IsNamedOp}
use Rattle.trace_rules.proofs.TableLemmas.{IsApartFrom-rest}
use Rattle.event_index.proofs.TableLemmas.{get_or-IsTable}
use Rattle.window.specs.Made.{touch_count}
use Rattle.window.proofs.TouchLemmas.{touch_small, touches_on, touches_off}
use Rattle.window.proofs.touching.note_touch.Goals as goal

pub overflow_add-index_mut : goal.overflow_add-index_mut
overflow_add-index_mut c =
    let T = c.args.trace.now.events in
    let lt : c.in-Acquire.lock < length c.args.trace.now.locks = subst (IsNamedOp c.args.trace.now) c.in-Acquire.is (rw c.raw.ensures.same at c.event.ensures.named.1) in
    let count : c.index_mut.result.now ≡ touch_count T c.args.from c.args.at c.in-Acquire.lock =
    c.index_mut.ensures.value ∙ get_or-IsTable (touch_count T c.args.from c.args.at) _ _ c.requires.table c.in-Acquire.lock c.index_mut.result.now lt in
    omega (arith, count, touch_small T c.args.from c.args.at _ c.requires.from (rw c.raw.ensures.same at c.event.ensures.found) c.in-Acquire.lock, c.requires.event, c.raw.ensures.well_formed.events)

pub overflow_add-index_mut-in-Release : goal.overflow_add-index_mut-in-Release
overflow_add-index_mut-in-Release c =
    let T = c.args.trace.now.events in
    let lt : c.in-Release.lock < length c.args.trace.now.locks = subst (IsNamedOp c.args.trace.now) c.in-Release.is (rw c.raw.ensures.same at c.event.ensures.named.1) in
    let count : c.index_mut-in-Release.result.now ≡ touch_count T c.args.from c.args.at c.in-Release.lock =
    c.index_mut-in-Release.ensures.value
    ∙ get_or-IsTable (touch_count T c.args.from c.args.at) _ _ c.requires.table c.in-Release.lock c.index_mut-in-Release.result.now lt in
    omega (arith, count, touch_small T c.args.from c.args.at _ c.requires.from (rw c.raw.ensures.same at c.event.ensures.found) c.in-Release.lock, c.requires.event, c.raw.ensures.well_formed.events)

pub returns-in-Acquire : goal.returns-in-Acquire
returns-in-Acquire c =
    let T = c.args.trace.now.events in
    let lt : c.in-Acquire.lock < length c.args.trace.now.locks = subst (IsNamedOp c.args.trace.now) c.in-Acquire.is (rw c.raw.ensures.same at c.event.ensures.named.1) in
    let count : c.index_mut.result.now ≡ touch_count T c.args.from c.args.at c.in-Acquire.lock =
    c.index_mut.ensures.value ∙ get_or-IsTable (touch_count T c.args.from c.args.at) _ _ c.requires.table c.in-Acquire.lock c.index_mut.result.now lt in
    touches_on T c.args.from c.args.at _ c.requires.from (rw c.raw.ensures.same at c.event.ensures.found) _ c.in-Acquire.lock _ _ (inl c.in-Acquire.is) c.requires.table (ap (λ z. z + 1) count)

pub returns-in-Release : goal.returns-in-Release
returns-in-Release c =
    let T = c.args.trace.now.events in
    let lt : c.in-Release.lock < length c.args.trace.now.locks = subst (IsNamedOp c.args.trace.now) c.in-Release.is (rw c.raw.ensures.same at c.event.ensures.named.1) in
    let count : c.index_mut-in-Release.result.now ≡ touch_count T c.args.from c.args.at c.in-Release.lock =
    c.index_mut-in-Release.ensures.value
    ∙ get_or-IsTable (touch_count T c.args.from c.args.at) _ _ c.requires.table c.in-Release.lock c.index_mut-in-Release.result.now lt in
    touches_on T c.args.from c.args.at _ c.requires.from (rw c.raw.ensures.same at c.event.ensures.found) _ c.in-Release.lock _ _ (inr c.in-Release.is) c.requires.table (ap (λ z. z + 1) count)

pub returns-in-Read : goal.returns-in-Read
returns-in-Read c =
    touches_off c.args.trace.now.events c.args.from c.args.at _ c.requires.from (rw c.raw.ensures.same at c.event.ensures.found) _ _ (IsApartFrom-rest _ c.in-Read.is) c.requires.table
