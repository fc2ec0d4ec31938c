use Rattle.std.proofs.Common.{◌≡◌, ◌<◌, [], ℕ, Some, slice_get, get_or, length, refl, sym, ◌∙◌, subst, arith}
use Rattle.std.proofs.lemmas.List.{get_or_default}
use Rattle.event_index.specs.Lookups.{events_of}
use Rattle.witness_search.proofs.StepLemmas.{IsStepOf-none, IsStepOf-taken, IsStepOf-refused}
use Rattle.witness_search.specs.trace_order.Counting.{marks_of}
use Rattle.witness_search.proofs.trace_order.SearchLemmas.{next_none, next_some, next_place}
use Rattle.witness_search.proofs.trace_order.counting.step_of.Goals as goal

pub returns-then-count-events-clause-least : goal.returns-then-count-events-clause-least
returns-then-count-events-clause-least c =
    let T = c.args.indexed.now.events in
    let row = c.args.reached.now.row.items in
    let t = c.args.thread in
    let n = c.index.result.now in
    let low : t < length row = omega (arith, c.requires.thread, c.requires.row) in
    let read : n ≡ get_or row t 0 = c.index.ensures ∙ get_or_default row t n 0 low in
    λ P at.
    IsStepOf-none T c.len-len.ensures.disciplined c.args.aim.now.first c.args.aim.now.second (marks_of T (λ u. get_or c.args.aim.now.wanted.items u 0)) P at.correct t
    (next_none T P t n c.thread_events-events.result.now c.thread_events-events.ensures.events (read ∙ at.counts t) c.if-count-events.true)

pub is_step-requires-clause-next : goal.is_step-requires-clause-next
is_step-requires-clause-next c =
    let T = c.args.indexed.now.events in
    let row = c.args.reached.now.row.items in
    let t = c.args.thread in
    let n = c.index.result.now in
    let te = c.thread_events-events.result.now in
    let low : t < length row = omega (arith, c.requires.thread, c.requires.row) in
    let read : n ≡ get_or row t 0 = c.index.ensures ∙ get_or_default row t n 0 low in
    subst (λ (k : ℕ). slice_get (events_of T t) k ≡ Some (get_or te n 0)) read
    (next_some T [] t n te c.thread_events-events.ensures.events (get_or te n 0) 0 c.if-count-events.false refl)

pub returns-then-is_step-clause-least : goal.returns-then-is_step-clause-least
returns-then-is_step-clause-least c =
    let T = c.args.indexed.now.events in
    let row = c.args.reached.now.row.items in
    let t = c.args.thread in
    let n = c.index.result.now in
    let te = c.thread_events-events.result.now in
    let low : t < length row = omega (arith, c.requires.thread, c.requires.row) in
    let read : n ≡ get_or row t 0 = c.index.ensures ∙ get_or_default row t n 0 low in
    λ P at.
    IsStepOf-taken T c.len-len.ensures.disciplined c.args.aim.now.first c.args.aim.now.second (marks_of T (λ u. get_or c.args.aim.now.wanted.items u 0)) P at.correct t
    (get_or te n 0) (next_place T P t n te c.thread_events-events.ensures.events (read ∙ at.counts t) c.if-count-events.false)
    (c.thread_events-events.ensures.thread n 0 c.if-count-events.false) (sym (c.is_step.ensures P at) ∙ c.if-is_step.true)

pub returns-else-is_step-clause-least : goal.returns-else-is_step-clause-least
returns-else-is_step-clause-least c =
    let T = c.args.indexed.now.events in
    let row = c.args.reached.now.row.items in
    let t = c.args.thread in
    let n = c.index.result.now in
    let te = c.thread_events-events.result.now in
    let low : t < length row = omega (arith, c.requires.thread, c.requires.row) in
    let read : n ≡ get_or row t 0 = c.index.ensures ∙ get_or_default row t n 0 low in
    λ P at.
    IsStepOf-refused T c.len-len.ensures.disciplined c.args.aim.now.first c.args.aim.now.second (marks_of T (λ u. get_or c.args.aim.now.wanted.items u 0)) P at.correct t
    (get_or te n 0) (next_place T P t n te c.thread_events-events.ensures.events (read ∙ at.counts t) c.if-count-events.false)
    (sym (c.is_step.ensures P at) ∙ c.if-is_step.false)
