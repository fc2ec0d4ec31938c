use Rattle.std.proofs.Common.{ℕ, ◌<◌, List, get_or, length, ◌∙◌, subst}
use Rattle.rapid_text.specs.Recording.{Recording}
use Rattle.witness_search.specs.trace_order.Acquires.{AreTaken}
use Rattle.witness_search.specs.trace_order.Joining.{IsClosedOn}
use Rattle.witness_search.proofs.trace_order.LastLemmas.{closed_shared}
use Rattle.witness_search.proofs.trace_order.acquires.Acquires.due.Goals as goal

pub returns-clause-none : goal.returns-clause-none
returns-clause-none c =
    let r = c.args.indexed.now in
    let s = c.self.inside in
    let row : ℕ → ℕ = λ t. get_or c.args.row.now t 0 in
    λ none.
    closed_shared r c.len-len.ensures.disciplined c.len-len.ensures.well_formed s.by_lock.items s.shared.items
    (subst (λ (q : Recording). AreTaken q s.by_lock.items) (c.self.view_is ∙ c.requires.trace) c.self.invariant.taken) c.self.invariant.shared row
    (subst (λ (xs : List ℕ). (i : ℕ) → i < length xs → IsClosedOn r.events row (get_or xs i 0)) c.as_slice-shared.ensures.value
    (λ i lt. c.due_around.ensures.none none i lt))
