use Rattle.std.proofs.Common.{◌≡◌, ℕ, ◌+◌, List, sym, subst, ◌∙◌, length, get_or, arith}
use Rattle.std.proofs.lemmas.Bool.{false≢true}
use Rattle.witness_search.specs.trace_order.Layout.{IsCountedUpTo}
use Rattle.witness_search.proofs.trace_order.ListingLemmas.{IsCountedUpTo-start, IsCountedUpTo-push, IsCountedUpTo-skip, IsCountedUpTo-end}
use Rattle.witness_search.proofs.trace_order.listing.list_of.Goals as goal
use Rattle.witness_search.proofs.trace_order.listing.list_of.Goals.{then-is_counted+in_ok-push, else-is_counted}

pub loop-event-init : goal.loop-event-init
loop-event-init c =
    subst (λ (P : List ℕ). IsCountedUpTo c.args.indexed.now.events (λ t. get_or c.args.row.now t 0) 0 P) (sym c.new-list.ensures)
    (IsCountedUpTo-start c.args.indexed.now.events (λ t. get_or c.args.row.now t 0))

pub loop-event-preserved : goal.loop-event-preserved
loop-event-preserved c =
    let T = c.args.indexed.now.events in
    let n = c.loop-event.event in
    let P = c.loop-event.list in
    let row : ℕ → ℕ = λ t. get_or c.args.row.now t 0 in
    elim c.if-is_counted.branch [
      | then-is_counted+in_ok-push w ↦
          subst (IsCountedUpTo T row (n + 1)) (sym (w.list-is ∙ w.in_ok-push.ensures.ok))
          (IsCountedUpTo-push T row n P c.loop-event.invariant (c.is_counted.ensures.0 w.if-is_counted.true))
      | else-is_counted w ↦
          subst (IsCountedUpTo T row (n + 1)) (sym w.list-is)
          (IsCountedUpTo-skip T row n P c.loop-event.invariant
          (λ counted. false≢true (sym w.if-is_counted.false ∙ c.is_counted.ensures.1 counted)))
    ]

pub returns : goal.returns
returns c =
    let T = c.args.indexed.now.events in
    let end : c.loop-event.event ≡ length T =
    omega (arith, c.loop-event-test.false, c.loop-event.auto.event-end, c.len-event-end.ensures.len) in
    IsCountedUpTo-end T (λ t. get_or c.args.row.now t 0) c.loop-event.event c.loop-event.list c.loop-event.invariant end
