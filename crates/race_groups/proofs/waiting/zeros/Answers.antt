use Rattle.std.proofs.Common.{rules, ◌≡◌, ℕ, List, replicate, slice_index, ap, ◌∙◌}
use Rattle.race_groups.specs.Waiting.{cell_at}
use Rattle.race_groups.proofs.WaitingLemmas.{cell_push, zeros_index}
use Rattle.race_groups.proofs.waiting.zeros.Goals as goal

pub loop-place-preserved : goal.loop-place-preserved
loop-place-preserved c = λ p q.
    let is : c.in_ok-row.row.items ≡ replicate c.args.width 0 = search rules in
    let row : (x : ℕ) → slice_index c.in_ok-row.row.items x ≡ 0 = λ x. ap (λ (xs : List ℕ). slice_index xs x) is ∙ zeros_index c.args.width x in
    ap (λ xs. cell_at xs q p) c.in_ok-push.ensures.items ∙ cell_push c.in_ok-row.row c.loop-place.cells.items (λ k x. c.loop-place.invariant x k) row q p
