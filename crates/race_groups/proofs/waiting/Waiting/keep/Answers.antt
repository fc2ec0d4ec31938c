use Rattle.std.proofs.Common.{rules, ◌≡◌, ℕ, ◌<◌, List, length, slice_index, slice_set, sym, ap, subst, ◌∙◌, arith, inl, inr}
use Rattle.std.specs.Vec.{with_items}
use Rattle.std.proofs.lemmas.Bool.{cases_eq}
use Rattle.std.proofs.lemmas.List.{places, with_items_is}
use Rattle.race_groups.specs.Waiting.{cell_at}
use Rattle.race_groups.proofs.WaitingLemmas.{cell_other, cell_set, cell_was}
use Rattle.race_groups.proofs.waiting.Waiting.keep.Goals as goal

pub returns-clause-more : goal.returns-clause-more
returns-clause-more c = λ done.
    let old = c.args.self.now.cells.items in
    let low : c.args.later < length old = omega (arith, c.if-later-len.false, c.len.ensures) in
    let is : cell_at (slice_set old c.args.later (with_items c.index_mut.result.now c.raise.new.row)) c.args.later c.args.earlier ≡ slice_index c.raise.new.row c.args.earlier =
    cell_set (with_items c.index_mut.result.now c.raise.new.row) old c.args.later low c.args.earlier
    ∙ ap (λ (xs : List ℕ). slice_index xs c.args.earlier) (with_items_is c.index_mut.result.now c.raise.new.row (search (rules, places)))
    in
    let was = cell_was c.index_mut.result.now old c.args.later low c.index_mut.ensures.value c.args.earlier in
    let row = ap (λ (xs : List ℕ). slice_index xs c.args.earlier) c.as_mut_slice.ensures.value in
    omega (arith, is, was, row, c.raise.ensures.more done)

pub returns-clause-others : goal.returns-clause-others
returns-clause-others c = λ p q not_it.
    let old = c.args.self.now.cells.items in
    let w = with_items c.index_mut.result.now c.raise.new.row in
    let low : c.args.later < length old = omega (arith, c.if-later-len.false, c.len.ensures) in
    elim (cases_eq q c.args.later) [
      | inl same ↦
          let is : cell_at (slice_set old c.args.later w) c.args.later p ≡ slice_index c.raise.new.row p =
          cell_set w old c.args.later low p ∙ ap (λ (xs : List ℕ). slice_index xs p) (with_items_is c.index_mut.result.now c.raise.new.row (search (rules, places)))
          in
          let was = cell_was c.index_mut.result.now old c.args.later low c.index_mut.ensures.value p in
          let row = ap (λ (xs : List ℕ). slice_index xs p) c.as_mut_slice.ensures.value in
          let other = c.raise.ensures.others p (λ e. not_it (same, e)) in
          subst (λ (y : ℕ). cell_at (slice_set old c.args.later w) y p ≡ cell_at old y p) (sym same) (omega (arith, is, was, row, other))
      | inr ne ↦ cell_other w old c.args.later q ne p
    ]

pub returns-clause-same : goal.returns-clause-same
returns-clause-same c = λ not_done p q.
    let old = c.args.self.now.cells.items in
    let w = with_items c.index_mut.result.now c.raise.new.row in
    let low : c.args.later < length old = omega (arith, c.if-later-len.false, c.len.ensures) in
    elim (cases_eq q c.args.later) [
      | inl same ↦
          let is : cell_at (slice_set old c.args.later w) c.args.later p ≡ slice_index c.raise.new.row p =
          cell_set w old c.args.later low p ∙ ap (λ (xs : List ℕ). slice_index xs p) (with_items_is c.index_mut.result.now c.raise.new.row (search (rules, places)))
          in
          let was = cell_was c.index_mut.result.now old c.args.later low c.index_mut.ensures.value p in
          let row = ap (λ (xs : List ℕ). slice_index xs p) c.as_mut_slice.ensures.value in
          let stays = ap (λ (xs : List ℕ). slice_index xs p) (c.raise.ensures.same not_done) in
          subst (λ (y : ℕ). cell_at (slice_set old c.args.later w) y p ≡ cell_at old y p) (sym same) (omega (arith, is, was, row, stays))
      | inr ne ↦ cell_other w old c.args.later q ne p
    ]
