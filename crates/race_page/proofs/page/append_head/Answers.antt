use Rattle.std.proofs.Common.{ap, ◌∙◌, ◌++◌, List, ℕ}
use Rattle.race_page.proofs.PieceLemmas.{one_more}
use Rattle.race_page.proofs.page.append_head.Goals as goal

pub returns : goal.returns
returns c =
    let old = c.args.out.now.items in
    let begin = c.in_ok-extend_from_slice.ensures.items ∙ ap (λ (xs : List ℕ). old ++ xs) c.row_begin_of.ensures in
    let first = one_more _ _ _ _ _ begin c.in_ok-append_number.ensures in
    let dash = one_more _ _ _ _ _ first c.in_ok-extend_from_slice-2.ensures.items in
    let second = one_more _ _ _ _ _ dash c.in_ok-append_number-2.ensures in
    let end = one_more _ _ _ _ _ second c.in_ok-extend_from_slice-3.ensures.items in
    let before = c.extend_from_slice-3.new.self.items in
    one_more _ _ _ _ _ end (c.in_ok-extend_from_slice-4.ensures.items ∙ ap (λ (xs : List ℕ). before ++ xs) c.seen_of.ensures)
