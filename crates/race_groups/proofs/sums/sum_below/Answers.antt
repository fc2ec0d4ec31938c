use Rattle.std.proofs.Common.{ap, length, replicate, sym, ◌∙◌}
use Rattle.race_groups.proofs.sums.sum_below.Goals as goal

pub sum_up-requires-clause-fronts : goal.sum_up-requires-clause-fronts
sum_up-requires-clause-fronts g c = c.as_mut_slice-fronts.ensures.value ∙ c.requires.blank.fronts

pub sum_up-requires-clause-sums : goal.sum_up-requires-clause-sums
sum_up-requires-clause-sums g c =
    let same = c.as_mut_slice-sums.ensures.value in
    same ∙ c.requires.blank.counts ∙ sym (ap (λ xs. replicate (length xs) 0) same)
