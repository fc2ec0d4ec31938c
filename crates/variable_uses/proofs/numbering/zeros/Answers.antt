use Rattle.std.proofs.Common.{◌∙◌, slice_index, ap}
use Rattle.variable_uses.proofs.NumberLemmas.{zeros}
use Rattle.variable_uses.proofs.numbering.zeros.Goals as goal

pub returns-clause-zeros : goal.returns-clause-zeros
returns-clause-zeros c = λ k. ap (λ xs. slice_index xs k) (c.in_ok-vec.ensures.items_if_clones_equal (λ y same. same)) ∙ zeros c.args.count k
