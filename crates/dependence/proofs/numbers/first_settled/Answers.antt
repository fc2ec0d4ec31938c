use Rattle.std.proofs.Common.{◌∙◌, arith}
use Rattle.std.proofs.lemmas.Grind.{common_steps}
use Rattle.dependence.proofs.RisingLemmas.{taken_first, first_above}
use Rattle.dependence.proofs.numbers.first_settled.Goals as goal

pub returns : goal.returns
returns c =
    let xs = c.args.numbers.now.keys in
    c.copied.ensures ∙ taken_first _ xs c.range-above.result c.next.new.self c.next.result (c.range-above.ensures.between tt) c.next.ensures.steps
    ∙ first_above c.args.entry _ (grind (arith, common_steps)) xs
