use Rattle.std.proofs.Common.{◌≡◌, ℕ, ◌-◌, List, drop, length, take, take_all, arith, ◌∙◌}
use Rattle.std.proofs.lemmas.List.{length-drop}
use Rattle.variable_names.proofs.HashLemmas.{after-none, after-some, before-none, before-some}
use Rattle.variable_names.proofs.numbers.cut_at_hash.Goals as goal

rest_is : (text : List ℕ) (at : ℕ) → take (length text - at) (drop at text) ≡ drop at text
rest_is text at = take_all (length text - at) (drop at text) (omega (arith, length-drop at text))

pub returns-in-Some-clause-before : goal.returns-in-Some-clause-before
returns-in-Some-clause-before c = before-some 35 c.args.name.now c.in-Some.at c.in-Some.ensures

pub returns-in-Some-clause-after : goal.returns-in-Some-clause-after
returns-in-Some-clause-after c = rest_is c.args.name.now _ ∙ after-some 35 c.args.name.now c.in-Some.at c.in-Some.ensures

pub returns-in-None-clause-before : goal.returns-in-None-clause-before
returns-in-None-clause-before c = before-none 35 c.args.name.now c.in-None.ensures

pub returns-in-None-clause-after : goal.returns-in-None-clause-after
returns-in-None-clause-after c = after-none 35 c.args.name.now c.in-None.ensures
