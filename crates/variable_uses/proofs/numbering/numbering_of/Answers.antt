use Rattle.variable_uses.proofs.NumberLemmas.{IsNumbered-begin}
use Rattle.variable_uses.proofs.numbering.numbering_of.Goals as goal

pub add_all-requires-clause-none : goal.add_all-requires-clause-none
add_all-requires-clause-none c = IsNumbered-begin c.args.keys.now c.in_ok-slots.slots.items _ c.in_ok-slots.ensures.zeros c.new.ensures.items c.in_ok-with_capacity.ensures.items
