use Rattle.std.proofs.Common.{◌∙◌, sym, true≢false}
use Rattle.dependence.proofs.RisingLemmas.{on_last}
use Rattle.dependence.proofs.NumberLemmas.{reached_there, reached_low}
use Rattle.dependence.proofs.numbers.Numbers.place.Goals as goal

pub returns-then-ends_in-clause-ok : goal.returns-then-ends_in-clause-ok
returns-then-ends_in-clause-ok c = reached_there c.args.entry c.args.self.now c.requires (c.ends_in.ensures.0 c.if-ends_in.true)

pub push-requires : goal.push-requires
push-requires c = reached_low c.args.entry c.args.self.now c.requires (λ is. absurd (true≢false (sym (c.ends_in.ensures.1 is) ∙ c.if-ends_in.false)))

pub returns-clause-ok : goal.returns-clause-ok
returns-clause-ok c =
    on_last c.args.entry c.args.self.now c.push.new.self c.push.result
    (reached_low c.args.entry c.args.self.now c.requires (λ is. absurd (true≢false (sym (c.ends_in.ensures.1 is) ∙ c.if-ends_in.false)))) c.push.ensures.ok
