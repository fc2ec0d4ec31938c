use Rattle.std.proofs.Common.{◌-◌, ◌≤◌, ◌∙◌, length, get_or, refl, sym, arith}
use Rattle.std.proofs.lemmas.List.{length-set}
use Rattle.std.proofs.lemmas.List.Elements.{All-get_or}
use Rattle.variable_uses.proofs.EndLemmas.{AreNamedBefore-none, AreNamedBefore-one, AreNamedBefore-other}
use Rattle.variable_uses.proofs.ends.name_row.Goals as goal

pub returns-then-number-eq0-clause-named : goal.returns-then-number-eq0-clause-named
returns-then-number-eq0-clause-named c = AreNamedBefore-none c.args.numbers.now c.args.named.now c.args.event c.args.flags.now c.requires.named c.if-number-eq0.true

pub returns-then-not-flag_at-clause-named : goal.returns-then-not-flag_at-clause-named
returns-then-not-flag_at-clause-named c =
    AreNamedBefore-other c.args.numbers.now c.args.named.now c.args.event c.args.flags.now c.requires.named (sym c.flag_at.ensures ∙ c.if-not-flag_at.true)

pub returns-clause-named : goal.returns-clause-named
returns-clause-named c =
    let le : get_or c.args.numbers.now c.args.event 0 ≤ length c.args.flags.now = All-get_or (λ m. m ≤ length c.args.flags.now) c.args.numbers.now c.args.event 0 c.requires.event c.requires.numbers in
    AreNamedBefore-one c.args.numbers.now c.args.named.now c.args.event c.args.flags.now c.requires.named (get_or c.args.numbers.now c.args.event 0 - 1) _ (omega (arith, c.if-number-eq0.false)) (omega (arith, le, c.if-number-eq0.false))
    (sym c.flag_at.ensures ∙ c.if-not-flag_at.false) refl (length-set c.args.flags.now (get_or c.args.numbers.now c.args.event 0 - 1) _)
