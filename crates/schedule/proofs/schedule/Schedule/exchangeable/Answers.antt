use Rattle.std.proofs.Common.{◌≡◌, ◌+◌, ◌<◌, length, Some, None, refl, ap, sym, ◌∙◌, arith, rules}
use Rattle.std.proofs.lemmas.Bool.{false≢true}
use Rattle.std.proofs.lemmas.Option.{none-some}
use Rattle.schedule.specs.Swaps.{swap_refusal}
use Rattle.schedule.specs.declared.refusal.SwapRefusal.TheVariants.{NoSuchPair}
use Rattle.schedule.proofs.CallerLemmas.{swap_refusal-may, MayExchange-none, swap_refusal-past, swap_refusal-no_pair}
use Rattle.schedule.proofs.schedule.Schedule.exchangeable.Goals as goal

pub returns-in-Some-clause-exact : goal.returns-in-Some-clause-exact
returns-in-Some-clause-exact c =
    let T = c.args.self.now.trace.events in
    let P = c.args.self.now.events in
    let refused : swap_refusal T P c.args.at ≡ Some c.in-Some.cause = search rules in (
      λ bad. absurd (false≢true bad),
      λ may. absurd (none-some c.in-Some.cause (sym (swap_refusal-may T P c.args.at may) ∙ refused)),
    )

pub returns-in-Some-clause-no_pair : goal.returns-in-Some-clause-no_pair
returns-in-Some-clause-no_pair c =
    let T = c.args.self.now.trace.events in
    let P = c.args.self.now.events in
    let refused : swap_refusal T P c.args.at ≡ Some c.in-Some.cause = search rules in (
      λ is. let same : c.in-Some.cause ≡ NoSuchPair = cc in swap_refusal-no_pair T P c.args.at (refused ∙ ap Some same),
      λ past. let known = swap_refusal-past T P c.args.at past in cc,
    )

pub returns-in-None-clause-exact : goal.returns-in-None-clause-exact
returns-in-None-clause-exact c =
    let T = c.args.self.now.trace.events in
    let P = c.args.self.now.events in
    let none : swap_refusal T P c.args.at ≡ None = search rules in
    (λ _. MayExchange-none T P c.args.at none, λ _. refl)

pub returns-in-None-clause-no_pair : goal.returns-in-None-clause-no_pair
returns-in-None-clause-no_pair c =
    let T = c.args.self.now.trace.events in
    let P = c.args.self.now.events in
    let none : swap_refusal T P c.args.at ≡ None = search rules in
    let within : c.args.at + 1 < length P = (MayExchange-none T P c.args.at none).within in (
      λ bad. cc,
      λ past. absurd (omega (arith, within, past)),
    )
