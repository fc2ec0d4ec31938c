use Rattle.std.proofs.Common.{◌∙◌, sym, subst}
use Rattle.moves.proofs.NameLemmas.{bytes-true}
use Rattle.dependence.specs.Places.{HasAt}
use Rattle.dependence.proofs.touches.is_at.Goals as goal

pub returns-in-Some : goal.returns-in-Some
returns-in-Some c so =
    let same = bytes-true c.in-Some.key.now c.args.name.now (sym c.eq.ensures ∙ so) in
    subst (λ x. HasAt c.args.lists.now.entries c.args.at x) same (record {
      list = c.in-Some.field-0-1.now;
      there = sym c.in-Some.ensures.entry;
      found = c.in-Some.ensures.value;
    })
