use Rattle.std.proofs.Common.{◌≡◌, ◌≤◌, Option, Vec, ℕ, IfSome, List, length, ap, subst, arith}
use Rattle.std.specs.declared.alloc.Global.{Global}
use Rattle.race_groups.specs.Building.{AreAlike}
use Rattle.race_groups.specs.declared.class.Class.{Class}
use Rattle.race_groups.proofs.grouping.grouped.Goals as goal

pub returns : goal.returns
returns c =
    let numbers = c.args.numbers.now in
    let infos = c.args.infos.now in
    let made = c.in_ok-made.made.items in
    let value = c.as_slice-3.ensures.value in
    let from = c.in_ok-found.ensures in
    let few = subst (λ (o : Option (Vec ℕ Global)). IfSome o (λ after. length c.as_slice-3.result.now ≤ length infos)) c.in-Some.is from.few in
    let same : length c.as_slice-3.result.now ≡ length made = ap (λ (xs : List Class). length xs) value in
    record {
      len = subst (λ (o : Option (Vec ℕ Global)). IfSome o (λ after. length after.items ≡ length numbers)) c.in-Some.is from.len;
      few = omega (arith, few, same);
      alike = subst (λ (xs : List Class). AreAlike numbers infos c.in-Some.after.items xs (length numbers)) value
          (subst (λ (o : Option (Vec ℕ Global)). IfSome o (λ after. AreAlike numbers infos after.items c.as_slice-3.result.now (length numbers))) c.in-Some.is from.same);
      elements = c.in_ok-made.ensures;
    }
