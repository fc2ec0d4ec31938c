use Rattle.std.proofs.Common.{List, ℕ, ◌+◌, length, sym, subst, ap, ◌∙◌}
use Rattle.std.proofs.lemmas.List.{length_push}
use Rattle.race_groups.specs.Building.{AreAlike}
use Rattle.race_groups.proofs.BuildLemmas.{AreAlike-push}
use Rattle.race_groups.proofs.grouping.renumbered.Goals as goal

pub loop-at-preserved : goal.loop-at-preserved
loop-at-preserved c =
    let inv = c.loop-at.invariant in
    let numbers = c.args.numbers.now in
    let infos = c.args.infos.now in
    let made = c.args.made.now in
    let at = c.loop-at.at in
    let more = AreAlike-push numbers infos c.loop-at.after.items made at c.place_of-place.result c.class_at-class.result inv.len inv.same c.class_at-class.ensures
    (c.is_at.ensures.found c.if-not-is_at.false) in
    record {
      len = ap (λ (xs : List ℕ). length xs) c.in_ok-push.ensures.items ∙ length_push c.loop-at.after.items c.place_of-place.result ∙ ap (λ n. n + 1) inv.len;
      same = subst (λ (xs : List ℕ). AreAlike numbers infos xs made (at + 1)) (sym c.in_ok-push.ensures.items) more;
    }
