use Rattle.std.proofs.Common.{◌≡◌, true, Some, sym, bytes_eq, subst}
use Rattle.std.specs.Map.{lookup}
use Rattle.std.proofs.lemmas.Map.Made.{lookup_key_passes}
use Rattle.moves.proofs.NameLemmas.{bytes-true}
use Rattle.dependence.specs.Places.{HasAt}
use Rattle.dependence.proofs.touches.place_of.Goals as goal

pub returns-clause-some : goal.returns-clause-some
returns-clause-some c =
    let key = c.in_ok-at.field-0-1.now in
    let passes : bytes_eq c.args.name.now key ≡ true = lookup_key_passes (bytes_eq c.args.name.now) c.args.lists.now.entries key (sym c.in_ok-at.ensures.key) in
    let same = bytes-true c.args.name.now key passes in
    subst (λ x. HasAt c.args.lists.now.entries c.in_ok-at.at x) (sym same) (record {
      list = c.in_ok-at.field-0-2.now;
      there = c.in_ok-at.ensures.entry;
      found = subst (λ x. lookup (bytes_eq x) c.args.lists.now.entries ≡ Some c.in_ok-at.field-0-2.now) same (sym c.in_ok-at.ensures.value);
    })
