use Rattle.std.proofs.Common.{◌≡◌, ◌≢◌, List, All, Some, slice_get, rules, sym, subst}
use Rattle.search_pool.specs.Pools.{IsTaken}
use Rattle.search_pool.specs.declared.request.Posed.{Posed}
use Rattle.search_pool.proofs.PendingLemmas.{IsTaken-remove, gone-remove}
use Rattle.search_pool.proofs.pool.take_out.Goals as goal

pub returns-clause-taken : goal.returns-clause-taken
returns-clause-taken c =
    let pending = c.args.pending.now.items in
    let there : slice_get pending c.in-Some.at ≡ Some c.args.posed.now = search rules in
    λ _. subst (IsTaken c.args.posed.now pending) (sym c.remove.ensures.items) (IsTaken-remove pending c.in-Some.at c.args.posed.now there)

pub returns-clause-gone : goal.returns-clause-gone
returns-clause-gone c =
    let pending = c.args.pending.now.items in
    let there : slice_get pending c.in-Some.at ≡ Some c.args.posed.now = search rules in
    λ _. subst (λ (left : List Posed). All (λ p. p.number ≢ c.args.posed.now.number) left) (sym c.remove.ensures.items)
    (gone-remove pending c.in-Some.at c.args.posed.now there c.requires)
