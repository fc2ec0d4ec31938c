use Rattle.std.proofs.Common.{◌≡◌, None, Some, ap, subst, ◌∙◌}
use Rattle.std.specs.HashMap.{get}
use Rattle.std.specs.Map.{lookup}
use Rattle.schedule.specs.Keys.{key_eq}
use Rattle.schedule.proofs.SlotLemmas.{appended, near_held}
use Rattle.schedule.proofs.latest_table.LatestTable.put.Goals as goal

pub returns-then-len-lt-NEAR-clause-ok : goal.returns-then-len-lt-NEAR-clause-ok
returns-then-len-lt-NEAR-clause-ok c =
    let s = c.args.self.now in
    let k = c.args.key in
    let none : lookup (key_eq k) s.near.items ≡ None = subst (λ es. lookup (key_eq k) es ≡ None) c.deref.ensures.value c.in_default.ensures.none in
    λ q. near_held k q (Some c.args.latest) (lookup (key_eq q) s.near.items) _ (get key_eq s.far q)
    (ap (lookup (key_eq q)) c.in_ok-push.ensures.items ∙ appended k q (Some c.args.latest) s.near.items none)
