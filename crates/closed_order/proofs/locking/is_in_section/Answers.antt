use Rattle.std.proofs.Common.{ℕ, ◌<◌, take, subst, le_refl, inl}
use Rattle.event_index.proofs.CallerLemmas.{one_thread}
use Rattle.trace_rules.specs.Rules.{hold_count}
use Rattle.closed_order.specs.Known.{events_in}
use Rattle.closed_order.proofs.locking.is_in_section.Goals as goal

pub returns-in-Some : goal.returns-in-Some
returns-in-Some c so =
    let T = events_in c.args.known.now in
    let since = c.in-Some.ensures in
    let holds : 0 < hold_count (take c.args.event T) since.thread c.args.lock = since.held c.args.event since.earlier (le_refl c.args.event) in
    inl (subst (λ (u : ℕ). 0 < hold_count (take c.args.event T) u c.args.lock) (one_thread T c.args.event since.thread c.args._thread since.of c.requires.thread) holds)
