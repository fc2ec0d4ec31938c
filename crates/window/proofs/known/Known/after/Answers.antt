use Rattle.std.proofs.Common.{◌||◌, Bool, false, List, ap, ap₂, ◌∙◌, length, slice_index_or, subst}
use Rattle.event_index.specs.Tables.{IsTable}
use Rattle.rapid_text.proofs.NameNumbers.{has}
use Rattle.rapid_text.specs.Recording.{Recording}
use Rattle.window.specs.Heads.{level_names}
use Rattle.window.specs.Tables.{found_name, has_fork, has_join, has_thread}
use Rattle.window.proofs.KnownLemmas.{found_table}
use Rattle.window.proofs.known.Known.after.Goals as goal

pub returns-clause-forked : goal.returns-clause-forked
returns-clause-forked c name =
    let r = c.args.trace.now in
    let len = c.len-to.ensures.len ∙ ap (λ (s : Recording). length s.events) c.raw.ensures.same in
    let table = subst (λ n. IsTable (has_fork r.events c.args.from n) (length r.threads) c.in_ok-forks.forks.items) len c.in_ok-forks.ensures in
    c.in_ok-with_found.ensures name
    ∙ ap₂ (λ (s : Recording) (fs : List Bool). has (level_names c.args.self.now.forked) name || found_name s.threads (λ t. slice_index_or fs t false) (length s.threads) name) c.raw-2.ensures.same c.as_slice.ensures.value
    ∙ ap (λ (b : Bool). has (level_names c.args.self.now.forked) name || b) (found_table r.threads (has_fork r.events c.args.from (length r.events)) (length r.threads) c.in_ok-forks.forks.items name table)

pub returns-clause-seen : goal.returns-clause-seen
returns-clause-seen c name =
    let r = c.args.trace.now in
    let len = c.len-to.ensures.len ∙ ap (λ (s : Recording). length s.events) c.raw.ensures.same in
    let table = subst (λ n. IsTable (has_thread r.events c.args.from n) (length r.threads) c.in_ok-threads.threads.items) len c.in_ok-threads.ensures in
    c.in_ok-with_found-2.ensures name
    ∙ ap₂ (λ (s : Recording) (fs : List Bool). has (level_names c.args.self.now.seen) name || found_name s.threads (λ t. slice_index_or fs t false) (length s.threads) name) c.raw-3.ensures.same c.as_slice-2.ensures.value
    ∙ ap (λ (b : Bool). has (level_names c.args.self.now.seen) name || b) (found_table r.threads (has_thread r.events c.args.from (length r.events)) (length r.threads) c.in_ok-threads.threads.items name table)

pub returns-clause-joined : goal.returns-clause-joined
returns-clause-joined c name =
    let r = c.args.trace.now in
    let len = c.len-to.ensures.len ∙ ap (λ (s : Recording). length s.events) c.raw.ensures.same in
    let table = subst (λ n. IsTable (has_join r.events c.args.from n) (length r.threads) c.in_ok-joins.joins.items) len c.in_ok-joins.ensures in
    c.in_ok-with_found-3.ensures name
    ∙ ap₂ (λ (s : Recording) (fs : List Bool). has (level_names c.args.self.now.joined) name || found_name s.threads (λ t. slice_index_or fs t false) (length s.threads) name) c.raw-4.ensures.same c.as_slice-3.ensures.value
    ∙ ap (λ (b : Bool). has (level_names c.args.self.now.joined) name || b) (found_table r.threads (has_join r.events c.args.from (length r.events)) (length r.threads) c.in_ok-joins.joins.items name table)
