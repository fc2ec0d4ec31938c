-- No correct reordering shows a deadlock with two requests that are guarded or forced.
use Rattle.std.proofs.Common.{◌≡◌, Some, sym, ap, ◌∙◌, arith}
use Rattle.std.proofs.lemmas.List.Elements.{All-contains}
use Rattle.schedule.specs.Shows.{IsReady}
use Rattle.must_order.proofs.CallerLemmas.{IsMustBefore-in, one_holder_in, base_of-ready, hold_count-ready}
use Rattle.lock_waits.specs.Laws.{GuardedIsNeverShown, ForcedIsNeverShown}

pub guarded_law : GuardedIsNeverShown
guarded_law T P es e d is has_e has_d apart (l, ((t, of_e, holds), (u, of_d, also))) shows =
    let first : IsReady T P e = All-contains (IsReady T P) es e shows.ready has_e in
    let second : IsReady T P d = All-contains (IsReady T P) es d shows.ready has_d in
    let mine = hold_count-ready T P is e first t l of_e in
    let theirs = hold_count-ready T P is d second u l of_d in
    let one : t ≡ u = one_holder_in T P is t u l (omega (arith, holds, mine)) (omega (arith, also, theirs)) in
    apart (of_e ∙ ap Some one ∙ sym of_d)

pub forced_law : ForcedIsNeverShown
forced_law T P es e d rules is has_e has_d (c, base, must) shows =
    let first : IsReady T P e = All-contains (IsReady T P) es e shows.ready has_e in
    let second : IsReady T P d = All-contains (IsReady T P) es d shows.ready has_d in
    first.fresh (IsMustBefore-in T rules e c must P is (base_of-ready T P is d second c base))
