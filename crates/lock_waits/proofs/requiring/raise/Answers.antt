use Rattle.std.proofs.Common.{ℕ, ◌<◌, Option, IfSome, length, ap, subst, arith}
use Rattle.rapid_text.specs.Recording.{Recording}
use Rattle.shb_clocks.specs.SharedRows.{count_of}
use Rattle.must_order.specs.Telling.{TellsMust}
use Rattle.witness_search.proofs.trace_order.JoinLemmas.{Joins-raised}
use Rattle.lock_waits.proofs.requiring.raise.Goals as goal

pub returns-in-Some-clause-joins : goal.returns-in-Some-clause-joins
returns-in-Some-clause-joins c =
    let r = c.args.indexed.now in
    let told = subst (λ (q : Recording). TellsMust q.events (length q.threads) (count_of c.rows.result.now)) c.requires.must c.rows.ensures.tells in
    Joins-raised r c.threads-threads.ensures.well_formed c.threads-threads.ensures.disciplined c.in-Some.event (count_of c.rows.result.now) told
    (subst (λ (o : Option ℕ). IfSome o (λ e. e < length r.events)) c.in-Some.is c.requires.within) c.args.row.now.items c.raise.new.row.items
    c.requires.len c.raise.ensures.len
    (λ t low. c.raise.ensures.counts t (omega (arith, low, c.rows.ensures.width, ap (λ (q : Recording). length q.threads) c.requires.must))) c.args.event
    c.in-Some.is
