use Rattle.std.proofs.Common.{ap, arith, ◌≡◌}
use Rattle.workspace_lock.proofs.DealLemmas.{dealt_length, nothing_begun}
use Rattle.workspace_lock.proofs.seats.share.Goals as goal

pub finish-requires-clause-all : goal.finish-requires-clause-all
finish-requires-clause-all c = let l = dealt_length c.args.lock.shared.key.bench.value c.args.clients 0 c.args.place.me c.requires.place.2 in let k = c.requires.clients.0 in
    let same : c.in-Err.field-0.value.lock.shared.key.clients ≡ c.args.lock.shared.key.clients = ap (λ t. t.lock.shared.key.clients) c.in-Err.ensures.value_returned in (omega arith, omega arith)

pub returns-in-Err-clause-err : goal.returns-in-Err-clause-err
returns-in-Err-clause-err c = nothing_begun c.args.place.table_id c.args.lock.shared.key.bench.value c.args.clients c.args.place.me c.finish.result c.requires.clients.1 c.requires.place.2 c.finish.ensures
