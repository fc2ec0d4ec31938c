use Rattle.std.proofs.Common.{◌≡◌, [], rules}
use Rattle.calls.proofs.pair.AnswerLemmas.{unlisted-unwitnessed, witness-text}
use Rattle.calls.proofs.pair.witnessing.witness_of_pair.Goals as goal

pub returns-in-Err-clause-fault : goal.returns-in-Err-clause-fault
returns-in-Err-clause-fault c =
    unlisted-unwitnessed c.args.analysis.now c.args._one c.args._other c.args.pair.0 c.args.pair.1 c.requires.named c.in-Err.fault c.in-Err.ensures.unlisted

pub returns-clause-text : goal.returns-clause-text
returns-clause-text c =
    let none : c.new-text.result.items ≡ [] = search rules in
    let appended = c.in_ok-append_schedule.ensures in
    witness-text c.args.analysis.now c.args._one c.args._other c.args.pair.0 c.args.pair.1 c.args.form c.requires.named c.in-Ok.events c.items.result.now _ appended.0 _ c.in-Ok.ensures.listed c.items.ensures none appended.1 appended.2
