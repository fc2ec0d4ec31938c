use Rattle.witness_search.proofs.trace_order.AnswerLemmas.{IsNeverShown-refused}
use Rattle.witness_search.proofs.trace_order.joining.joined_in_order.Goals as goal

pub returns-in-Err-clause-never_shown : goal.returns-in-Err-clause-never_shown
returns-in-Err-clause-never_shown c =
    IsNeverShown-refused c.args.indexed.now.events c.judge.ensures.disciplined c.args.first c.args.second c.in-Err.refusal c.in-Err.ensures.refused
