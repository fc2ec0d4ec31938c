use Rattle.std.proofs.Common.{ℕ, Option, IfSome, subst}
use Rattle.witness_search.specs.trace_order.Laws.{HasListInOrder}
use Rattle.witness_search.specs.trace_order.Sizes.{IsSizeInOrder}
use Rattle.race_triage.proofs.OutcomeLemmas.{candidate_in_order}
use Rattle.race_triage.proofs.tables.Tables.race_of_candidate.Goals as goal

pub returns : goal.returns
returns c =
    let r = c.args.self.now.indexed.now in
    let a = c.args.first in
    let b = c.args.second in
    let size = subst (λ (o : Option (ℕ × ℕ)). IfSome o (IsSizeInOrder r.events a b)) c.in-Some.is c.in_ok-size.ensures.size in
    let there = subst (λ (o : Option (ℕ × ℕ)). IfSome o (λ s. HasListInOrder r.events a b)) c.in-Some.is c.in_ok-size.ensures.there in
    (c.in-Some.size.0, c.in-Some.size.1, c.race.ensures, candidate_in_order r.events a b c.in_order_is_sound.ensures c.len-len.ensures.disciplined there c.in-Some.size size, c.requires.kind)
