use Rattle.std.proofs.Common.{ℕ, Option, IfSome, subst, inl}
use Rattle.std.proofs.lemmas.Result.{IfOk-weaker}
use Rattle.witness_search.specs.trace_order.Laws.{HasListInOrder}
use Rattle.witness_search.specs.trace_order.Sizes.{IsSizeInOrder}
use Rattle.race_triage.proofs.OutcomeLemmas.{beyond_in_order, list_in_order}
use Rattle.race_triage.proofs.VerdictLemmas.{turned_open}
use Rattle.race_triage.proofs.tables.Tables.race_of_open.Goals as goal

pub race_turned-requires-clause-never : goal.race_turned-requires-clause-never
race_turned-requires-clause-never c = c.in_ok-size.ensures.never c.in-None.is

pub returns-in-Some-clause-race : goal.returns-in-Some-clause-race
returns-in-Some-clause-race c =
    let r = c.args.self.now.indexed.now in
    let a = c.args.first in
    let b = c.args.second in
    let size = subst (λ (o : Option (ℕ × ℕ)). IfSome o (IsSizeInOrder r.events a b)) c.in-Some.is c.in_ok-size.ensures.size in
    let there = subst (λ (o : Option (ℕ × ℕ)). IfSome o (λ s. HasListInOrder r.events a b)) c.in-Some.is c.in_ok-size.ensures.there in
    let law = c.in_order_is_sound.ensures in
    let rules = c.len-len.ensures.disciplined in
    inl (
      c.in-Some.size.0,
      c.in-Some.size.1,
      c.race.ensures,
      beyond_in_order r.events a b law rules there c.in-Some.size size,
      (c.requires.kind, list_in_order r.events a b law rules there c.in-Some.size size),
    )

pub returns-in-None-clause-race : goal.returns-in-None-clause-race
returns-in-None-clause-race c =
    IfOk-weaker c.race_turned.result _ _ (turned_open c.args.self.now.indexed.now c.args.first c.args.second) c.race_turned.ensures.race

pub returns-in-None-clause-none : goal.returns-in-None-clause-none
returns-in-None-clause-none c = c.race_turned.ensures.none

pub returns-in-Some-clause-found : goal.returns-in-Some-clause-found
returns-in-Some-clause-found c =
    let r = c.args.self.now.indexed.now in
    let a = c.args.first in
    let b = c.args.second in
    let size = subst (λ (o : Option (ℕ × ℕ)). IfSome o (IsSizeInOrder r.events a b)) c.in-Some.is c.in_ok-size.ensures.size in
    let there = subst (λ (o : Option (ℕ × ℕ)). IfSome o (λ s. HasListInOrder r.events a b)) c.in-Some.is c.in_ok-size.ensures.there in
    inl (list_in_order r.events a b c.in_order_is_sound.ensures c.len-len.ensures.disciplined there c.in-Some.size size)
