use Rattle.std.proofs.Common.{ℕ, get_or, subst, sym, ◌∙◌, refl}
use Rattle.std.proofs.lemmas.Bool.{false≢true}
use Rattle.std.proofs.lemmas.Option.{none-some, same_Some}
use Rattle.must_order.specs.Layout.{IsCounted}
use Rattle.witness_search.proofs.trace_order.LastLemmas.{are_ended, none_ended, is_due}
use Rattle.witness_search.proofs.trace_order.lasting.due_by.Goals as goal

pub returns-in_err-last-clause-none : goal.returns-in_err-last-clause-none
returns-in_err-last-clause-none c =
    λ _ other. none_ended c.args.indexed.now (λ t. get_or c.args.row.now t 0) c.args.lock c.args.lane.now c.requires.lane (c.in_err-last.ensures.none refl)

pub returns-in_err-end-clause-none : goal.returns-in_err-end-clause-none
returns-in_err-end-clause-none c =
    λ _ other.
    are_ended c.args.indexed.now (λ t. get_or c.args.row.now t 0) c.args.lock c.args.lane.now c.requires.lane c.len-len.ensures.disciplined
    c.in_ok-last.last c.in_ok-last.ensures.last
    (λ k ends. absurd (none-some k (c.in_err-end.ensures.section ∙ ends)))

pub returns-then-is_counted-clause-none : goal.returns-then-is_counted-clause-none
returns-then-is_counted-clause-none c =
    let row : ℕ → ℕ = λ t. get_or c.args.row.now t 0 in
    λ _ other.
    are_ended c.args.indexed.now row c.args.lock c.args.lane.now c.requires.lane c.len-len.ensures.disciplined c.in_ok-last.last c.in_ok-last.ensures.last
    (λ k ends. subst (IsCounted c.args.indexed.now.events row) (same_Some c.in_ok-end.end k (c.in_ok-end.ensures.section ∙ ends))
    (c.is_counted.ensures.0 c.if-is_counted.true))

pub returns-clause-due : goal.returns-clause-due
returns-clause-due c =
    is_due c.args.indexed.now (λ t. get_or c.args.row.now t 0) c.args.lock c.args.lane.now c.requires.lane c.args.latest c.requires.counted c.requires.last
    c.if-lane-latest.false
    c.in_ok-last.last c.in_ok-last.ensures.last c.in_ok-end.end (sym c.in_ok-end.ensures.section)
    (λ counted. false≢true (sym c.if-is_counted.false ∙ c.is_counted.ensures.1 counted))
