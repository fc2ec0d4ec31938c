use Rattle.std.proofs.Common.{◌∙◌, sym, subst}
use Rattle.calls.specs.Requests.{AreSlices}
use Rattle.calls.proofs.SearchLemmas.{proposed-none}
use Rattle.calls.proofs.searching.search.Goals as goal

pub returns-in_err-ask_all-clause-proposes : goal.returns-in_err-ask_all-clause-proposes
returns-in_err-ask_all-clause-proposes g c = proposed-none _ _ _

pub returns-then-not-branch-clause-proposes : goal.returns-then-not-branch-clause-proposes
returns-then-not-branch-clause-proposes g c = proposed-none _ _ _

pub propose_all-requires : goal.propose_all-requires
propose_all-requires g c =
    subst (λ pairs. AreSlices pairs c.ask_all.new.pool.pending) (c.items.ensures ∙ sym c.items-2.ensures) c.ask_all.ensures.asked
