use Rattle.std.proofs.Common.{◌≡◌, ℕ, List, Option, Some, None, IfSome, subst}
use Rattle.event_index.specs.Relations.{IsConflicting}
use Rattle.schedule.specs.Reordering.{IsCorrectReordering}
use Rattle.schedule.specs.Shows.{Shows}
use Rattle.witness_search.specs.Greedy.{IsGreedyAnswer}
use Rattle.search_pool.proofs.outcome.greedy_outcome.Goals as goal

pub returns-in-Ok-Some : goal.returns-in-Ok-Some
returns-in-Ok-Some c =
    let T = c.args.indexed.now.events in
    let is : c.in-Ok-Some.field-0 ≡ Some c.in-Ok-Some.list = c.in-Ok-Some.field-0-is in
    record {
      right = record {
        begins = c.in-Ok.ensures.reordering;
        answer = λ conflict.
            subst (λ (P : List ℕ). IsGreedyAnswer T P c.args.first c.args.second c.args.budget (Some c.in-Ok-Some.list)) c.in-Ok.ensures.events
            (subst (λ (found : Option (List ℕ)). IsGreedyAnswer T c.in-Ok.start.events c.args.first c.args.second c.args.budget found) is
            (c.in-Ok-Some.ensures.answer conflict));
        no_conflict = subst (λ (found : Option (List ℕ)). ¬ IsConflicting T c.args.first c.args.second → found ≡ None) is c.in-Ok-Some.ensures.no_conflict;
      };
      shown = (
        subst (λ (found : Option (List ℕ)). IfSome found (IsCorrectReordering T)) is c.in-Ok-Some.ensures.reordering,
        subst (λ (found : Option (List ℕ)). IfSome found (λ list. Shows T list c.args.first c.args.second)) is c.in-Ok-Some.ensures.shows,
      );
    }
