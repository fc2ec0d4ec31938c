use Rattle.std.proofs.Common.{rules, ◌≡◌, ◌+◌, ℕ, List, Option, Some, None, Ok, true, false, length, sym, ◌∙◌, ap, subst}
use Rattle.std.proofs.lemmas.Option.{none-some}
use Rattle.witness_search.specs.Greedy.{after_steps, first_shown}
use Rattle.witness_search.specs.Searches.{marked_events}
use Rattle.witness_search.proofs.StepLemmas.{AreWanted-marked, Shows-does_show, first_shown-some}
use Rattle.witness_search.proofs.searching.greedy_within.Goals as goal

pub returns-then-not-branch-clause-run : goal.returns-then-not-branch-clause-run
returns-then-not-branch-clause-run c =
    let missed : c.in_ok-search.field-0 ≡ false = search rules in
    let T = c.args.indexed.now.events in
    let N = marked_events T c.in_ok-wanted.wanted.items in
    record {
      wanted = N;
      are_wanted = AreWanted-marked _ c.in_ok-schedule.ensures.disciplined _ _ _ c.in_ok-wanted.ensures;
      is = rw (← c.in_ok-schedule.ensures.events) (sym (c.in_ok-search.ensures.none (ap Ok missed)));
      steps = λ _. subst (λ (P : List ℕ). length (after_steps T c.args.pair.0 c.args.pair.1 N P c.args.left.now) + c.search.new.left ≡ length P + c.args.left.now)
          c.in_ok-schedule.ensures.events (c.in_ok-search.ensures.left (ap Ok missed));
    }

pub returns : goal.returns
returns c =
    let T = c.args.indexed.now.events in
    let N = marked_events T c.in_ok-wanted.wanted.items in
    let start = c.args.start.now.events in
    let list : c.search.new.schedule.events ≡ c.in_ok-events.events = sym (c.in_ok-events.ensures ∙ c.events.ensures.same) in
    let shown : c.in_ok-search.field-0 ≡ true = search rules in
    let found : first_shown T c.args.pair.0 c.args.pair.1 N start c.args.left.now ≡ Some c.in_ok-events.events =
    rw (← c.in_ok-schedule.ensures.events) (c.in_ok-search.ensures.shown (ap Ok shown) ∙ ap Some list) in
    let (j, low, after, shows) = first_shown-some T _ _ N start _ _ found in
    record {
      run = record {
        wanted = N;
        are_wanted = AreWanted-marked _ c.in_ok-schedule.ensures.disciplined _ _ _ c.in_ok-wanted.ensures;
        is = sym found;
        steps = λ none. absurd (none-some c.in_ok-events.events (sym none));
      };
      reordering = search rules;
      shows = Shows-does_show T _ _ _ (search rules) shows;
    }
