use Rattle.std.proofs.Common.{ap, subst, sym, ◌++◌, ◌∙◌, ℕ, List}
use Rattle.race_triage.specs.Chosen.{known_places}
use Rattle.calls.specs.triage.Answers.{IsToldIn}
use Rattle.calls.proofs.triage.texts.told.Goals as goal

pub returns : goal.returns
returns c =
    let found = c.args.found.now in
    let numbers = found.places.numbers.items in
    let known = known_places c.in_ok-known.known in
    let made = c.in_ok-races.ensures in
    let text = made.1 ∙ ap (λ (before : List ℕ). before ++ made.0) c.new-text.ensures.items in
    record {
      keys = found.places.locations.keys;
      numbers = numbers;
      numbered = c.requires.numbered;
      firsts = c.requires.firsts;
      known = known;
      verdicts = found.verdicts.items;
      known_is = simp c.indexed.ensures at c.in_ok-known.ensures;
      found = c.requires.found;
      told =
          subst (λ (t : List ℕ). IsToldIn c.args.analysis.now numbers known c.args.asked found.verdicts.items c.in_ok-races.races t)
          (sym text) made.2;
    }
