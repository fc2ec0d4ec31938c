use Rattle.std.proofs.Common.{ℕ, length, slice_index, refl, inl, inr, ◌⊎◌}
use Rattle.must_order.specs.Kinds.{IsKind}
use Rattle.must_order.specs.declared.kind.Kind.TheVariants.{Candidate, Open}
use Rattle.race_groups.specs.least_pairs.Going.{IsOwn}
use Rattle.race_groups.specs.least_pairs.Pairs.{IsPair}
use Rattle.race_groups.proofs.least_pairs.NextLemmas.{AreSoFar-none, no_variable}
use Rattle.race_groups.proofs.least_pairs.NoneLemmas.{no_candidate_pair, no_open_pair}
use Rattle.race_groups.proofs.least_pairs.leasts.Search.found.Goals as goal

no_pair : (c : goal.Then-has_none) (a b : ℕ) → IsPair c.args.self.now.indexed.now.events a b
    → ¬ (IsKind c.args.self.now.indexed.now a b Candidate ⊎ IsKind c.args.self.now.indexed.now a b Open)
no_pair c a b pair either = elim either [
  | inl kind ↦ no_candidate_pair c.args.self.now c.requires.sound a b pair (c.if-has_none.ensures.candidates refl) kind
  | inr kind ↦ no_open_pair c.args.self.now c.requires.sound a b pair (c.if-has_none.ensures.opens refl) kind
]

pub returns-then-has_none : goal.returns-then-has_none
returns-then-has_none c =
    let s = c.args.self.now in
    let place = slice_index s.places.now in
    record {
      so_far =
          AreSoFar-none s.indexed.now place s.groups.now.rows.items s.most (IsOwn s) c.in_ok-leasts.leasts.items
          (λ places y has. no_variable s.indexed.now place (no_pair c) places y has.1) (length s.indexed.now.variables) c.in_ok-leasts.ensures.found;
      held = λ y a b lt own pair access. record {
        candidate = λ kind. absurd (no_pair c a b pair (inl kind));
        opens = λ of these kind. absurd (no_pair c a b pair (inr kind));
      };
    }
