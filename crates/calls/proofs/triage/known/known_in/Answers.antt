use Rattle.std.proofs.Common.{List, Option, Vec, Some, Global, option_map, subst, sym, ℕ}
use Rattle.race_triage.specs.Known.{AreKnown}
use Rattle.calls.specs.triage.Answers.{IsGiven}
use Rattle.calls.proofs.triage.known.known_in.Goals as goal

pub returns-in_ok-known_of-in-Some : goal.returns-in_ok-known_of-in-Some
returns-in_ok-known_of-in-Some c =
    let keys = c.args.places.now.locations.keys in
    let pairs : List (ℕ × ℕ) = c.in_ok-known_of-in-Some.field-0.keys in
    subst (λ (o : Option (Vec ℕ Global)). IsGiven keys (option_map (λ v. v.items) o) (Some pairs)) (sym c.in-Some.is)
    (subst (λ (t : List ℕ). AreKnown keys t pairs) c.as_slice.ensures.value c.in_ok-known_of-in-Some.ensures.known)
