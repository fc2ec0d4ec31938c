-- The state of a cut's fronts while the events of one thread are gone through.
use Rattle.std.proofs.Common.{◌≡◌, ℕ, ◌+◌, ◌<◌, List, length, replicate, slice_index, ap, subst, ◌∙◌, arith}
use Rattle.std.proofs.lemmas.List.{length-replicate}
use Rattle.rapid_text.specs.declared.event.Event.{Event}
use Rattle.event_index.specs.Lookups.{events_of}
use Rattle.race_groups.specs.Counting.{AreCounts, AreFronts, IsFront}
use Rattle.race_groups.specs.Cuts.{IsCut}
use Rattle.race_groups.proofs.LoopLemmas.{zeros, AreCounts-begin, end_rises}

module _ (T : List Event) (threads n : ℕ) (classes : List ℕ) (u : ℕ) (end : ℕ → ℕ → ℕ) where
  pub IsFront-begin : (fronts counts : List ℕ) (m l : ℕ) → fronts ≡ replicate m 0 → counts ≡ replicate l 0 → m ≡ threads → l ≡ n → IsFront T threads n classes u end 0 fronts counts
  IsFront-begin fronts counts m l f c wide few = record {
    len = ap length c ∙ length-replicate l 0 ∙ few;
    counts = subst (λ w. AreCounts T w classes fronts counts) wide (AreCounts-begin T m classes fronts counts l f c);
    own = ap (λ xs. slice_index xs u) f ∙ zeros m u;
    behind = λ t k lt ne low below. let none = ap (λ xs. slice_index xs t) f ∙ zeros m t in omega (arith, none);
  }

  -- an event that moves no front
  pub IsFront-skipped : (i : ℕ) (fronts counts : List ℕ) → IsFront T threads n classes u end i fronts counts → IsFront T threads n classes u end (i + 1) fronts counts
  IsFront-skipped i fronts counts are = record {
    len = are.len;
    counts = are.counts;
    own = are.own;
    behind = λ t k lt ne low below. are.behind t k lt ne (omega arith) below;
  }

  -- and one to whose ends they move
  pub IsFront-moved : IsCut T end → (i : ℕ) (fronts counts : List ℕ) → i < length (events_of T u) → length counts ≡ n → AreCounts T threads classes fronts counts
      → AreFronts threads u (end (slice_index (events_of T u) i)) fronts → IsFront T threads n classes u end (i + 1) fronts counts
  IsFront-moved cut i fronts counts inside len are moved = record {
    len = len;
    counts = are;
    own = moved.1;
    behind = λ t k lt ne low below.
        let here = moved.0 t lt ne in
        let rises = end_rises T end u t i k cut (omega arith) below in
        omega (arith, here, rises);
  }
