-- The four kinds part all pairs, and their counts are differences of counts of nested tests.
use Rattle.std.proofs.Common.{◌≡◌, ℕ, ◌+◌, Bool, true, false, ◌&&◌, cond, List, [], ◌∷◌, length, All, count_by, refl, sym, true≢false, add-one, arith}
use Rattle.std.proofs.lemmas.List.Elements.{All-head, All-tail}
use Rattle.std.proofs.lemmas.List.Sums.{sum_by-cons}
use Rattle.race_groups.specs.Groups.{kind_by}
use Rattle.race_groups.specs.Kinds.{is_kind, kind_count}
use Rattle.must_order.specs.declared.kind.Kind.{Kind}
use Rattle.must_order.specs.declared.kind.Kind.TheVariants.{Candidate, Open, Guarded, Forced}

length-cons : {X : Type 0} (x : X) (xs : List X) → length (x ∷ xs) ≡ length xs + 1
length-cons x xs = sym (add-one (length xs))

-- What the counts of nested tests tell of the kinds.
pub record AreKinds (candidates opens guarded forced all known must known_guarded must_guarded : ℕ) : Type 0 where
  pub whole : candidates + opens + guarded + forced ≡ all
  pub candidate : candidates + known ≡ all
  pub force : forced ≡ must
  pub guard : guarded + must_guarded ≡ known_guarded

-- at one pair
at_one : (k f g : Bool) → (f ≡ true → k ≡ true)
    → AreKinds (cond (is_kind Candidate (kind_by k f g)) 1 0) (cond (is_kind Open (kind_by k f g)) 1 0) (cond (is_kind Guarded (kind_by k f g)) 1 0) (cond (is_kind Forced (kind_by k f g)) 1 0) 1 (cond k 1 0) (cond f 1 0) (cond (k && g) 1 0) (cond (f && g) 1 0)
at_one true true true h = record { whole = refl; candidate = refl; force = refl; guard = refl }
at_one true true false h = record { whole = refl; candidate = refl; force = refl; guard = refl }
at_one true false true h = record { whole = refl; candidate = refl; force = refl; guard = refl }
at_one true false false h = record { whole = refl; candidate = refl; force = refl; guard = refl }
at_one false true g h = absurd (true≢false (sym (h refl)))
at_one false false true h = record { whole = refl; candidate = refl; force = refl; guard = refl }
at_one false false false h = record { whole = refl; candidate = refl; force = refl; guard = refl }

module _ {X : Type 0} (known forced guarded : X → Bool) where
  pub kinds_are : (xs : List X) → All (λ x. forced x ≡ true → known x ≡ true) xs
      → AreKinds (kind_count known forced guarded Candidate xs) (kind_count known forced guarded Open xs) (kind_count known forced guarded Guarded xs) (kind_count known forced guarded Forced xs)
      (length xs) (count_by known xs) (count_by forced xs) (count_by (λ x. known x && guarded x) xs) (count_by (λ x. forced x && guarded x) xs)
  kinds_are [] all = record { whole = refl; candidate = refl; force = refl; guard = refl }
  kinds_are (x ∷ xs) all =
      let rest = kinds_are xs (All-tail (λ x. forced x ≡ true → known x ≡ true) x xs all) in
      let here = at_one (known x) (forced x) (guarded x) (All-head (λ x. forced x ≡ true → known x ≡ true) x xs all) in
      let K : Kind → X → ℕ = λ kind x. cond (is_kind kind (kind_by (known x) (forced x) (guarded x))) 1 0 in
      let c1 = sum_by-cons (K Candidate) x xs in
      let c2 = sum_by-cons (K Open) x xs in
      let c3 = sum_by-cons (K Guarded) x xs in
      let c4 = sum_by-cons (K Forced) x xs in
      let c5 = sum_by-cons (λ x. cond (known x) 1 0) x xs in
      let c6 = sum_by-cons (λ x. cond (forced x) 1 0) x xs in
      let c7 = sum_by-cons (λ x. cond (known x && guarded x) 1 0) x xs in
      let c8 = sum_by-cons (λ x. cond (forced x && guarded x) 1 0) x xs in
      record {
        whole = omega (arith, rest.whole, here.whole, c1, c2, c3, c4, length-cons x xs);
        candidate = omega (arith, rest.candidate, here.candidate, c1, c5, length-cons x xs);
        force = omega (arith, rest.force, here.force, c4, c6);
        guard = omega (arith, rest.guard, here.guard, c3, c7, c8);
      }
