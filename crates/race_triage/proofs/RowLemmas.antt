-- Rows, and the pairs that fit them.
use Rattle.std.proofs.Common.{◌≡◌, ℕ, ◌↔◌, Bool, cond, IsTrue, List, [], ◌∷◌, All, count_by, Option, Some, None, refl, ap, ◌∙◌, arith, inl, inr}
use Rattle.std.proofs.lemmas.Bool.{cases_Bool}
use Rattle.std.proofs.lemmas.List.Elements.{All-weaker, All-head, All-tail, filter_passes}
use Rattle.std.proofs.lemmas.List.Sums.{sum_by-cons}
use Rattle.rapid_text.specs.Recording.{Recording}
use Rattle.must_order.specs.Kinds.{IsKind}
use Rattle.must_order.specs.declared.kind.Kind.TheVariants.{Candidate as CandidateKind, Open as OpenKind}
use Rattle.race_groups.specs.Groups.{conflicts, group_of, is_between, IsCountOf}
use Rattle.race_groups.specs.Kinds.{IsRow}
use Rattle.race_groups.specs.declared.kinds.Row.{Row}
use Rattle.race_groups.proofs.TellLemmas.{All-both, group_pairs, IsPair as IsGroupPair}
use Rattle.race_groups.proofs.ApartLemmas.{in_group, none_counted}
use Rattle.race_groups.specs.least_pairs.Pairs.{IsPair, AreAt, IsFit, IsLeastPair}
use Rattle.race_groups.specs.declared.least_pairs.wanted.Wanted.TheVariants.{Candidate, Open}

none_passes : {X : Type 0} (P : X → Type 0) (test : X → Bool) (xs : List X) → All (λ x. IsTrue (test x) ↔ P x) xs → All (λ x. ¬ P x) xs → ◌≡◌ {A = ℕ} (count_by test xs) 0
none_passes P test [] tells none = refl
none_passes P test (x ∷ xs) tells none =
    let rest = none_passes P test xs (All-tail (λ y. IsTrue (test y) ↔ P y) x xs tells) (All-tail (λ y. ¬ P y) x xs none) in
    let parts = sum_by-cons (λ z. cond (test z) 1 0) x xs in
    let told = All-head (λ y. IsTrue (test y) ↔ P y) x xs tells in
    let one : ◌≡◌ {A = ℕ} (cond (test x) 1 0) 0 = elim (cases_Bool (test x)) [
      | inl yes' ↦ absurd (All-head (λ y. ¬ P y) x xs none (told.0 yes'))
      | inr no' ↦ ap (λ (t : Bool). cond t 1 0) no'
    ] in
    omega (arith, parts, one, rest)

-- no pair of a kind is there, where none is counted
counted_none : {X : Type 0} (P : X → Type 0) (xs : List X) (n : ℕ) → IsCountOf P xs n → All (λ x. ¬ P x) xs → n ≡ 0
counted_none P xs n is none = is.count ∙ none_passes P is.test xs is.tells none

module _ (r : Recording) (place : ℕ → ℕ) (row : Row) (is : IsRow r place row) where
  abbrev group : List (ℕ × ℕ)
  group = group_of r.events place row.places.0 row.places.1

  here : All (λ e. IsPair r.events e.0 e.1 × AreAt place row.places e.0 e.1) group
  here =
      let test : ℕ × ℕ → Bool = λ e. is_between row.places.0 row.places.1 (place e.0) (place e.1) in
      All-both (λ e. IsPair r.events e.0 e.1) (λ e. AreAt place row.places e.0 e.1) group
      (All-weaker (λ e. IsGroupPair r.events e.0 e.1) (λ e. IsPair r.events e.0 e.1)
      (λ e (p : IsGroupPair r.events e.0 e.1). record { conflict = p.conflict; earlier = p.earlier; within = p.within }) group (group_pairs r.events place row.places.0 row.places.1))
      (filter_passes test (conflicts r.events))

  pub no_candidate : ((a b : ℕ) → ¬ IsFit r place row.places Candidate a b) → row.counts.candidates ≡ 0
  no_candidate none =
      counted_none (λ e. IsKind r e.0 e.1 CandidateKind) group row.counts.candidates is.candidates
      (All-weaker (λ e. IsPair r.events e.0 e.1 × AreAt place row.places e.0 e.1) (λ e. ¬ IsKind r e.0 e.1 CandidateKind)
      (λ e h kind. none e.0 e.1 (record { pair = h.0; at = h.1; kind = kind })) group here)

  pub no_open : ((a b : ℕ) → ¬ IsFit r place row.places Open a b) → row.counts.open_pairs ≡ 0
  no_open none =
      counted_none (λ e. IsKind r e.0 e.1 OpenKind) group row.counts.open_pairs is.open_pairs
      (All-weaker (λ e. IsPair r.events e.0 e.1 × AreAt place row.places e.0 e.1) (λ e. ¬ IsKind r e.0 e.1 OpenKind)
      (λ e h kind. none e.0 e.1 (record { pair = h.0; at = h.1; kind = kind })) group here)

  -- where no candidate is counted, none is the least
  pub none_is_least : row.counts.candidates ≡ 0 → (found : Option (ℕ × ℕ)) → IsLeastPair r place row.places Candidate found → found ≡ None
  none_is_least none None least = refl
  none_is_least none (Some p) least =
      let fit = least.0 in
      let there = in_group r.events place row.places.0 row.places.1 p.1 p.0 fit.pair.earlier fit.pair.conflict fit.at in
      absurd (none_counted (λ e. IsKind r e.0 e.1 CandidateKind) group row.counts.candidates (p.1, p.0) is.candidates none there fit.kind)
