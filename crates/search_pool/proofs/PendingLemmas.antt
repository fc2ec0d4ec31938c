-- One request less among those that are pending, each of which was submitted after those before it.
use Rattle.std.proofs.Common.{◌≡◌, ◌≢◌, ℕ, suc, ◌+◌, ◌<◌, ◌≤◌, List, ◌∷◌, ◌++◌, length, take, drop, get_or, All, Some, slice_get, sym, refl, ap, ◌∙◌, arith, inl, inr}
use Rattle.std.specs.List.{remove}
use Rattle.std.proofs.lemmas.Bool.{cases_lt}
use Rattle.std.proofs.lemmas.List.{take-append-drop}
use Rattle.std.proofs.lemmas.List.Edits.{length-remove, get_or-remove_below, get_or-remove_above}
use Rattle.std.proofs.lemmas.List.Quantifiers.{all_pairs_remove}
use Rattle.std.proofs.lemmas.Option.{slice_get_within, get_or_from_slice_get}
use Rattle.std.proofs.Math.Seq.{drop-cons}
use Rattle.search_pool.specs.Pools.{AreRising, IsPooled, IsTaken}
use Rattle.search_pool.specs.declared.request.Posed.{Posed}

module _ (before : List Posed) (at : ℕ) (posed : Posed) (there : slice_get before at ≡ Some posed) where
  within : at < length before
  within = slice_get_within before at posed there

  pub IsTaken-remove : IsTaken posed before (remove before at)
  IsTaken-remove =
      let here : get_or before at posed ≡ posed = get_or_from_slice_get before at posed posed there in
      record {
        earlier = take at before;
        later = drop (suc at) before;
        there =
            sym (take-append-drop at before)
            ∙ ap (λ l. take at before ++ l) (drop-cons before at posed within ∙ ap (λ p. p ∷ drop (suc at) before) here);
        left = refl;
      }

  number_at : (k : ℕ) (d : Posed) → k < length (remove before at) → (place : ℕ) × (place ≢ at) × (place < length before) × (get_or (remove before at) k d ≡ get_or before place d)
  number_at k d low =
      let long = length-remove before at within in
      elim (cases_lt k at) [
        | inl early ↦ (k, (λ same. omega (arith, early, same)), omega (arith, early, within), get_or-remove_below before at d k early within)
        | inr past ↦ (k + 1, (λ same. omega (arith, past, same)), omega (arith, low, long), get_or-remove_above before at d k past within)
      ]

  -- no other request has its number
  pub gone-remove : AreRising before → All (λ p. p.number ≢ posed.number) (remove before at)
  gone-remove rising k d low same =
      let found = number_at k d low in
      let mine : (get_or before at d).number ≡ posed.number = ap (λ (p : Posed). p.number) (get_or_from_slice_get before at posed d there) in
      let other : (get_or (remove before at) k d).number ≡ (get_or before found.0 d).number = ap (λ (p : Posed). p.number) found.3 in
      elim (cases_lt found.0 at) [
        | inl early ↦ omega (arith, same, mine, other, rising found.0 at d early within)
        | inr past ↦
            let later : at < found.0 = apart found.0 found.1 past in
            omega (arith, same, mine, other, rising at found.0 d later found.2)
      ]
    where
      apart : (place : ℕ) → place ≢ at → at ≤ place → at < place
      apart place other past = elim (cases_lt at place) [
        | inl less ↦ less
        | inr least ↦ absurd (other (omega (arith, past, least)))
      ]

  pub IsPooled-remove : (submitted : ℕ) → IsPooled submitted before → IsPooled submitted (remove before at)
  IsPooled-remove submitted are = record {
    few = omega (arith, length-remove before at within, are.few);
    below = λ k d low.
        let found = number_at k d low in
        omega (arith, ap (λ (p : Posed). p.number) found.3, are.below found.0 d found.2);
    rising = all_pairs_remove (λ (p q : Posed). p.number < q.number) before at within are.rising;
  }
