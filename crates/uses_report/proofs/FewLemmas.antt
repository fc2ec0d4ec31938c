-- A trace has no more locations than events.
use Rattle.std.proofs.Common.{◌≡◌, ℕ, ◌+◌, ◌<◌, ◌≤◌, List, [], ◌∷◌, ◌++◌, All, Bool, true, false, cond, take, length, get_or, Some, Vec, ap, arith}
use Rattle.std.specs.List.{fold, list_any, slice_get}
use Rattle.std.specs.Prelude.{nat_eq, slice_index}
use Rattle.std.specs.Cmp.Lexicographic.{pointwise}
use Rattle.std.specs.declared.alloc.Global.{Global}
use Rattle.std.proofs.lemmas.List.{length-append, length-map, length-take}
use Rattle.std.proofs.lemmas.List.Elements.{All-from_get_or}
use Rattle.std.proofs.lemmas.Option.{slice_get-get_or}
use Rattle.rapid_text.specs.Recording.{Recording, IsWellFormed}
use Rattle.race_triage.specs.Places.{AreFirstUsesOf, AreSpotsOf, first_uses, texts_of, with_text}
use Rattle.race_triage.specs.declared.places.Places.{Places}

one_text_more : (texts : List (List ℕ)) (name : List ℕ) (b : Bool) → length (cond b texts (texts ++ name ∷ [])) ≤ length texts + 1
one_text_more texts name true = omega arith
one_text_more texts name false = omega (arith, length-append texts (name ∷ []))

fold_few : (names texts : List (List ℕ)) → length (fold with_text texts names) ≤ length texts + length names
fold_few [] texts = omega arith
fold_few (name ∷ names) texts =
    let one = one_text_more texts name (list_any (pointwise nat_eq name) texts) in
    omega (arith, one, fold_few names (with_text texts name))

there : (names : List (List ℕ)) (e : ℕ) → e < length names → (name : List ℕ) × (slice_get names e ≡ Some name)
there [] e lt = absurd (omega (arith, lt))
there (x ∷ xs) e lt = (get_or (x ∷ xs) e x, slice_get-get_or (x ∷ xs) e x lt)

module _ (r : Recording) (p : Places) (well : IsWellFormed r) (spots : AreSpotsOf r p) (firsts : AreFirstUsesOf r p) where
  few_keys : length p.locations.keys ≤ length r.events
  few_keys =
      let texts : length (texts_of p.locations.keys) ≡ length (first_uses (take (length r.events) r.locations)) = ap length firsts in
      let same = length-map p.locations.keys (λ (v : Vec ℕ Global). v.items) in
      let few = fold_few (take (length r.events) r.locations) [] in
      omega (arith, texts, same, few, length-take (length r.events) r.locations, well.locations)

  few_at : (e : ℕ) → e < length p.numbers.items → slice_index p.numbers.items e < 1048576
  few_at e lt =
      let (name, at) = there r.locations e (omega (arith, lt, spots.len, well.locations)) in
      let spot = spots.spots e name (omega (arith, lt, spots.len)) at in
      omega (arith, spot.1, few_keys, well.events)

  pub few_places : All (λ n. n < 1048576) p.numbers.items
  few_places = All-from_get_or (λ n. n < 1048576) p.numbers.items 0 few_at
