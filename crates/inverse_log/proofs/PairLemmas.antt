-- Only the next events of threads are in pairs that a schedule shows.
use Rattle.std.proofs.Common.{◌≡◌, inl, inr, ℕ, Bool, true, false, cond, ◌&&◌, List, [], ◌∷◌, ◌++◌, ◌+◌, ◌<◌, Option, Some, None, length, filter, map, drop, get_or, slice_get, refl, sym, ap, ◌∙◌, append_assoc}
use Rattle.std.proofs.lemmas.Bool.{cases_Bool, and_parts, false≢true}
use Rattle.std.proofs.lemmas.List.{drop_more}
use Rattle.std.proofs.lemmas.List.Elements.{filter-append}
use Rattle.rapid_text.specs.declared.event.Event.{Event}
use Rattle.event_index.specs.Lookups.{before}
use Rattle.event_index.specs.Relations.{is_conflict}
use Rattle.schedule.specs.Refusals.{same_option, next_of, is_forked}
use Rattle.schedule.specs.Shows.{ready_by, is_ready, does_show}
use Rattle.inverse_log.specs.Next.{next_by, is_next}
use Rattle.inverse_log.specs.Pairs.{pairs_of, shown_pairs}

module _ (q : ℕ × ℕ → Bool) (r : ℕ → Bool) (only : (a b : ℕ) → q (a, b) ≡ true → (r a ≡ true) × (r b ≡ true)) where
  fails : (a b : ℕ) → ((r a ≡ true) × (r b ≡ true) → ⊥) → q (a, b) ≡ false
  fails a b not_so = elim (cases_Bool (q (a, b))) [ inl h ↦ absurd (not_so (only a b h)) | inr h ↦ h ]

  row_none : (x : ℕ) (ys : List ℕ) → r x ≡ false → filter q (map (λ y. (x, y)) ys) ≡ []
  row_none x [] h = refl
  row_none x (y ∷ ys) h = rw (fails x y (λ both. false≢true (sym h ∙ both.0))) (row_none x ys h)

  row_kept : (x : ℕ) (ys : List ℕ) → filter q (map (λ y. (x, y)) ys) ≡ filter q (map (λ y. (x, y)) (filter r ys))
  row_kept x [] = refl
  row_kept x (y ∷ ys) = elim (cases_Bool (r y)) [
    | inl h ↦ rw h (ap (λ zs. cond (q (x, y)) ((x, y) ∷ zs) zs) (row_kept x ys))
    | inr h ↦ rw (h, fails x y (λ both. false≢true (sym h ∙ both.1))) (row_kept x ys)
  ]

  -- pairs of members that can't be in one are left out
  pub kept_pairs : (xs : List ℕ) → filter q (pairs_of xs) ≡ filter q (pairs_of (filter r xs))
  kept_pairs [] = refl
  kept_pairs (x ∷ xs) =
      let cut : filter q (pairs_of (x ∷ xs)) ≡ filter q (map (λ y. (x, y)) xs) ++ filter q (pairs_of xs) = filter-append q (map (λ y. (x, y)) xs) (pairs_of xs) in
      elim (cases_Bool (r x)) [
        | inl h ↦ rw h (cut ∙ ap (λ zs. zs ++ filter q (pairs_of xs)) (row_kept x xs) ∙ ap (λ zs. filter q (map (λ y. (x, y)) (filter r xs)) ++ zs) (kept_pairs xs) ∙ sym (filter-append q (map (λ y. (x, y)) (filter r xs)) (pairs_of (filter r xs))))
        | inr h ↦ rw h (cut ∙ ap (λ zs. zs ++ filter q (pairs_of xs)) (row_none x xs h) ∙ kept_pairs xs)
      ]

module _ (T : List Event) (P : List ℕ) where
  ready_next : (e : ℕ) (o : Option Event) → ready_by T P e o ≡ true → next_by T P e o ≡ true
  ready_next e None h = absurd (false≢true h)
  ready_next e (Some v) h = (and_parts (same_option (next_of T P v.thread) (Some e)) (is_forked T P v.thread) h).0

  only_next : (a b : ℕ) → does_show T P a b ≡ true → (is_next T P a ≡ true) × (is_next T P b ≡ true)
  only_next a b h =
      let both = and_parts (is_ready T P a) (is_ready T P b) (and_parts (is_conflict T a b) (is_ready T P a && is_ready T P b) h).1 in
      (ready_next a (slice_get T a) both.0, ready_next b (slice_get T b) both.1)

  pub shown_next : shown_pairs T P ≡ filter (λ p. does_show T P p.0 p.1) (pairs_of (filter (is_next T P) (before (length T))))
  shown_next = kept_pairs (λ p. does_show T P p.0 p.1) (is_next T P) only_next (before (length T))

-- the pairs of one member more
pub pairs_more :
    (q : ℕ × ℕ → Bool) (xs : List ℕ) (at x : ℕ) (old new : List (ℕ × ℕ)) → at < length xs → x ≡ get_or xs at 0
    → new ≡ old ++ filter q (map (λ y. (x, y)) (drop (at + 1) xs)) → new ++ filter q (pairs_of (drop (at + 1) xs)) ≡ old ++ filter q (pairs_of (drop at xs))
pairs_more q xs at x old new lt is next =
    let later : List ℕ = drop (at + 1) xs in
    let row : List (ℕ × ℕ) = filter q (map (λ y. (x, y)) later) in
    let cut : filter q (pairs_of (drop at xs)) ≡ row ++ filter q (pairs_of later) =
    ap (λ ys. filter q (pairs_of ys)) (drop_more xs at 0 lt ∙ ap (λ y. y ∷ later) (sym is)) ∙ filter-append q (map (λ y. (x, y)) later) (pairs_of later) in
    ap (λ zs. zs ++ filter q (pairs_of later)) next ∙ append_assoc old row (filter q (pairs_of later)) ∙ ap (λ zs. old ++ zs) (sym cut)
