-- The boxes of the runs that are left: with the next one, and at the end. And which runs are chosen.
use Rattle.std.proofs.Common.{◌≡◌, ◌≤◌, ℕ, ◌+◌, Bool, true, false, true≢false, List, [], ◌∷◌, ◌++◌, drop, length, map, slice_index_or, Option, append_assoc, append-nil, refl, sym, ap, ◌∙◌}
use Rattle.std.proofs.lemmas.List.{drop_all, map-append}
use Rattle.explain_report.specs.picture.Boxes.{Box, box_if, boxes_after, told_of}
use Rattle.explain_report.specs.picture.Placing.{box_of}
use Rattle.explain_report.specs.declared.picture.layout.Placed.{Placed}
use Rattle.explain_report.specs.declared.runs.Run.{Run}

-- one box is appended
pub with_box : (old new : List Placed) (p : Placed) (is : Bool) → is ≡ true → new ≡ old ++ p ∷ [] → map box_of new ≡ map box_of old ++ box_if is (box_of p)
with_box old new p true shown e = ap (map box_of) e ∙ map-append box_of old (p ∷ [])
with_box old new p false shown e = absurd (true≢false (sym shown))

-- or none
pub without_box : (old : List Placed) (p : Placed) (is : Bool) → is ≡ false → map box_of old ≡ map box_of old ++ box_if is (box_of p)
without_box old p false hidden = sym (append-nil (map box_of old))
without_box old p true hidden = absurd (true≢false hidden)

module _ (ws : List (Option ℕ)) (drawn : List Bool) where
  boxes-first :
      (n : ℕ) (run : Run) (runs : List Run)
      → box_if (slice_index_or drawn n false) (told_of (n + 1) run ws) ++ boxes_after ws drawn (n + 1) runs ≡ boxes_after ws drawn n (run ∷ runs)
  unfolding boxes_after
  boxes-first n run runs = refl

  boxes-none : (n : ℕ) → boxes_after ws drawn n [] ≡ []
  unfolding boxes_after
  boxes-none n = refl

  -- with the box of the next run, those of the runs that are left complete the same boxes
  pub boxes-more :
      (runs : List Run) (k : ℕ) (run : Run) (is : Bool) (box : Box) (now new all : List Box) → drop k runs ≡ run ∷ drop (k + 1) runs
      → is ≡ slice_index_or drawn k false → box ≡ told_of (k + 1) run ws → new ≡ now ++ box_if is box → now ++ boxes_after ws drawn k (drop k runs) ≡ all
      → new ++ boxes_after ws drawn (k + 1) (drop (k + 1) runs) ≡ all
  boxes-more runs k run is box now new all cut same told last before =
      let rest : List Box = boxes_after ws drawn (k + 1) (drop (k + 1) runs) in
      let here : List Box = box_if (slice_index_or drawn k false) (told_of (k + 1) run ws) in
      ap (λ (t : List Box). t ++ rest) (last ∙ ap (λ (b : Bool). now ++ box_if b box) same ∙ ap (λ (b : Box). now ++ box_if (slice_index_or drawn k false) b) told)
      ∙ append_assoc now here rest ∙ ap (λ (t : List Box). now ++ t) (boxes-first k run (drop (k + 1) runs) ∙ ap (boxes_after ws drawn k) (sym cut)) ∙ before

  pub boxes-end : (runs : List Run) (k : ℕ) (now all : List Box) → length runs ≤ k → now ++ boxes_after ws drawn k (drop k runs) ≡ all → now ≡ all
  boxes-end runs k now all past before =
      sym (append-nil now) ∙ ap (λ (t : List Box). now ++ t) (sym (ap (boxes_after ws drawn k) (drop_all k runs past) ∙ boxes-none k)) ∙ before

-- the boxes of these runs are those of equal runs and flags
pub with_runs :
    (ws : List (Option ℕ)) (placed : List Placed) (runs others : List Run) (drawn flags : List Bool) → runs ≡ others → drawn ≡ flags
    → map box_of placed ≡ boxes_after ws drawn 0 runs → map box_of placed ≡ boxes_after ws flags 0 others
with_runs ws placed runs others drawn flags same equal are =
    are ∙ ap (λ (ds : List Bool). boxes_after ws ds 0 runs) equal ∙ ap (boxes_after ws flags 0) same
