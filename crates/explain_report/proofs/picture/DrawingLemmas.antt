-- A drawing's parts, drawn in turn, are the picture of its schedule.
use Rattle.std.proofs.Common.{◌≡◌, ℕ, List, [], Some, length, map, slice_get, subst, ap, ◌∙◌}
use Rattle.std.proofs.lemmas.Option.{get_or_from_slice_get}
use Rattle.rapid_text.specs.Recording.{Recording}
use Rattle.rapid_text.specs.declared.event.Event.{Event}
use Rattle.explain_report.specs.Runs.{runs_of}
use Rattle.explain_report.specs.picture.Boxes.{AreOf, ArePair, AreRunBoxes, Box, Drawn, HasNames, IsArrow, IsWhole, Many, Then, boxes_after, label_by, label_words, top_text, words_of}
use Rattle.explain_report.specs.picture.Placing.{IsDrawing, box_of}
use Rattle.explain_report.specs.declared.picture.class.Class.TheVariants.{Name}
use Rattle.explain_report.specs.declared.picture.drawing.Drawing.{Drawing}

module _ (r : Recording) (P : List ℕ) (a b : ℕ) where
  -- the parts, of so many runs, and with these boxes
  abbrev pub Parts : ℕ → List Box → List ℕ → Type 0
  Parts runs boxes =
      Then (IsWhole Name (top_text runs (length P) a b)) (Then (HasNames r) (Then (Many IsArrow) (Then (AreRunBoxes r P boxes) (ArePair r a b))))

  pub drawn_whole :
      (d : Drawing) (old new : List ℕ) → IsDrawing r P a b d → Drawn (Parts (length d.placement.runs.items) (map box_of d.placement.placed.items)) old new
      → Drawn (AreOf r P a b) old new
  drawn_whole d old new is (text, e, parts) = (
    text,
    e,
    record {
      waiters = is.placement.waiters;
      wait = is.placement.wait;
      drawn = d.placement.shown.items;
      chosen = is.placement.chosen;
      parts =
          subst (λ (n : ℕ). Parts n (boxes_after is.placement.waiters d.placement.shown.items 0 (runs_of r.events P)) text)
          (ap length is.placement.runs)
          (subst (λ (boxes : List Box). Parts (length d.placement.runs.items) boxes text) is.placement.placed parts);
    },
  )

-- the words of an event that is there
pub label-found :
    (r : Recording) (e : ℕ) (v : Event) (location : List ℕ) → slice_get r.events e ≡ Some v → slice_get r.locations e ≡ Some location
    → label_words r e ≡ words_of r e v.op location
label-found r e v location found at =
    ap (label_by r e) found ∙ ap (words_of r e v.op) (get_or_from_slice_get r.locations e location [] at)
