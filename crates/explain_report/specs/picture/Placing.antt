-- The contents of a placed box, and how the runs that are drawn are chosen. All notions here are this project's own.
use Rattle.std.specs.Prelude.{◌≡◌, ◌<◌, ◌≤◌, ℕ, Bool, List, Option, length, map, slice_get}
use Rattle.rapid_text.specs.Recording.{Recording}
use Rattle.explain_report.specs.Accesses.{held_locks}
use Rattle.explain_report.specs.Runs.{runs_of}
use Rattle.explain_report.specs.Waiting.{AreWaiters}
use Rattle.explain_report.specs.picture.Boxes.{AreChosen, Box, boxes_after}
use Rattle.explain_report.specs.declared.picture.drawing.Drawing.{Drawing}
use Rattle.explain_report.specs.declared.picture.drawing.Placement.{Placement}
use Rattle.explain_report.specs.declared.picture.layout.Placed.{Placed}

-- the contents of the box, without its position
abbrev pub box_of : Placed → Box
box_of placed = record { number = placed.number; run = placed.run; waiter = placed.waiter }

-- the flags from this index on stay as they are
pub record KeepsFrom (last : ℕ) (old new : List Bool) : Type 0 where
  pub whole : length new ≡ length old
  pub same : (k : ℕ) → last ≤ k → slice_get new k ≡ slice_get old k

-- the runs of the schedule P, which runs are drawn, and their boxes
pub record IsPlacement (r : Recording) (P : List ℕ) (placement : Placement) : Type 0 where
  pub runs : placement.runs.items ≡ runs_of r.events P
  pub waiters : List (Option ℕ)
  pub wait : AreWaiters r.events P waiters
  pub chosen : AreChosen (length (runs_of r.events P)) placement.shown.items
  pub placed : map box_of placement.placed.items ≡ boxes_after waiters placement.shown.items 0 (runs_of r.events P)

-- the parts of a drawing of the schedule P, which shows the pair
pub record IsDrawing (r : Recording) (P : List ℕ) (a b : ℕ) (drawing : Drawing) : Type 0 where
  pub placement : IsPlacement r P drawing.placement
  pub first : a < length r.events → drawing.first_locks.items ≡ held_locks r a
  pub second : b < length r.events → drawing.second_locks.items ≡ held_locks r b
