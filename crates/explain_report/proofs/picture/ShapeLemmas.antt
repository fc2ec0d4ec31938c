-- Each shape that is drawn keeps what a drawing is. It is made alone, and then appended.
use Rattle.std.proofs.Common.{◌≡◌, ℕ, List, [], ◌++◌, ap, ◌∙◌}
use Rattle.explain_report.specs.picture.Shapes.{AreShapes, arrow_text, line_text, rect_text}
use Rattle.explain_report.specs.declared.picture.class.Class.{Class}

pub no_shapes : (text : List ℕ) → text ≡ [] → AreShapes text
no_shapes text e = rw e AreShapes.none

module _ (old new empty shape bytes : List ℕ) (are : AreShapes old) (e : new ≡ old ++ bytes) (none : empty ≡ []) (copied : bytes ≡ shape) where
  -- what is appended to nothing stands alone
  alone : (words : List ℕ) → shape ≡ empty ++ words → bytes ≡ words
  alone words f = copied ∙ (f ∙ ap (λ (xs : List ℕ). xs ++ words) none)

  pub with_rect : (class : Class) (left top width height : ℕ) → shape ≡ empty ++ rect_text class left top width height → AreShapes new
  with_rect class left top width height f = rw e (rw (alone (rect_text class left top width height) f) (AreShapes.rect class left top width height old are))

  pub with_line : (class : Class) (left base : ℕ) (text : List ℕ) → shape ≡ empty ++ line_text class left base text → AreShapes new
  with_line class left base text f = rw e (rw (alone (line_text class left base text) f) (AreShapes.line class left base text old are))

  pub with_arrow : (from_x from_y below to_x to_y above : ℕ) → shape ≡ empty ++ arrow_text from_x from_y below to_x to_y above → AreShapes new
  with_arrow from_x from_y below to_x to_y above f =
      rw e (rw (alone (arrow_text from_x from_y below to_x to_y above) f) (AreShapes.arrow from_x from_y below to_x to_y above old are))
