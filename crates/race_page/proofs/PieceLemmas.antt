-- Each thing that is written keeps what a piece is, and what a page is.
use Rattle.std.proofs.Common.{◌≡◌, ◌↔◌, IsTrue, Bool, false, sym, ℕ, List, [], ◌∷◌, ◌++◌, decimal, length, append_assoc, ap, subst, ◌∙◌}
use Rattle.std.proofs.lemmas.Bool.{false≢true}
use Rattle.markup.specs.Escaped.{escaped}
use Rattle.rapid_text.specs.Recording.{Recording}
use Rattle.schedule.specs.Reordering.{IsCorrectReordering}
use Rattle.schedule.specs.Shows.{Shows}
use Rattle.explain_report.specs.picture.Pictures.{IsFigure}
use Rattle.race_page.specs.Own.{begin_text, end_text, part_text, row_text}
use Rattle.race_page.specs.Pages.{IsDrawn, AreParts, IsPiece, Made, MayBePlain}
use Rattle.race_page.specs.Told.{IsTold}
use Rattle.race_page.specs.declared.own.Part.{Part}
use Rattle.race_page.specs.declared.own.Tag.{Tag}
use Rattle.race_page.specs.declared.shown.Shown.{Shown}

pub no_piece : (text : List ℕ) → text ≡ [] → IsPiece text
no_piece text e = rw e IsPiece.empty

pub no_parts : (r : Recording) (text : List ℕ) (rows : List Shown) → text ≡ [] → rows ≡ [] → AreParts r text rows
no_parts r text rows e f = rw e (rw f AreParts.none)

-- two texts that are appended one after the other are appended as one
pub both_as_one : (old new first second : List ℕ) → new ≡ old ++ first ++ second → new ≡ old ++ (first ++ second)
both_as_one old new first second e = e ∙ append_assoc old first second

-- what is appended behind a text that was appended is appended with it
pub one_more : (old between new first second : List ℕ) → between ≡ old ++ first → new ≡ between ++ second → new ≡ old ++ (first ++ second)
one_more old between new first second e f = f ∙ (ap (λ (xs : List ℕ). xs ++ second) e ∙ append_assoc old first second)

pub five_more :
    (old p q s t new begin line between raced end : List ℕ) → p ≡ old ++ begin → q ≡ p ++ line → s ≡ q ++ between → t ≡ s ++ raced → new ≡ t ++ end
    → new ≡ old ++ (begin ++ line ++ between ++ raced ++ end)
five_more old p q s t new begin line between raced end a b c d e =
    one_more old t new (begin ++ line ++ between ++ raced) end
    (one_more old s t (begin ++ line ++ between) raced (one_more old q s (begin ++ line) between (one_more old p q begin line a b) c) d) e

-- what is appended to nothing stands alone
pub alone : (empty text words bytes : List ℕ) → empty ≡ [] → text ≡ empty ++ words → bytes ≡ text → bytes ≡ words
alone empty text words bytes e f g = g ∙ (f ∙ ap (λ (xs : List ℕ). xs ++ words) e)

module _ (old new piece : List ℕ) (is : IsPiece old) (e : new ≡ old ++ piece) where
  pub with_begin : (tag : Tag) → piece ≡ begin_text tag → IsPiece new
  with_begin tag f = rw e (rw f (IsPiece.begin tag old is))

  pub with_end : (tag : Tag) → piece ≡ end_text tag → IsPiece new
  with_end tag f = rw e (rw f (IsPiece.finish tag old is))

  pub with_part : (part : Part) → piece ≡ part_text part → IsPiece new
  with_part part f = rw e (rw f (IsPiece.part part old is))

  pub with_number : (n : ℕ) → piece ≡ decimal n → IsPiece new
  with_number n f = rw e (rw f (IsPiece.number n old is))

  pub with_text : (bytes : List ℕ) → piece ≡ escaped bytes → IsPiece new
  with_text bytes f = rw e (rw f (IsPiece.text bytes old is))

  pub with_piece_after : (other : List ℕ) → IsPiece other → piece ≡ other → IsPiece new
  with_piece_after other whole f = rw e (rw f (IsPiece.piece other old whole is))

module _ (r : Recording) (old new added : List ℕ) (rows : List Shown) (is : AreParts r old rows) (e : new ≡ old ++ added) where
  pub with_piece : (piece : List ℕ) → IsPiece piece → added ≡ piece → AreParts r new rows
  with_piece piece whole f = rw e (rw f (AreParts.piece piece old rows whole is))

-- a row with what was found, and the rest
module _ (r : Recording) (old body told : List ℕ) (rows : List Shown) (shown : Shown) (is : AreParts r old rows) (whole : IsPiece told) (tells : IsTold r shown.verdict told) where
  pub with_row :
      (rest : List ℕ) → MayBePlain r shown (length rows) → IsPiece rest → body ≡ told ++ rest → AreParts r (old ++ row_text shown body) (rows ++ shown ∷ [])
  with_row rest plain end f = rw f (AreParts.row shown told rest old rows whole tells plain end is)

  pub with_drawn :
      (before figure after : List ℕ) → IsPiece before → IsDrawn r shown.first shown.second figure → IsPiece after → body ≡ told ++ before ++ figure ++ after
      → AreParts r (old ++ row_text shown body) (rows ++ shown ∷ [])
  with_drawn before figure after first drawn last f = rw f (AreParts.drawn shown told before figure after old rows whole tells first drawn last is)

-- a row that is made is added
pub with_made :
    (p q : Made) (new row : List ℕ) (kept last : List Shown) (shown : Shown) → p ≡ q → AreParts q.trace (q.text ++ row) (q.rows ++ shown ∷ []) → new ≡ p.text ++ row
    → kept ≡ p.rows → last ≡ kept ++ shown ∷ [] → AreParts p.trace new last
with_made p q new row kept last shown same is e f g =
    rw e (rw g (rw f (subst (λ (m : Made). AreParts m.trace (m.text ++ row) (m.rows ++ shown ∷ [])) (sym same) is)))

-- a picture of a schedule that shows the pair
pub drawn_of :
    (r t : Recording) (events : List ℕ) (a b : ℕ) (none made text shown : List ℕ) → none ≡ [] → made ≡ none ++ text → shown ≡ made → IsFigure t events a b text
    → t ≡ r → IsCorrectReordering r.events events → Shows r.events events a b → IsDrawn r a b shown
drawn_of r t events a b none made text shown e f g figure same reordering shows = record {
  events = events;
  reordering = reordering;
  shows = shows;
  figure = subst (λ (s : Recording). IsFigure s events a b shown) same (rw (g ∙ (f ∙ ap (λ (xs : List ℕ). xs ++ text) e)) figure);
}

-- a test that fails refutes what it decides
pub refuted : (P : Type 0) (b : Bool) → IsTrue b ↔ P → b ≡ false → ¬ P
refuted P b tells not_so p = false≢true (sym not_so ∙ tells.1 p)
