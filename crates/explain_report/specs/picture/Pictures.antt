-- What a picture is, and the content of its words. All notions here are this project's own.
use Rattle.std.specs.Prelude.{◌≡◌, ℕ, List, [], ◌++◌, cond, length, nat_le, flat_map, codes, decimal}
use Rattle.rapid_text.specs.Recording.{Recording}
use Rattle.explain_report.specs.picture.Boxes.{AreOf}
use Rattle.explain_report.specs.picture.Shapes.{AreShapes, attribute_text, point_text}
use Rattle.explain_report.specs.declared.picture.style.TheConstants.{STYLE}

-- the beginning of a picture: the width and height in which it is drawn, and in which it is shown
abbrev pub root_text : ℕ → ℕ → ℕ → ℕ → List ℕ
root_text width height shown_width shown_height =
    codes "<svg xmlns=\"http://www.w3.org/2000/svg\" viewBox=\"0 0 " ++ point_text width height ++ codes "\"" ++ attribute_text (codes "width") shown_width
    ++ attribute_text (codes "height") shown_height ++ codes ">\n"

-- the number of event e after a blank
abbrev pub spaced_event : ℕ → List ℕ
spaced_event e = codes " " ++ decimal e

-- each number after a blank
abbrev pub spaced_events : List ℕ → List ℕ
spaced_events es = flat_map spaced_event es

-- the picture's title, which names the pair
abbrev pub title : ℕ → ℕ → List ℕ
title a b = codes "<title>A schedule that shows " ++ decimal a ++ codes " and " ++ decimal b ++ codes "</title>\n"

-- a description that lists the events P, in their order
abbrev pub all_listed : List ℕ → List ℕ
all_listed P = codes "<desc>Its events:" ++ spaced_events P ++ codes "</desc>\n"

-- a description that only counts n events, and names the command that prints them
abbrev pub only_counted : ℕ → List ℕ
only_counted n = codes "<desc>Its " ++ decimal n ++ codes " events are those that racebench witness prints</desc>\n"

-- the picture's description: all events P of the schedule if there are at most 2,000, else how many there are
abbrev pub listed : List ℕ → List ℕ
listed P = cond (nat_le (length P) 2000) (all_listed P) (only_counted (length P))

-- the title and the description
abbrev pub described : List ℕ → ℕ → ℕ → List ℕ
described P a b = title a b ++ listed P

-- the text after the description and the style: the paper, the shapes on it, and the end
abbrev pub drawn_text : List ℕ → List ℕ
drawn_text shapes = codes "<rect class=\"paper\" width=\"100%\" height=\"100%\"/>\n" ++ shapes ++ codes "</svg>\n"

-- The text is a picture of the schedule P, which shows the pair: it has this title, this description, this style, and
-- the shapes of that schedule. The positions of the shapes are presentation.
pub record IsStyled (r : Recording) (style P : List ℕ) (a b : ℕ) (text : List ℕ) : Type 0 where
  pub width : ℕ
  pub height : ℕ
  pub shown_width : ℕ
  pub shown_height : ℕ
  pub shapes : List ℕ
  pub printed : text ≡ root_text width height shown_width shown_height ++ described P a b ++ style ++ drawn_text shapes
  pub drawn : AreShapes shapes
  pub told : AreOf r P a b shapes

-- a picture that is a separate file, with the style of pictures
abbrev pub IsPicture : Recording → List ℕ → ℕ → ℕ → List ℕ → Type 0
IsPicture r P a b text = IsStyled r STYLE.now P a b text

-- the same without a style, for a page that has the style itself
abbrev pub IsFigure : Recording → List ℕ → ℕ → ℕ → List ℕ → Type 0
IsFigure r P a b text = IsStyled r [] P a b text
