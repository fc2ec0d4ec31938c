-- The shapes of a drawing. A text from a trace occurs only as the escaped text of a line.
use Rattle.std.specs.Prelude.{ℕ, List, [], ◌++◌, codes, decimal}
use Rattle.markup.specs.Escaped.{escaped}
use Rattle.explain_report.specs.declared.picture.class.Class.{Class}
use Rattle.explain_report.specs.declared.picture.class.Class.TheVariants.{Name, Note, Event, Access, Run, Race, Edge, Held}

-- the name of a class
abbrev pub class_text : Class → List ℕ
class_text Name = codes "name"
class_text Note = codes "note"
class_text Event = codes "event"
class_text Access = codes "access"
class_text Run = codes "box"
class_text Race = codes "race"
class_text Edge = codes "edge"
class_text Held = codes "held"

-- an attribute whose value is a number
abbrev pub attribute_text : List ℕ → ℕ → List ℕ
attribute_text name n = codes " " ++ name ++ codes "=\"" ++ decimal n ++ codes "\""

-- the beginning of a shape: its element, class and position
abbrev pub shape_begin : List ℕ → Class → ℕ → ℕ → List ℕ
shape_begin element class x y = element ++ codes " class=\"" ++ class_text class ++ codes "\"" ++ attribute_text (codes "x") x ++ attribute_text (codes "y") y

-- a rectangle
abbrev pub rect_text : Class → ℕ → ℕ → ℕ → ℕ → List ℕ
rect_text class left top width height =
    shape_begin (codes "<rect") class left top ++ attribute_text (codes "width") width ++ attribute_text (codes "height") height ++ codes "/>\n"

-- a line of text: the bytes, escaped
abbrev pub line_text : Class → ℕ → ℕ → List ℕ → List ℕ
line_text class left base bytes = shape_begin (codes "<text") class left base ++ codes ">" ++ escaped bytes ++ codes "</text>\n"

-- a point, or a size
abbrev pub point_text : ℕ → ℕ → List ℕ
point_text x y = decimal x ++ codes " " ++ decimal y

-- the points of an arrow after its first
abbrev pub curve_text : ℕ → ℕ → ℕ → ℕ → ℕ → List ℕ
curve_text from_x below to_x to_y above = point_text from_x below ++ codes " " ++ point_text to_x above ++ codes " " ++ point_text to_x to_y

-- an arrow
abbrev pub arrow_text : ℕ → ℕ → ℕ → ℕ → ℕ → ℕ → List ℕ
arrow_text from_x from_y below to_x to_y above =
    codes "<path class=\"arrow\" marker-end=\"url(#tip)\" d=\"M" ++ point_text from_x from_y ++ codes "C" ++ curve_text from_x below to_x to_y above ++ codes "\"/>\n"

-- the text is made of such shapes, one after the other
pub data AreShapes : List ℕ → Type 0 where
  none : AreShapes []
  rect : (class : Class) (left top width height : ℕ) (m : List ℕ) → AreShapes m → AreShapes (m ++ rect_text class left top width height)
  line : (class : Class) (left base : ℕ) (bytes m : List ℕ) → AreShapes m → AreShapes (m ++ line_text class left base bytes)
  arrow : (from_x from_y below to_x to_y above : ℕ) (m : List ℕ) → AreShapes m → AreShapes (m ++ arrow_text from_x from_y below to_x to_y above)
