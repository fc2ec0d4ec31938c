-- The file and the line of a place, its URI, and what its line says. All notions here are this project's own.
use Rattle.std.specs.Prelude.{ℕ, ◌+◌, ◌-◌, ◌*◌, ◌/◌, ◌%◌, ◌==◌, ◌&&◌, ◌||◌, min, nat_eq, nat_le, nat_lt, Bool, cond, List, [], ◌∷◌, ◌++◌, drop, length, flat_map, position, slice_get, codes, bytes_eq, Option, Some, None}
use Rattle.std.specs.List.{after_last, before_last, fold, starts_with}
use Rattle.explain_report.specs.places.Places.{is_colon, is_line}
use Rattle.triage_report.specs.declared.sarif.places.TheConstants.{MOST_LINE}
use Rattle.triage_report.specs.declared.sarif.sources.SourceLine.{SourceLine}

-- the file of a place `FILE:LINE`, and any other place as it is
abbrev pub file_of : List ℕ → List ℕ
file_of place = cond (is_line place) (before_last is_colon place) place

-- The number that digits are. One above MOST_LINE may be any number above that.
abbrev pub line_number : List ℕ → ℕ
line_number digits = fold (λ number digit. min number MOST_LINE * 10 + (digit - 48)) 0 digits

-- the line of a place `FILE:LINE`, and 0 of any other
abbrev pub line_of : List ℕ → ℕ
line_of place = cond (is_line place) (line_number (after_last is_colon place)) 0

-- the path begins with a slash
abbrev pub is_absolute : List ℕ → Bool
is_absolute path = starts_with nat_eq path (codes "/")

-- a letter, a digit, or one of `-./_~`
abbrev pub is_plain : ℕ → Bool
is_plain b = (nat_le 45 b && nat_le b 57) || ((nat_le 65 b && nat_le b 90) || (b == 95 || ((nat_le 97 b && nat_le b 122) || b == 126)))

abbrev pub hex_digit : ℕ → ℕ
hex_digit n = cond (nat_lt n 10) (48 + n) (65 + (n - 10))

-- a byte in a URI: as it is, or `%` and two digits
abbrev pub encoded_byte : ℕ → List ℕ
encoded_byte b = cond (is_plain b) (b ∷ []) (37 ∷ hex_digit (b / 16) ∷ hex_digit (b % 16) ∷ [])

abbrev pub encoded : List ℕ → List ℕ
encoded path = flat_map encoded_byte path

-- the URI of a path
abbrev pub uri_of : List ℕ → List ℕ
uri_of path = cond (is_absolute path) (codes "file://" ++ encoded path) (encoded path)

abbrev pub text_by : Option SourceLine → List ℕ
text_by None = []
text_by (Some line) = line.text.items

-- the text of the line with this index; nothing if there is no such line
abbrev pub text_at : List SourceLine → ℕ → List ℕ
text_at lines at = text_by (slice_get lines at)

abbrev pub text_if : List SourceLine → Option ℕ → List ℕ
text_if lines None = []
text_if lines (Some at) = text_at lines at

-- the line is at this place
abbrev pub is_at : List ℕ → SourceLine → Bool
is_at place line = bytes_eq line.place.items place

-- the number of the first line at this place
abbrev pub line_at : List SourceLine → List ℕ → Option ℕ
line_at lines place = position (is_at place) lines

-- the text of the first line at this place; nothing if no line is at this place
abbrev pub line_text : List SourceLine → List ℕ → List ℕ
line_text lines place = text_if lines (line_at lines place)
