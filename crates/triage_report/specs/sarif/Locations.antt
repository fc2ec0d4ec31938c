-- Locations as objects: a file and a line, a function, and a message. `root` is the folder of the code. All notions here are this project's own.
use Rattle.std.specs.Prelude.{ℕ, ◌==◌, ◌||◌, nat_lt, Bool, cond, List, [], ◌∷◌, length, codes}
use Rattle.serde_json.specs.Data.{Data, array, item, member, no_items, no_members, object, put, string, Members}
use Rattle.triage_report.specs.json.Objects.{text, whole}
use Rattle.explain_report.specs.places.Places.{is_line}
use Rattle.triage_report.specs.Folder.{path_in}
use Rattle.triage_report.specs.sarif.Places.{file_of, is_absolute, line_of, uri_of}
use Rattle.triage_report.specs.declared.sarif.locations.Spot.{Spot}
use Rattle.triage_report.specs.declared.sarif.places.TheConstants.{MOST_LINE}
use Rattle.triage_report.specs.declared.folder.Folder.{Folder}

-- a list of one value
abbrev pub single : Data → Data
single d = array (item d no_items)

-- a message
abbrev pub message : List ℕ → Data
message words = object (member (codes "text") (text words) no_members)

-- a function
abbrev pub logical : List ℕ → Data
logical function =
    object
    (member (codes "fullyQualifiedName") (text function)
    (member (codes "kind") (string (codes "function"))
    no_members))

-- the members, with those of a function that is known
abbrev pub function_members : List ℕ → Members → Members
function_members function ms = cond (length function == 0) ms (put (codes "logicalLocations") (single (logical function)) ms)

-- a line
abbrev pub region : ℕ → Data
region line = object (member (codes "startLine") (whole line) no_members)

abbrev pub region_members : ℕ → Members → Members
region_members line ms = cond (line == 0 || nat_lt MOST_LINE line) ms (put (codes "region") (region line) ms)

-- the name of the folder beside a path within it
abbrev pub base_members : Folder → List ℕ → Members → Members
base_members root path ms = cond (length root.path.items == 0 || is_absolute path) ms (put (codes "uriBaseId") (string (codes "SRCROOT")) ms)

-- a file
abbrev pub artifact : Folder → List ℕ → Data
artifact root path = object (base_members root path (member (codes "uri") (text (uri_of path)) no_members))

-- a file and a line
abbrev pub physical : Folder → List ℕ → Data
physical root place = object (region_members (line_of place) (member (codes "artifactLocation") (artifact root (path_in root (file_of place))) no_members))

-- the members, with those of a place that has a file
abbrev pub physical_members : Folder → List ℕ → Members → Members
physical_members root place ms = cond (is_line place) (put (codes "physicalLocation") (physical root place) ms) ms

-- a location: a place, a function, and a message about it
abbrev pub location : Folder → List ℕ → List ℕ → List ℕ → Data
location root place function words = object (physical_members root place (function_members function (member (codes "message") (message words) no_members)))

-- the same for a spot
abbrev pub spot_location : Folder → Spot → Data
spot_location root s = location root s.place.now s.function.now s.words.now
