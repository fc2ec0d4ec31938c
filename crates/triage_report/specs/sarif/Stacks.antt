-- The calls that led to an access, as a stack. `r` is the trace's recording, `root` the folder of the code. All notions here are this project's
-- own.
use Rattle.std.specs.Prelude.{ℕ, ◌==◌, cond, List, [], ◌∷◌, ◌++◌, length, map, codes, Option, Some, None}
use Rattle.rapid_text.specs.Recording.{Recording}
use Rattle.serde_json.specs.Data.{Data, Members, array, member, no_members, object, put}
use Rattle.serde_json.specs.View.{items_of}
use Rattle.explain_report.specs.places.Places.{before_arrow, behind_arrow, call_function, call_place, calls_in}
use Rattle.explain_report.specs.declared.places.arrows.TheConstants.{MAX_CALLS}
use Rattle.triage_report.specs.sarif.Accesses.{Told, told_at}
use Rattle.triage_report.specs.sarif.Locations.{location, message}
use Rattle.triage_report.specs.sarif.Words.{access_words}
use Rattle.triage_report.specs.declared.folder.Folder.{Folder}

-- the function of the first call, if it has no place
abbrev pub function_in : List ℕ → List ℕ
function_in text = cond (length (call_place (before_arrow text)) == 0) (call_function (before_arrow text)) []

abbrev pub own_by : Option (List ℕ) → List ℕ
own_by None = []
own_by (Some text) = function_in text

-- the function in which a location is; nothing if it does not say that
abbrev pub own_function : List ℕ → List ℕ
own_function location = own_by (behind_arrow location)

-- all calls but the first, if that has no place
abbrev pub callers_in : List ℕ → Option (List ℕ)
callers_in text = cond (length (call_place (before_arrow text)) == 0) (behind_arrow text) (Some text)

abbrev pub callers_by : Option (List ℕ) → Option (List ℕ)
callers_by None = None
callers_by (Some text) = callers_in text

-- the calls of a location that led to its function
abbrev pub callers : List ℕ → Option (List ℕ)
callers location = callers_by (behind_arrow location)

-- the location of an access, and that of access e
abbrev pub told_location : Folder → Told → Data
told_location root t = location root (before_arrow t.location) (own_function t.location) (access_words t)

abbrev pub access_location : Recording → Folder → ℕ → Data
access_location r root e = told_location root (told_at r e)

-- the frame of a location
abbrev pub frame : Data → Data
frame d = object (member (codes "location") d no_members)

-- the frame of an access itself
abbrev pub own_frame : Folder → Told → Data
own_frame root t = frame (told_location root t)

-- the message about a call of this function
abbrev pub caller_words : List ℕ → List ℕ
caller_words function = cond (length function == 0) (codes "a call") function

-- the frame of a call
abbrev pub call_frame : Folder → List ℕ → Data
call_frame root call = frame (location root (call_place call) (call_function call) (caller_words (call_function call)))

-- the frames of an access, the innermost first
abbrev pub frames : Folder → Told → Data
frames root t = array (items_of (own_frame root t ∷ map (call_frame root) (calls_in MAX_CALLS (callers t.location))))

-- the message about an access
abbrev pub said_members : Told → Members → Members
said_members t ms = put (codes "message") (message (access_words t)) ms

-- the stack of an access
abbrev pub stack : Folder → Told → Data
stack root t = object (said_members t (member (codes "frames") (frames root t) no_members))

-- the stacks of two accesses
abbrev pub stacks : Folder → Told → Told → Data
stacks root t u = array (items_of (stack root t ∷ stack root u ∷ []))
