-- What distinguishes a pair from another, even if its lines have moved: for each access its file, its function, its variable and what its line
-- says. All notions here are this project's own.
use Rattle.std.specs.Prelude.{ℕ, List, [], ◌∷◌, codes}
use Rattle.std.specs.List.{concat}
use Rattle.std.specs.Ordering.{nat_cmp, match_ordering}
use Rattle.std.specs.Cmp.Lexicographic.{slice_cmp}
use Rattle.serde_json.specs.Data.{Data, member, no_members, object}
use Rattle.triage_report.specs.json.Objects.{text}
use Rattle.explain_report.specs.places.Places.{before_arrow}
use Rattle.variable_names.specs.Names.{parts_of}
use Rattle.triage_report.specs.Folder.{path_in}
use Rattle.triage_report.specs.sarif.Accesses.{Told, access_told}
use Rattle.triage_report.specs.sarif.Places.{file_of, line_text}
use Rattle.triage_report.specs.sarif.Stacks.{own_function}
use Rattle.triage_report.specs.declared.sarif.accesses.Access.{Access}
use Rattle.triage_report.specs.declared.sarif.sources.Sources.{Sources}

-- the file, the function, the variable without its number (the texts before and after it), and the line of an access
abbrev pub side : Sources → Told → List ℕ
side s t =
    concat (path_in s.root.now (file_of (before_arrow t.location)) ∷ codes "\n" ∷ own_function t.location ∷ codes "\n" ∷ (parts_of t.variable).0 ∷ (parts_of t.variable).1
    ∷ codes "\n" ∷ line_text s.lines.now (before_arrow t.location) ∷ [])

abbrev pub both : List ℕ → List ℕ → List ℕ
both x y = concat (x ∷ codes "\n" ∷ y ∷ [])

-- two sides, the lesser first
abbrev pub ordered : List ℕ → List ℕ → List ℕ
ordered x y = match_ordering (slice_cmp nat_cmp x y) (both x y) (both x y) (both y x)

-- the fingerprint of a pair: the same in either order
abbrev pub print_object : Sources → Told → Told → Data
print_object s t u = object (member (codes "racePair/v1") (text (ordered (side s t) (side s u))) no_members)

-- the same for accesses as they are given
abbrev pub side_told : Sources → Access → List ℕ
side_told s a = side s (access_told a)

abbrev pub print_told : Sources → Access → Access → Data
print_told s a b = print_object s (access_told a) (access_told b)
