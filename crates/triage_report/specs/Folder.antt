-- The folder of the code, and the paths of files in it. All notions here are this project's own.
use Rattle.std.specs.Prelude.{ℕ, ◌==◌, cond, List, [], ◌∷◌, length, slice_get, codes, Option, Some, None, Vec}
use Rattle.std.specs.BTreeMap.{get_by}
use Rattle.std.specs.Cmp.Lexicographic.{slice_cmp}
use Rattle.std.specs.List.{after_last, before_last, concat}
use Rattle.std.specs.Ordering.{nat_cmp}
use Rattle.std.specs.declared.alloc.Global.{Global}
use Rattle.explain_report.specs.places.Places.{is_colon, is_line}
use Rattle.triage_report.specs.declared.folder.Folder.{Folder}

abbrev pub first_by : Option (Vec ℕ Global) → List ℕ → List ℕ
first_by None name = name
first_by (Some path) name = path.items

-- the first path, or the name if there are no paths
abbrev pub first_path : List (Vec ℕ Global) → List ℕ → List ℕ
first_path paths name = first_by (slice_get paths 0) name

-- the path, if there is exactly one; else the name
abbrev pub only_path : List (Vec ℕ Global) → List ℕ → List ℕ
only_path paths name = cond (length paths == 1) (first_path paths name) name

abbrev pub path_by : Option (Vec (Vec ℕ Global) Global) → List ℕ → List ℕ
path_by None name = name
path_by (Some paths) name = only_path paths.items name

-- the path from the folder if exactly one file in it fits the name; else the name itself
unfoldable pub path_in : Folder → List ℕ → List ℕ
path_in folder name = path_by (get_by (λ k. slice_cmp nat_cmp name k.items) folder.files) name

-- a place `FILE:LINE`, with the path of its file
abbrev pub file_place : Folder → List ℕ → List ℕ
file_place folder place = concat (path_in folder (before_last is_colon place) ∷ codes ":" ∷ after_last is_colon place ∷ [])

-- the same, and any other place as it is
abbrev pub place_in : Folder → List ℕ → List ℕ
place_in folder place = cond (is_line place) (file_place folder place) place
