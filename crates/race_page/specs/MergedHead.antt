-- The beginning of a merged page. All notions here are this project's own.
use Rattle.std.specs.Prelude.{ℕ, nat_eq, cond, List, [], ◌∷◌, ◌++◌, codes, decimal}
use Rattle.std.specs.List.{concat}
use Rattle.race_page.specs.Heads.{hidden_text, known_text, races_words}
use Rattle.race_page.specs.declared.merged_head.LeftOut.{LeftOut}
use Rattle.race_page.specs.declared.style.TheConstants.{BODY, TOP}

-- in how many parts
abbrev pub parts_word : ℕ → List ℕ
parts_word n = cond (nat_eq n 1) (codes " part") (codes " parts")

abbrev pub parts_text : ℕ → List ℕ
parts_text parts = concat (codes " in " ∷ decimal parts ∷ parts_word parts ∷ [])

-- how many races there are in how many parts, and what was left out
abbrev pub title_text : ℕ → ℕ → LeftOut → List ℕ
title_text races parts left = races_words races ++ parts_text parts ++ known_text left.known ++ hidden_text left.hidden

-- the head, which has the policy, and how the page looks
abbrev pub head_text : ℕ → ℕ → LeftOut → List ℕ
head_text races parts left = concat (TOP.now ∷ codes "<title>" ∷ []) ++ title_text races parts left ++ concat (codes "</title>\n" ∷ BODY.now ∷ [])

-- the first line
abbrev pub first_text : ℕ → ℕ → LeftOut → List ℕ
first_text races parts left = codes "<header>\n<h1>" ++ title_text races parts left ++ codes "</h1>\n</header>\n<main>\n"

-- with what the page begins
unfoldable pub merged_begin : ℕ → ℕ → LeftOut → List ℕ
merged_begin races parts left = head_text races parts left ++ first_text races parts left
