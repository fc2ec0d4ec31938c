-- How a page begins. Its first line says how many races were chosen, the file's name, and what was left out. All notions here are this project's own.
use Rattle.std.specs.Prelude.{◌≡◌, ◌==◌, ℕ, false, cond, List, ◌∷◌, ◌++◌, ◌⊎◌, All, codes, decimal, nat_eq, [], Option, Some, None}
use Rattle.std.specs.List.{concat}
use Rattle.markup.specs.Escaped.{escaped}
use Rattle.race_page.specs.declared.merged_head.LeftOut.{LeftOut}
use Rattle.race_page.specs.declared.style.TheConstants.{BODY, TOP}

-- the policy of a page: it may fetch nothing and run nothing, and has its own style
abbrev pub policy : List ℕ
policy = codes "default-src 'none'; style-src 'unsafe-inline'; base-uri 'none'; form-action 'none'"

-- what comes before the title: the head of a page with its policy
abbrev pub top_text : List ℕ
top_text =
    codes "<!DOCTYPE html>\n<html lang=\"en\">\n<head>\n<meta charset=\"utf-8\">\n"
    ++ codes "<meta http-equiv=\"Content-Security-Policy\" content=\""
    ++ policy
    ++ codes "\">\n"
    ++ codes "<meta name=\"viewport\" content=\"width=device-width, initial-scale=1\">\n"
    ++ codes "<meta name=\"color-scheme\" content=\"light dark\">\n"
    ++ codes "<meta name=\"referrer\" content=\"no-referrer\">\n"

-- no byte is a slash
abbrev pub HasNoSlash : List ℕ → Type 0
HasNoSlash bytes = All (λ b. (b == 47) ≡ false) bytes

-- the file of a path: what follows the last slash, or the whole path if it has no slash
abbrev pub IsFileOf : List ℕ → List ℕ → Type 0
IsFileOf path file = HasNoSlash file × ((path ≡ file) ⊎ ((folders : List ℕ) × (path ≡ folders ++ 47 ∷ file)))

-- the word after a number of races
abbrev pub race_word : ℕ → List ℕ
race_word n = cond (n == 1) (codes " race") (codes " races")

-- n races, in words
abbrev pub races_words : ℕ → List ℕ
races_words n = cond (n == 0) (codes "No races") (decimal n ++ race_word n)

-- how many known races were left out, if there is such a number
abbrev pub known_word : ℕ → List ℕ
known_word n = cond (nat_eq n 1) (codes " known race") (codes " known races")

abbrev pub known_text : Option ℕ → List ℕ
known_text None = []
known_text (Some n) = concat (codes "; " ∷ decimal n ∷ known_word n ∷ codes " left out" ∷ [])

-- how many pairs of locations filters left out, if there is such a number
abbrev pub hidden_word : ℕ → List ℕ
hidden_word n = cond (nat_eq n 1) (codes " pair") (codes " pairs")

abbrev pub hidden_text : Option ℕ → List ℕ
hidden_text None = []
hidden_text (Some n) = concat (codes "; " ∷ decimal n ∷ hidden_word n ∷ codes " left out by --only and --hide" ∷ [])

-- what was left out
abbrev pub left_text : LeftOut → List ℕ
left_text left = known_text left.known ++ hidden_text left.hidden

-- the title of the window: "6 races in pdsh.std", and what was left out
abbrev pub title_text : ℕ → List ℕ → LeftOut → List ℕ
title_text races file left = codes "<title>" ++ races_words races ++ codes " in " ++ escaped file ++ left_text left ++ codes "</title>\n"

-- the first line of the page: the same
abbrev pub heading_text : ℕ → List ℕ → LeftOut → List ℕ
heading_text races file left =
    codes "<header>\n<h1>" ++ races_words races ++ codes " in <bdi>" ++ escaped file ++ codes "</bdi>" ++ left_text left
    ++ codes "</h1>\n</header>\n<main>\n"

-- with what a page begins: the head, which has the policy, how the page looks, and the first line
abbrev pub page_begin : ℕ → List ℕ → LeftOut → List ℕ
page_begin races file left = TOP.now ++ title_text races file left ++ BODY.now ++ heading_text races file left
