-- The page of a merged report. All notions here are this project's own.
use Rattle.std.specs.Prelude.{ℕ, nat_eq, Bool, true, false, ◌-◌, ◌<◌, nat_lt, cond, List, [], ◌∷◌, ◌++◌, length, take, codes, decimal}
use Rattle.std.specs.List.{concat, filter}
use Rattle.race_parts.specs.declared.pairs.Pair.{Pair}
use Rattle.race_page.specs.MergedHead.{merged_begin}
use Rattle.race_page.specs.MergedRows.{rows_text}
use Rattle.race_page.specs.declared.merged.TheConstants.{END}
use Rattle.race_page.specs.declared.merged_head.LeftOut.{LeftOut}

-- the end of a merged page: what its words mean
abbrev pub words_text : List ℕ
words_text =
    codes "<section>\n"
    ++ codes "<h2>What the words mean</h2>\n"
    ++ codes "<p>A part is the report of one trace, or of one window that <code>triage --windows</code> cuts from a trace. Events have\n"
    ++ codes "their numbers in that trace, and not in the window.</p>\n"
    ++ codes "<p>Race: a schedule of the part, a correct reordering of its trace, brings the two accesses next to each other. The row\n"
    ++ codes "is that of the part with the shortest schedule.</p>\n"
    ++ codes "<p>Undecided: no part has a schedule for the pair, and the search of one was not complete.</p>\n"
    ++ codes "<p>Apart: no correct reordering of the trace of a part that met the pair brings the two next to each other.</p>\n"
    ++ codes "<p>If the part is a window, <code>racebench cut</code> and the name of the part print the window as a trace.</p>\n"
    ++ codes "</section>\n"
    ++ codes "</main>\n"
    ++ codes "</body>\n"
    ++ codes "</html>\n"

-- the pair is of this rank
abbrev pub has_rank : ℕ → Pair → Bool
has_rank rank p = nat_eq p.rank rank

abbrev pub heading_of : ℕ → List ℕ
heading_of rank = cond (nat_eq rank 0) (codes "Races") (cond (nat_eq rank 1) (codes "Undecided") (codes "Apart"))

-- that there are none
abbrev pub none_text : List Pair → List ℕ
none_text [] = codes "<p>None.</p>\n"
none_text (p ∷ ps) = []

-- how many of n pairs have no row
abbrev pub left_text : ℕ → List ℕ
left_text n =
    cond (nat_lt 2000 n) (concat (codes "<p>Left out here: " ∷ decimal (n - 2000) ∷ codes ". Without --page, racebench prints all of them as text.</p>\n" ∷ [])) []

-- the rows of the first 2,000 pairs, and how many more there are
unfoldable pub kept_text : ℕ → List Pair → List ℕ
kept_text parts kept = none_text kept ++ rows_text parts (take 2000 kept) ++ left_text (length kept)

-- with what the section of a rank begins
abbrev pub opening_text : ℕ → List ℕ
opening_text rank = concat (codes "<section>\n<h2>" ∷ heading_of rank ∷ codes "</h2>\n" ∷ [])

-- the section of the pairs `kept`, which are of this rank
unfoldable pub section_text : ℕ → ℕ → List Pair → List ℕ
section_text rank parts kept = opening_text rank ++ kept_text parts kept ++ codes "</section>\n"

-- the section of the pairs that are of this rank
abbrev pub rank_section : ℕ → ℕ → List Pair → List ℕ
rank_section rank parts ps = section_text rank parts (filter (has_rank rank) ps)

-- the beginning of the page, and these races
unfoldable pub lead_text : ℕ → List Pair → LeftOut → List ℕ
lead_text parts races left = merged_begin (length races) parts left ++ section_text 0 parts races

-- the section of what is apart, if it is wanted
abbrev pub apart_section : Bool → ℕ → List Pair → List ℕ
apart_section true parts ps = rank_section 2 parts ps
apart_section false parts ps = []

-- The page of `parts` parts with these pairs. Its first line says what was left out.
abbrev pub merged_text : ℕ → List Pair → Bool → LeftOut → List ℕ
merged_text parts ps apart left =
    lead_text parts (filter (has_rank 0) ps) left ++ rank_section 1 parts ps ++ apart_section apart parts ps ++ END.now
