-- What the parts say of a pair of a merged page. All notions here are this project's own.
use Rattle.std.specs.Prelude.{ℕ, ◌-◌, List, [], ◌∷◌, ◌++◌, codes, decimal}
use Rattle.std.specs.List.{concat}
use Rattle.markup.specs.Escaped.{escaped}
use Rattle.race_parts.specs.declared.pairs.Pair.{Pair}

-- how often the parts say what, and which part has the row
abbrev pub counts_text : Pair → List ℕ
counts_text p =
    concat (codes "<h4>In the parts</h4>\n<p>Race: " ∷ decimal p.races ∷ codes ", undecided: " ∷ decimal p.undecided ∷ codes ", apart: "
    ∷ decimal p.apart ∷ [])

abbrev pub unmet_text : ℕ → List ℕ
unmet_text n = concat (codes ", not met: " ∷ decimal n ∷ codes ".</p>\n" ∷ [])

abbrev pub unmet_of : ℕ → Pair → List ℕ
unmet_of parts p = unmet_text (parts - p.races - p.undecided - p.apart)

abbrev pub part_text : List ℕ → List ℕ
part_text name = concat (codes "<p>This row is of the part <bdi>" ∷ escaped name ∷ codes "</bdi>.</p>\n</details>\n" ∷ [])

abbrev pub tally_text : ℕ → Pair → List ℕ
tally_text parts p = counts_text p ++ unmet_of parts p ++ part_text p.part.now
