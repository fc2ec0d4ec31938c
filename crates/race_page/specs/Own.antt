-- The page's own markup: a closed list. Apart from it, only digits and pictures are on a page unescaped.
use Rattle.std.specs.Prelude.{ℕ, List, [], ◌++◌, codes, decimal}
use Rattle.race_page.specs.declared.own.Part.{Part}
use Rattle.race_page.specs.declared.own.Part.TheVariants.{Foot, LineEnd}
use Rattle.race_page.specs.declared.own.Tag.{Tag}
use Rattle.race_page.specs.declared.own.Tag.TheVariants.{Section, SectionHeading, RowHeading, PartHeading, Paragraph, Isolated, Table, TableHead, TableBody, Line, ColumnHead, LineHead, Cell, NumberCell, Summary, Facts, Lines, Code, Figure, Caption, Wide}
use Rattle.race_page.specs.declared.shown.Seen.{Seen}
use Rattle.race_page.specs.declared.shown.Seen.TheVariants.{Unasked, NotFollowed, Departed, OtherMemory, Matters, Same, Unknown}
use Rattle.race_page.specs.declared.shown.Shown.{Shown}
use Rattle.race_page.specs.declared.shown.Sort.{Sort}
use Rattle.race_page.specs.declared.shown.Sort.TheVariants.{Race, Undecided, Apart}

-- how an element begins
abbrev pub begin_text : Tag → List ℕ
begin_text Section = codes "<section>\n"
begin_text SectionHeading = codes "<h2>"
begin_text RowHeading = codes "<h3>"
begin_text PartHeading = codes "<h4>"
begin_text Paragraph = codes "<p>"
begin_text Isolated = codes "<bdi>"
begin_text Table = codes "<table>\n"
begin_text TableHead = codes "<thead>\n"
begin_text TableBody = codes "<tbody>\n"
begin_text Line = codes "<tr>"
begin_text ColumnHead = codes "<th scope=\"col\">"
begin_text LineHead = codes "<th scope=\"row\">"
begin_text Cell = codes "<td>"
begin_text NumberCell = codes "<td class=\"number\">"
begin_text Summary = codes "<summary>"
begin_text Facts = codes " <span class=\"facts\">"
begin_text Lines = codes "<pre tabindex=\"0\">"
begin_text Code = codes "<code>"
begin_text Figure = codes "<figure>\n"
begin_text Caption = codes "<figcaption>"
begin_text Wide = codes "<div class=\"wide\" tabindex=\"0\">\n"

-- how it ends
abbrev pub end_text : Tag → List ℕ
end_text Section = codes "</section>\n"
end_text SectionHeading = codes "</h2>\n"
end_text RowHeading = codes "</h3>"
end_text PartHeading = codes "</h4>\n"
end_text Paragraph = codes "</p>\n"
end_text Isolated = codes "</bdi>"
end_text Table = codes "</table>\n"
end_text TableHead = codes "</thead>\n"
end_text TableBody = codes "</tbody>\n"
end_text Line = codes "</tr>\n"
end_text ColumnHead = codes "</th>"
end_text LineHead = codes "</th>"
end_text Cell = codes "</td>"
end_text NumberCell = codes "</td>"
end_text Summary = codes "</summary>\n"
end_text Facts = codes "</span>"
end_text Lines = codes "</pre>\n"
end_text Code = codes "</code>"
end_text Figure = codes "</figure>\n"
end_text Caption = codes "</figcaption>\n"
end_text Wide = codes "</div>\n"

-- a part that is always the same
abbrev pub part_text : Part → List ℕ
part_text Foot = codes "</main>\n</body>\n</html>\n"
part_text LineEnd = codes "\n"

-- how a row of the sort begins, up to its numbers
abbrev pub row_begin : Sort → List ℕ
row_begin Race = codes "<details id=\"race-"
row_begin Undecided = codes "<details id=\"undecided-"
row_begin Apart = codes "<details id=\"apart-"

-- the text beside a row: how a race came out that was followed on the real program
abbrev pub seen_text : Seen → List ℕ
seen_text Unasked = []
seen_text NotFollowed = codes "<span class=\"seen\">not followed</span> "
seen_text Departed = codes "<span class=\"seen\">departed</span> "
seen_text OtherMemory = codes "<span class=\"seen\">other memory</span> "
seen_text Matters = codes "<span class=\"seen matters\">order matters</span> "
seen_text Same = codes "<span class=\"seen\">same in both orders</span> "
seen_text Unknown = codes "<span class=\"seen\">order not known</span> "

-- how a row begins, up to the word beside it
abbrev pub row_head : Shown → List ℕ
row_head shown =
    row_begin shown.sort ++ decimal shown.first ++ codes "-" ++ decimal shown.second ++ codes "\">\n<summary>" ++ seen_text shown.seen

-- the row with this text
abbrev pub row_text : Shown → List ℕ → List ℕ
row_text shown text =
    row_begin shown.sort ++ decimal shown.first ++ codes "-" ++ decimal shown.second ++ codes "\">\n<summary>" ++ seen_text shown.seen ++ text ++ codes "</details>\n"
