-- What a report says of a recording that is not whole, and where. All notions here are this project's own.
use Rattle.std.specs.Prelude.{◌≡◌, ◌⊎◌, ℕ, ◌-◌, ◌≤◌, nat_eq, true, List, length, ◌++◌, take, drop, min, codes}
use Rattle.std.specs.List.{ends_with}
use Rattle.wholeness.specs.declared.saying.Place.{Place}
use Rattle.wholeness.specs.declared.saying.Place.TheVariants.{Line, Member, Warning, Comment, Paragraph, Notification}

-- what comes before the words, and what comes after them
abbrev pub words_before : Place → List ℕ
words_before Line = codes "not whole: "
words_before Member = codes "\"absent\":\""
words_before Warning = codes "?: warning: the recording is not whole: "
words_before Comment = codes "# The recording is not whole: "
words_before Paragraph = codes "<p><strong>The recording is not whole:</strong> "
words_before Notification =
    codes ",\"invocations\":[{\"executionSuccessful\":true,\"toolExecutionNotifications\":[{\"level\":\"warning\",\"message\":{\"text\":\"The recording is not whole: "

abbrev pub words_after : Place → List ℕ
words_after Line = codes "\n"
words_after Member = codes "\","
words_after Warning = codes " [not-whole]\n"
words_after Comment = codes "\n"
words_after Paragraph = codes "</p>\n"
words_after Notification = codes "\"}}]}]"

-- The index of a report at which the words come: in front of it; after the first byte; before the first section of a page; or before the last four bytes.
abbrev pub IsPlaceIn : Place → List ℕ → ℕ → Type 0
IsPlaceIn Line report at = at ≡ 0
IsPlaceIn Member report at = at ≡ min (length report) 1
IsPlaceIn Warning report at = at ≡ 0
IsPlaceIn Comment report at = at ≡ 0
IsPlaceIn Paragraph report at = (at ≡ 0) ⊎ (ends_with nat_eq (take at report) (codes "<main>\n") ≡ true)
IsPlaceIn Notification report at = at ≡ length report - 4

-- the report with the words at this index
abbrev pub said_text : Place → List ℕ → List ℕ → ℕ → List ℕ
said_text place words report at = take at report ++ words_before place ++ words ++ words_after place ++ drop at report

-- the report with the words, and nothing else is changed
abbrev pub IsSaid : Place → List ℕ → List ℕ → List ℕ → Type 0
IsSaid place words report text = (at : ℕ) × (at ≤ length report) × IsPlaceIn place report at × (text ≡ said_text place words report at)
