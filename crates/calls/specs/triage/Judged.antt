-- Whether the parts of a merged report have events, and whether their recordings are whole. All notions here are this project's own.
use Rattle.std.specs.Prelude.{◌≡◌, ℕ, nat_eq, not, Bool, List, Vec, codes, length}
use Rattle.std.specs.List.{before_first, list_all, list_any}
use Rattle.std.specs.declared.alloc.Global.{Global}
use Rattle.race_parts.specs.Facts.{data_in}
use Rattle.race_parts.specs.Members.{said_number, said_text}
use Rattle.race_parts.specs.declared.parts.Part.{Part}
use Rattle.rapid_text.specs.Reading.{is_line_feed}
use Rattle.wholeness.specs.declared.status.Judged.{Judged}

-- the first line of a part counts events
abbrev pub counts_events : Part → Bool
counts_events p = not (nat_eq (said_number (codes "events") (data_in (before_first is_line_feed p.text.items))) 0)

-- a part has events
abbrev pub have_events : List (Vec ℕ Global × Part) → Bool
have_events es = list_any (λ e. counts_events e.1) es

-- the first line of a part names nothing that its recording misses
abbrev pub is_whole : Part → Bool
is_whole p = nat_eq (length (said_text (codes "absent") (data_in (before_first is_line_feed p.text.items)))) 0

-- no part names anything that its recording misses
abbrev pub are_whole : List (Vec ℕ Global × Part) → Bool
are_whole es = list_all (λ e. is_whole e.1) es

-- what was judged in the parts, if this number of races was printed
pub record IsJudged (es : List (Vec ℕ Global × Part)) (races : ℕ) (judged : Judged) : Type 0 where
  pub races_are : judged.races ≡ races
  pub events_are : judged.has_events ≡ have_events es
  pub whole_is : judged.is_whole ≡ are_whole es
