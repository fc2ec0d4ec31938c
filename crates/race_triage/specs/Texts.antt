-- The text that `triage` prints for a trace. `r` is the trace's recording. All notions here are this project's own.
use Rattle.std.specs.Prelude.{◌≡◌, ℕ, ◌+◌, nat_lt, Bool, false, cond, List, [], ◌∷◌, ◌++◌, Vec, length, take, filter, flat_map, sum_by, count_by, slice_get, Option, Some, None, codes}
use Rattle.std.specs.declared.alloc.Global.{Global}
use Rattle.rapid_text.specs.Canonical.{name_at}
use Rattle.rapid_text.specs.Recording.{Recording}
use Rattle.rapid_text.specs.declared.event.Event.{Event}
use Rattle.trace_rules.specs.Rules.{hold_count}
use Rattle.event_index.specs.Events.{thread_at}
use Rattle.event_index.specs.Lookups.{before}
use Rattle.explain_report.specs.declared.verdict.How.{How}
use Rattle.explain_report.specs.declared.verdict.How.TheVariants.{Candidate, Beyond, Turned}
use Rattle.race_groups.specs.declared.kinds.Counts.{Counts}
use Rattle.race_triage.specs.Chosen.{is_of}
use Rattle.race_triage.specs.Pieces.{capped, count_line, event_words_at, number_text}
use Rattle.race_triage.specs.declared.chosen.Chosen.{Chosen}
use Rattle.race_triage.specs.declared.chosen.Part.TheVariants.{Races, Open, Never}
use Rattle.race_triage.specs.declared.totals.Totals.{Totals}
use Rattle.race_triage.specs.declared.verdicts.Outcome.{Outcome}
use Rattle.race_triage.specs.declared.verdicts.Outcome.TheVariants.{Race, Undecided, Apart}
use Rattle.race_triage.specs.declared.verdicts.Verdict.{Verdict}
use Rattle.race_triage.specs.declared.verdicts.Verdicts.{Verdicts}

-- the number of pairs of all kinds
abbrev pub all_in : Counts → ℕ
all_in c = capped (c.candidates + c.open_pairs + c.guarded + c.forced)

-- The counts of a trace and of its verdicts.
pub record AreTotals (r : Recording) (vs : List Verdict) (t : Totals) : Type 0 where
  pub events : t.events ≡ length r.events
  pub threads : t.threads ≡ length r.threads
  pub pairs : t.pairs ≡ capped (sum_by (λ v. all_in v.row.counts) vs)
  pub candidates : t.candidates ≡ capped (sum_by (λ v. v.row.counts.candidates) vs)
  pub open_pairs : t.open_pairs ≡ capped (sum_by (λ v. v.row.counts.open_pairs) vs)
  pub guarded : t.guarded ≡ capped (sum_by (λ v. v.row.counts.guarded) vs)
  pub forced : t.forced ≡ capped (sum_by (λ v. v.row.counts.forced) vs)
  pub places : t.places ≡ capped (length vs)
  pub races : t.races ≡ capped (count_by (is_of Races) vs)
  pub undecided : t.undecided ≡ capped (count_by (is_of Open) vs)
  pub apart : t.apart ≡ capped (count_by (is_of Never) vs)

-- the counts of a trace and of all its verdicts
abbrev pub AreTotalsIn : Recording → Verdicts → Totals → Type 0
AreTotalsIn r found t = AreTotals r found.verdicts.items t

-- one more verdict is counted
abbrev pub AreTotalsWith : Verdict → Totals → Totals → Type 0
AreTotalsWith v old new = (r : Recording) (vs : List Verdict) → AreTotals r vs old → AreTotals r (vs ++ v ∷ []) new

-- the lines of the counts
abbrev pub trace_lines : Totals → List ℕ
trace_lines t = count_line (codes "events") t.events ++ count_line (codes "threads") t.threads ++ count_line (codes "pairs") t.pairs

abbrev pub kind_lines : Totals → List ℕ
kind_lines t =
    count_line (codes "candidates") t.candidates ++ count_line (codes "open") t.open_pairs
    ++ count_line (codes "guarded") t.guarded ++ count_line (codes "forced") t.forced

abbrev pub place_lines : Totals → List ℕ
place_lines t =
    count_line (codes "places") t.places ++ count_line (codes "races") t.races
    ++ count_line (codes "undecided") t.undecided ++ count_line (codes "apart") t.apart

abbrev pub totals_text : Totals → List ℕ
totals_text t = trace_lines t ++ kind_lines t ++ place_lines t

-- The number of pairs that a block covers. For an apart verdict these are all pairs. Otherwise they are the candidates,
-- or the open pairs if there is no candidate.
abbrev pub pairs_by : Outcome → Counts → ℕ
pairs_by Apart c = all_in c
pairs_by o c = cond (nat_lt 0 c.candidates) c.candidates c.open_pairs

-- the number of pairs that the verdict's block covers
abbrev pub pairs_covered : Verdict → ℕ
pairs_covered v = pairs_by v.outcome v.row.counts

abbrev pub pairs_text : Verdict → List ℕ
pairs_text v = codes " pairs" ++ number_text (pairs_by v.outcome v.row.counts)

-- the number of pairs, and the number of their variables
abbrev pub open_text : Verdict → List ℕ
open_text v = pairs_text v ++ codes " variables" ++ number_text v.variables

-- the word for the outcome, and the two event numbers
abbrev pub word_text : List ℕ → Verdict → List ℕ
word_text word v = word ++ number_text v.first ++ number_text v.second

abbrev pub how_words : How → List ℕ
how_words Candidate = codes " candidate"
how_words Beyond = codes " beyond"
how_words Turned = codes " turned"

-- the size of the schedule that shows a race
abbrev pub size_text : ℕ → ℕ → List ℕ
size_text events threads = codes " events" ++ number_text events ++ codes " threads" ++ number_text threads

-- the first line of a block, without the line feed
abbrev pub head_by : Outcome → Verdict → List ℕ
head_by (Race how events threads) v = word_text (codes "race") v ++ how_words how ++ open_text v ++ size_text events threads
head_by (Undecided tried) v = word_text (codes "undecided") v ++ open_text v ++ codes " tried" ++ number_text tried
head_by Apart v = word_text (codes "apart") v ++ pairs_text v

abbrev pub head_line : Verdict → List ℕ
head_line v = head_by v.outcome v ++ codes "\n"

-- whether the thread holds the lock before event e
abbrev pub is_held_by : Recording → ℕ → Option ℕ → ℕ → Bool
is_held_by r e None l = false
is_held_by r e (Some t) l = nat_lt 0 (hold_count (take e r.events) t l)

-- the locks that the thread of event e holds before it, in the order of their numbers
abbrev pub held_locks : Recording → ℕ → List ℕ
held_locks r e = filter (is_held_by r e (thread_at r.events e)) (before (length r.locks))

abbrev pub lock_line : Recording → ℕ → List ℕ
lock_line r l = codes "    holds " ++ name_at r.locks l ++ codes "\n"

abbrev pub lock_lines : Recording → List ℕ → List ℕ
lock_lines r ls = flat_map (lock_line r) ls

abbrev pub access_by : Recording → ℕ → Option Event → List ℕ
access_by r e None = []
access_by r e (Some v) = codes "  " ++ event_words_at r e ++ codes "\n" ++ lock_lines r (held_locks r e)

-- the line of event e, and a line for each lock that its thread holds
abbrev pub access_text : Recording → ℕ → List ℕ
access_text r e = access_by r e (slice_get r.events e)

-- the block of a verdict
abbrev pub block_text : Recording → Verdict → List ℕ
block_text r v = head_line v ++ access_text r v.first ++ access_text r v.second

-- the line of event e alone
abbrev pub access_line : Recording → ℕ → List ℕ
access_line r e = codes "  " ++ event_words_at r e ++ codes "\n"

abbrev pub block_texts : Recording → List Verdict → List ℕ
block_texts r vs = flat_map (block_text r) vs

-- how many blocks were left out, if that is counted
abbrev pub left_out_text : List ℕ → Option ℕ → List ℕ
left_out_text word None = []
left_out_text word (Some n) = count_line word n

-- the counts, a block for each chosen verdict, and the numbers of blocks left out
abbrev pub triage_words : Recording → Totals → Chosen → List ℕ
triage_words r t c = totals_text t ++ block_texts r c.verdicts.items ++ left_out_text (codes "known") c.known ++ left_out_text (codes "hidden") c.hidden

-- The text lists the chosen verdicts, and counts all verdicts.
pub record IsTriageText (r : Recording) (vs : List Verdict) (c : Chosen) (text : List ℕ) : Type 0 where
  pub totals : Totals
  pub counted : AreTotals r vs totals
  pub printed : text ≡ triage_words r totals c

-- such a text of all these verdicts is appended
abbrev pub AppendsTriage : Recording → Verdicts → Chosen → Vec ℕ Global → Vec ℕ Global → Type 0
AppendsTriage r found c old new = (text : List ℕ) × IsTriageText r found.verdicts.items c text × (new.items ≡ old.items ++ text)
