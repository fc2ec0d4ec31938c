-- The text that `deadlocks` prints for a trace. `r` is the trace's recording. All notions here are this project's own.
use Rattle.std.specs.Prelude.{◌≡◌, ℕ, nat_eq, cond, List, [], ◌++◌, Vec, flat_map, slice_get, Option, Some, None, codes}
use Rattle.std.specs.declared.alloc.Global.{Global}
use Rattle.rapid_text.specs.Canonical.{name_at}
use Rattle.rapid_text.specs.Recording.{Recording}
use Rattle.rapid_text.specs.declared.event.Event.{Event}
use Rattle.explain_report.specs.Causes.{lock_taken}
use Rattle.race_triage.specs.Pieces.{count_line, event_words_at, number_text}
use Rattle.race_triage.specs.Texts.{held_locks, left_out_text, lock_line}
use Rattle.deadlock_triage.specs.declared.outcomes.How.{How}
use Rattle.deadlock_triage.specs.declared.outcomes.How.TheVariants.{Ordered, Turned}
use Rattle.deadlock_triage.specs.declared.outcomes.Outcome.{Outcome}
use Rattle.deadlock_triage.specs.declared.outcomes.Outcome.TheVariants.{Deadlock, Undecided, Apart}
use Rattle.deadlock_triage.specs.declared.outcomes.Verdict.{Verdict}
use Rattle.deadlock_triage.specs.declared.verdicts.Deadlocks.{Deadlocks}
use Rattle.deadlock_report.specs.Counts.{is_of, AreCountsIn}
use Rattle.deadlock_report.specs.Holds.{since_at}
use Rattle.deadlock_report.specs.declared.chosen.Chosen.{Chosen}
use Rattle.deadlock_report.specs.declared.counts.Counts.{Counts}
use Rattle.deadlock_report.specs.declared.kinds.Kind.{Kind}
use Rattle.deadlock_report.specs.declared.kinds.Kind.TheVariants.{Shown, Open, Never}

-- the lines of the counts
abbrev pub trace_lines : Counts → List ℕ
trace_lines c =
    count_line (codes "events") c.events ++ count_line (codes "threads") c.threads
    ++ count_line (codes "nested") c.nested ++ count_line (codes "patterns") c.patterns

abbrev pub kind_lines : Counts → List ℕ
kind_lines c =
    count_line (codes "deadlocks") c.deadlocks ++ count_line (codes "undecided") c.undecided
    ++ count_line (codes "apart") c.apart ++ count_line (codes "whole") c.whole

abbrev pub counts_text : Counts → List ℕ
counts_text c = trace_lines c ++ kind_lines c

-- the word for the outcome, and the numbers of the two requests
abbrev pub word_text : List ℕ → Verdict → List ℕ
word_text word v = word ++ number_text v.first ++ number_text v.second

abbrev pub how_words : How → List ℕ
how_words Ordered = codes " ordered"
how_words Turned = codes " turned"

-- the size of the schedule that shows a deadlock
abbrev pub size_text : ℕ → ℕ → List ℕ
size_text events threads = codes " events" ++ number_text events ++ codes " threads" ++ number_text threads

-- the first line of a block, without the line feed
abbrev pub head_by : Outcome → Verdict → List ℕ
head_by (Deadlock how events threads) v = word_text (codes "deadlock") v ++ how_words how ++ size_text events threads
head_by (Undecided tried) v = word_text (codes "undecided") v ++ codes " tried" ++ number_text tried
head_by Apart v = word_text (codes "apart") v

abbrev pub head_line : Verdict → List ℕ
head_line v = head_by v.outcome v ++ codes "\n"

-- the line of event e alone
abbrev pub request_line : Recording → ℕ → List ℕ
request_line r e = codes "  " ++ event_words_at r e ++ codes "\n"

-- lock l is held since event p
abbrev pub since_line : Recording → ℕ → ℕ → List ℕ
since_line r l p = codes "    holds " ++ name_at r.locks l ++ codes " since" ++ number_text p ++ request_line r p

abbrev pub since_text : Recording → ℕ → Option ℕ → List ℕ
since_text r l None = []
since_text r l (Some p) = since_line r l p

-- since when event e's thread holds the lock; empty if it does not hold it before e
abbrev pub hold_text : Recording → ℕ → Option ℕ → List ℕ
hold_text r e None = []
hold_text r e (Some l) = since_text r l (since_at r e l)

-- a line for the lock l, if it is another one
abbrev pub other_line : Recording → Option ℕ → ℕ → List ℕ
other_line r None l = lock_line r l
other_line r (Some but) l = cond (nat_eq but l) [] (lock_line r l)

abbrev pub other_lines : Recording → Option ℕ → List ℕ → List ℕ
other_lines r but ls = flat_map (other_line r but) ls

-- the lines of the locks that event e's thread holds, first the one that is waited for
abbrev pub held_text : Recording → ℕ → Option ℕ → List ℕ
held_text r e wanted = hold_text r e wanted ++ other_lines r wanted (held_locks r e)

abbrev pub request_by : Recording → ℕ → ℕ → Option Event → List ℕ
request_by r e d None = []
request_by r e d (Some v) = request_line r e ++ held_text r e (lock_taken r.events d)

-- Request e, and the locks that its thread holds. The one that request d waits for comes first.
abbrev pub request_text : Recording → ℕ → ℕ → List ℕ
request_text r e d = request_by r e d (slice_get r.events e)

-- the block of a verdict
abbrev pub block_text : Recording → Verdict → List ℕ
block_text r v = head_line v ++ request_text r v.first v.second ++ request_text r v.second v.first

-- the block of a verdict if it is of this kind
abbrev pub block_if : Recording → Kind → Verdict → List ℕ
block_if r k v = cond (is_of k v) (block_text r v) []

-- the blocks of the verdicts of this kind
abbrev pub kind_blocks : Recording → Kind → List Verdict → List ℕ
kind_blocks r k vs = flat_map (block_if r k) vs

-- the blocks: deadlocks, then undecided patterns, then patterns that are apart
abbrev pub verdict_blocks : Recording → List Verdict → List ℕ
verdict_blocks r vs = kind_blocks r Shown vs ++ kind_blocks r Open vs ++ kind_blocks r Never vs

-- how many known deadlocks are left out, and how many blocks the filters leave out, if that is counted
abbrev pub left_out_lines : Chosen → List ℕ
left_out_lines chosen = left_out_text (codes "known") chosen.known ++ left_out_text (codes "hidden") chosen.hidden

-- the counts of all verdicts, the blocks of the chosen ones, and how many are left out
abbrev pub deadlocks_words : Recording → Counts → Chosen → List ℕ
deadlocks_words r c chosen = counts_text c ++ verdict_blocks r chosen.verdicts.items ++ left_out_lines chosen

-- The text lists the chosen verdicts, and counts all verdicts.
pub record IsDeadlocksText (r : Recording) (found : Deadlocks) (chosen : Chosen) (text : List ℕ) : Type 0 where
  pub counts : Counts
  pub counted : AreCountsIn r found counts
  pub printed : text ≡ deadlocks_words r counts chosen

-- such a text is appended
abbrev pub AppendsDeadlocks : Recording → Deadlocks → Chosen → Vec ℕ Global → Vec ℕ Global → Type 0
AppendsDeadlocks r found chosen old new = (text : List ℕ) × IsDeadlocksText r found chosen text × (new.items ≡ old.items ++ text)
