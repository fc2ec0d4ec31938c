-- What a picture draws of a schedule, in which order, and with which words. The position of each shape is presentation.
-- `r` is a recording, P the events of the schedule. All notions here are this project's own.
use Rattle.std.specs.Prelude.{◌≡◌, ℕ, ◌+◌, ◌-◌, ◌<◌, ◌≤◌, nat_lt, Bool, true, false, List, [], ◌∷◌, ◌++◌, length, take, replicate, slice_get, slice_index_or, Option, Some, None, Result, OnOk, codes, decimal}
use Rattle.rapid_text.specs.Canonical.{name_at, op_text}
use Rattle.rapid_text.specs.Recording.{Recording}
use Rattle.rapid_text.specs.declared.event.Event.{Event}
use Rattle.rapid_text.specs.declared.event.Op.{Op}
use Rattle.explain_report.specs.Accesses.{held_locks}
use Rattle.explain_report.specs.Chains.{thread_name}
use Rattle.explain_report.specs.Runs.{runs_of}
use Rattle.explain_report.specs.RunTexts.{event_total}
use Rattle.explain_report.specs.Verdicts.{count_text}
use Rattle.explain_report.specs.Waiting.{AreWaiters, words_between}
use Rattle.explain_report.specs.picture.Shapes.{arrow_text, line_text, rect_text}
use Rattle.explain_report.specs.declared.picture.class.Class.{Class}
use Rattle.explain_report.specs.declared.picture.class.Class.TheVariants.{Name, Note, Event as EventLine, Access, Run as RunBox, Race, Edge, Held}
use Rattle.explain_report.specs.declared.runs.Run.{Run}

-- after the shapes `old` come others, of which P holds
abbrev pub Drawn : (List ℕ → Type 0) → List ℕ → List ℕ → Type 0
Drawn P old new = (shapes : List ℕ) × (new ≡ old ++ shapes) × P shapes

-- the same, unless the answer is an error
abbrev pub Drew : {T E : Type 0} → Result T E → List ℕ → List ℕ → (List ℕ → Type 0) → Type 0
Drew answer old new P = OnOk answer (Drawn P old new)

-- a text of two parts
abbrev pub Then : (List ℕ → Type 0) → (List ℕ → Type 0) → List ℕ → Type 0
Then P Q text = (first : List ℕ) × (rest : List ℕ) × (text ≡ first ++ rest) × P first × Q rest

-- a text that is there only if the test holds
abbrev pub If : Bool → (List ℕ → Type 0) → List ℕ → Type 0
If true P text = P text
If false P text = text ≡ []

-- a text with a part for each element of the list
pub data Each {A : Type 0} (P : A → List ℕ → Type 0) : List A → List ℕ → Type 0 where
  none : Each P [] []
  more : (xs : List A) (x : A) (text part : List ℕ) → Each P xs text → P x part → Each P (xs ++ x ∷ []) (text ++ part)

-- any number of such parts, one after the other
pub data Many (P : List ℕ → Type 0) : List ℕ → Type 0 where
  none : Many P []
  more : (text part : List ℕ) → Many P text → P part → Many P (text ++ part)

-- a rectangle of this class
abbrev pub IsRect : Class → List ℕ → Type 0
IsRect class text = (left : ℕ) × (top : ℕ) × (width : ℕ) × (height : ℕ) × (text ≡ rect_text class left top width height)

-- the ellipsis, in UTF-8
abbrev pub ellipsis : List ℕ
ellipsis = 226 ∷ 128 ∷ 166 ∷ []

-- a line shows its words whole if they have at most 46 bytes; else a beginning of 42 to 45 bytes, and an ellipsis
pub data IsCut (words : List ℕ) : List ℕ → Type 0 where
  whole : length words ≤ 46 → IsCut words words
  begun : (n : ℕ) → 46 < length words → 42 ≤ n → n ≤ 45 → IsCut words (take n words ++ ellipsis)

-- a line of this class with these words, whole
abbrev pub IsWhole : Class → List ℕ → List ℕ → Type 0
IsWhole class words text = (left : ℕ) × (base : ℕ) × (text ≡ line_text class left base words)

-- a line of this class with these words, which are cut if they are long
abbrev pub IsLine : Class → List ℕ → List ℕ → Type 0
IsLine class words text = (shown : List ℕ) × IsCut words shown × IsWhole class shown text

-- any arrow
abbrev pub IsArrow : List ℕ → Type 0
IsArrow text = (from_x : ℕ) × (from_y : ℕ) × (below : ℕ) × (to_x : ℕ) × (to_y : ℕ) × (above : ℕ) × (text ≡ arrow_text from_x from_y below to_x to_y above)

-- the bar of a box: its edge, and the parts with a lock held
abbrev pub AreBars : List ℕ → Type 0
AreBars = Then (IsRect Edge) (Many (IsRect Held))

-- the line at the top, of n runs with m events
abbrev pub top_text : ℕ → ℕ → ℕ → ℕ → List ℕ
top_text n m a b =
    decimal a ++ codes " and " ++ decimal b ++ codes ": after " ++ count_text m (codes "event") ++ codes " in " ++ count_text n (codes "run")
    ++ codes " both are next"

-- the line at the top
abbrev pub top_words : Recording → List ℕ → ℕ → ℕ → List ℕ
top_words r P a b = top_text (length (runs_of r.events P)) (length P) a b

-- the names above the columns: one for each thread of the list, and one for a column that others share
abbrev pub AreNames : Recording → List ℕ → Bool → List ℕ → Type 0
AreNames r threads is_shared =
    Then (Each (λ t. IsLine Name (name_at r.threads t)) threads) (If is_shared (IsLine Name (codes "other threads")))

-- such names
abbrev pub HasNames : Recording → List ℕ → Type 0
HasNames r text = (threads : List ℕ) × (is_shared : Bool) × AreNames r threads is_shared text

-- the label of run n: its number, its number of events, and its thread
abbrev pub count_words : Recording → ℕ → Run → List ℕ
count_words r n run =
    codes "run " ++ decimal n ++ codes ", " ++ count_text (event_total run) (codes "event") ++ codes " of " ++ name_at r.threads run.thread

-- the label of an event: its number, operation and location
abbrev pub words_of : Recording → ℕ → Op → List ℕ → List ℕ
words_of r e op location = decimal e ++ codes "  " ++ op_text r op ++ codes " " ++ location

abbrev pub label_by : Recording → ℕ → Option Event → List ℕ
label_by r e None = []
label_by r e (Some v) = words_of r e v.op (slice_index_or r.locations e [])

-- the label of event e, if there is such an event
abbrev pub label_words : Recording → ℕ → List ℕ
label_words r e = label_by r e (slice_get r.events e)

-- a line of the event, if there is one
abbrev pub IsEvent : Recording → Option ℕ → List ℕ → Type 0
IsEvent r None text = text ≡ []
IsEvent r (Some e) text = IsLine EventLine (label_words r e) text

-- why event w waits for event e
abbrev pub reason_words : Recording → ℕ → ℕ → List ℕ
reason_words r e w = words_between r.events e w ++ codes " " ++ decimal w

-- a line of the event that waits for this one, if there is one
abbrev pub IsReason : Recording → Option ℕ → Option ℕ → List ℕ → Type 0
IsReason r (Some e) (Some w) text = IsLine Note (reason_words r e w) text
IsReason r _ _ text = text ≡ []

-- the contents of a run's box: the run's number, the run, and an event that waits for its last
pub record Box : Type 0 where
  pub number : ℕ
  pub run : Run
  pub waiter : Option ℕ

-- the lines of a box
abbrev pub AreLines : Recording → List ℕ → Box → List ℕ → Type 0
AreLines r P box =
    Then (IsLine Note (count_words r box.number box.run))
    (Then (If (nat_lt 1 (event_total box.run)) (IsEvent r (slice_get P box.run.start)))
    (Then (IsEvent r (slice_get P (box.run.end - 1))) (IsReason r (slice_get P (box.run.end - 1)) box.waiter)))

-- the box of a run: its frame, its bar, and its lines
abbrev pub IsRunBox : Recording → List ℕ → Box → List ℕ → Type 0
IsRunBox r P box = Then (IsRect RunBox) (Then AreBars (AreLines r P box))

-- the box of the run with this number, if it is drawn
abbrev pub box_if : Bool → Box → List Box
box_if true box = box ∷ []
box_if false box = []

-- the contents of this run's box
abbrev pub told_of : ℕ → Run → List (Option ℕ) → Box
told_of n run ws = record { number = n; run = run; waiter = slice_index_or ws (run.end - 1) None }

-- the boxes of the drawn runs of a list, which comes after n other runs
unfoldable pub boxes_after : List (Option ℕ) → List Bool → ℕ → List Run → List Box
boxes_after ws drawn n [] = []
boxes_after ws drawn n (run ∷ runs) =
    box_if (slice_index_or drawn n false) (told_of (n + 1) run ws) ++ boxes_after ws drawn (n + 1) runs

-- which of n runs are drawn one by one: all of at most 40; else the last 20, and maybe others
pub record AreChosen (n : ℕ) (drawn : List Bool) : Type 0 where
  pub whole : length drawn ≡ n
  pub few : n ≤ 40 → drawn ≡ replicate n true
  pub late : (k : ℕ) → 40 < n → n - 20 ≤ k → k < n → slice_get drawn k ≡ Some true

-- a line for the runs that are not drawn one by one: n of m threads
abbrev pub IsEarlierRuns : ℕ → ℕ → List ℕ → Type 0
IsEarlierRuns n m = IsLine Note (count_text n (codes "earlier run") ++ codes " of " ++ count_text m (codes "thread"))

-- a line for their events
abbrev pub IsEarlierEvents : ℕ → List ℕ → Type 0
IsEarlierEvents n = IsLine Note (count_text n (codes "event"))

-- one box for these runs, which are n of m threads with k events
abbrev pub IsEarlierBox : ℕ → ℕ → ℕ → List ℕ → Type 0
IsEarlierBox n m k = Then (IsRect RunBox) (Then (IsEarlierRuns n m) (IsEarlierEvents k))

-- the same for some numbers
abbrev pub IsEarlier : List ℕ → Type 0
IsEarlier text = (n : ℕ) × (m : ℕ) × (k : ℕ) × IsEarlierBox n m k text

-- the box of the runs that are not drawn one by one, if there are more than 40 runs, and these boxes
abbrev pub AreRunBoxes : Recording → List ℕ → List Box → List ℕ → Type 0
AreRunBoxes r P boxes = Then (If (nat_lt 40 (length (runs_of r.events P))) IsEarlier) (Each (IsRunBox r P) boxes)

-- the text for a lock that is held
abbrev pub held_words : Recording → ℕ → List ℕ
held_words r l = codes "holds " ++ name_at r.locks l

-- the text for n more locks
abbrev pub more_words : ℕ → List ℕ
more_words n = codes "and " ++ count_text n (codes "lock") ++ codes " more"

-- the lines of the locks: the first eight by name, and how many more there are
abbrev pub AreLocks : Recording → List ℕ → List ℕ → Type 0
AreLocks r ls =
    Then (Each (λ l. IsLine EventLine (held_words r l)) (take 8 ls)) (If (nat_lt 8 (length ls)) (IsLine Note (more_words (length ls - 8))))

-- the lines of an access: its thread, its event, and the locks that its thread holds before it
abbrev pub AreAccessLines : Recording → ℕ → List ℕ → Type 0
AreAccessLines r e = Then (IsLine Name (thread_name r e)) (Then (IsLine Access (label_words r e)) (AreLocks r (held_locks r e)))

-- the box of an access, if the trace has the event
abbrev pub IsAccessBox : Recording → ℕ → List ℕ → Type 0
IsAccessBox r e = If (nat_lt e (length r.events)) (Then (IsRect Race) (AreAccessLines r e))

-- both accesses, and that they are next
abbrev pub ArePair : Recording → ℕ → ℕ → List ℕ → Type 0
ArePair r a b = Then (IsLine Name (codes "then both are next:")) (Then (IsAccessBox r a) (IsAccessBox r b))

-- The shapes are those of the schedule P, which shows the pair: the line at the top, names of threads, arrows, a box for
-- the runs that are not drawn one by one, a box for each other run in the order of the schedule, and those of the accesses.
pub record AreOf (r : Recording) (P : List ℕ) (a b : ℕ) (shapes : List ℕ) : Type 0 where
  pub waiters : List (Option ℕ)
  pub wait : AreWaiters r.events P waiters
  pub drawn : List Bool
  pub chosen : AreChosen (length (runs_of r.events P)) drawn
  pub parts :
      Then (IsWhole Name (top_words r P a b))
      (Then (HasNames r) (Then (Many IsArrow) (Then (AreRunBoxes r P (boxes_after waiters drawn 0 (runs_of r.events P))) (ArePair r a b)))) shapes
