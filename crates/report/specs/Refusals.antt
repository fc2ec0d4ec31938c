-- The text of a refused call: the refusal's number and its words, in one line.
use Rattle.std.specs.Prelude.{ℕ, List, ◌++◌, codes, decimal}
use Rattle.rapid_text.specs.Recording.{Recording}
use Rattle.moves.specs.declared.refusal.MoveRefusal.{MoveRefusal}
use Rattle.moves.specs.declared.refusal.MoveRefusal.TheVariants.{NoSuchSchedule, NameTaken, NoSuchProposal, NothingToRetract, Disabled as DisabledBy, Swap as SwapBy, TooShort, OutOfMemory as NoMoveMemory}
use Rattle.inverse_log.specs.declared.refusal.Refusal.{Refusal}
use Rattle.inverse_log.specs.declared.refusal.Refusal.TheVariants.{Move, NothingToUndo, RestsOn, NotReordering, NotShown, LogFull, OutOfMemory, NoSuchEntry, NotOwn, NotLive, BadBatch, InBatch}
use Rattle.report.specs.Causes.{disabled_words, swap_words, refused_line}

-- why a command is refused
abbrev pub move_words : Recording → MoveRefusal → List ℕ
move_words trace NoSuchSchedule = codes "42 no such schedule"
move_words trace NameTaken = codes "43 name taken"
move_words trace NoSuchProposal = codes "44 no such proposal"
move_words trace NothingToRetract = codes "45 nothing to retract"
move_words trace (DisabledBy why) = codes "46 " ++ disabled_words trace why
move_words trace (SwapBy why) = codes "47 " ++ swap_words why
move_words trace TooShort = codes "48 too short"
move_words trace NoMoveMemory = codes "49 out of memory"

-- why an undo is refused: a later entry touches a name that its entry wrote
abbrev pub rests_words : ℕ → List ℕ → List ℕ
rests_words entry name = codes "52 rests on " ++ decimal entry ++ codes " " ++ name

-- why a call is refused
abbrev pub refusal_words : Recording → Refusal → List ℕ
refusal_words trace (Move why) = move_words trace why
refusal_words trace NothingToUndo = codes "51 nothing to undo"
refusal_words trace (RestsOn entry name) = rests_words entry name
refusal_words trace (NotReordering position) = codes "53 not a reordering at " ++ decimal position
refusal_words trace NotShown = codes "54 not shown"
refusal_words trace LogFull = codes "55 log full"
refusal_words trace OutOfMemory = codes "56 out of memory"
refusal_words trace NoSuchEntry = codes "57 no such entry"
refusal_words trace NotOwn = codes "58 not own"
refusal_words trace NotLive = codes "59 not live"
refusal_words trace BadBatch = codes "60 bad batch"
refusal_words trace (InBatch place why) = codes "70 at " ++ decimal place ++ codes " " ++ move_words trace why

abbrev pub refusal_text : Recording → Refusal → List ℕ
refusal_text trace why = refused_line (refusal_words trace why)
