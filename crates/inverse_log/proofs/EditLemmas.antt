-- Each command that is applied or taken back is one change; no other call is one.
use Rattle.std.proofs.Common.{◌≡◌, ℕ, ◌+◌, List, [], ◌++◌, Result, Ok, Err, length, slice_get, sym, ap, ◌∙◌, arith}
use Rattle.std.proofs.lemmas.List.{append-nil}
use Rattle.rapid_text.specs.Recording.{Recording}
use Rattle.schedule.specs.Faults.{first_fault}
use Rattle.moves.specs.Ages.{age}
use Rattle.moves.specs.Batches.{applied_all}
use Rattle.moves.specs.Moves.{made_at}
use Rattle.moves.specs.Rows.{row_of, names_of}
use Rattle.inverse_log.specs.declared.call.Call.{Call}
use Rattle.inverse_log.specs.declared.call.Call.TheVariants.{Do, Batch as DoAll, Undo, UndoAt, Propose, Show, List as ListNames, Races}
use Rattle.inverse_log.specs.declared.entry.Entry.{Entry}
use Rattle.inverse_log.specs.declared.entry.Entry.TheVariants.{Did, Batch, Undid, Proposed}
use Rattle.inverse_log.specs.declared.refusal.Refusal.{Refusal}
use Rattle.inverse_log.specs.declared.refusal.Refusal.TheVariants.{LogFull, Move, NothingToUndo, RestsOn, NotReordering, NotShown, OutOfMemory, NoSuchEntry, NotOwn, NotLive, BadBatch, InBatch}
use Rattle.inverse_log.specs.declared.reply.Reply.{Reply}
use Rattle.inverse_log.specs.declared.reply.Reply.TheVariants.{Done, Proposed as ProposedAs, Shown, Listing}
use Rattle.inverse_log.specs.Answer.{answer_of, sized, done_or, all_done_or, undo_or, undo_at_or, proposed_or, entry_of, logged}
use Rattle.inverse_log.specs.Headline.{changes_of, EditsCountChanges}
use Rattle.inverse_log.specs.Log.{board_of, rows_of, last_live, edits_of}
use Rattle.inverse_log.proofs.CountLemmas.{edits_push}
use Rattle.inverse_log.proofs.ReplyLemmas.{done_reply, all_done_reply, undo_reply, undo_at_reply, proposed_reply, seen_reply}
use Rattle.inverse_log.proofs.SizeLemmas.{limited_ok, sized_ok}

none : (L : List Entry) → edits_of (L ++ []) ≡ edits_of L + 0
none L = let same : edits_of (L ++ []) ≡ edits_of L = ap edits_of (append-nil L) in omega (arith, same)

replied : (T : Recording) (L : List Entry) (c : ℕ) (call : Call) (reply : Reply) → answer_of T L c call ≡ Ok reply → edits_of (L ++ entry_of c call reply) ≡ edits_of L + changes_of L call (Ok reply)
replied T L c (Do d) reply h =
    let is : reply ≡ Done (length L) = done_reply (length L) reply (made_at T (board_of T L) (age (length L) 0) d (rows_of T L)) (limited_ok L (done_or (length L) (made_at T (board_of T L) (age (length L) 0) d (rows_of T L))) reply h) in
    rw is (edits_push L (Did c d))
replied T L c (DoAll D) reply h =
    let answer : Result Reply Refusal = all_done_or (length L) (applied_all T (board_of T L) (age (length L) 0) D (rows_of T L)) in
    let is : reply ≡ Done (length L) = all_done_reply (length L) reply (applied_all T (board_of T L) (age (length L) 0) D (rows_of T L)) (sized_ok D answer reply (limited_ok L (sized D answer) reply h)).1 in
    rw is (edits_push L (Batch c D))
replied T L c Undo reply h =
    let is = undo_reply L (last_live L c) reply (limited_ok L (undo_or L (last_live L c)) reply h) in
    rw is.1 (edits_push L (Undid c is.0))
replied T L c (UndoAt j) reply h =
    let is = undo_at_reply L c j (slice_get L j) reply (limited_ok L (undo_at_or L c j (slice_get L j)) reply h) in
    rw is.1 (edits_push L (Undid c is.0))
replied T L c (Propose a b P) reply h =
    let is : reply ≡ ProposedAs (length L) (length (board_of T L)) = proposed_reply T L a b P (first_fault T.events P) reply (limited_ok L (proposed_or T L a b P (first_fault T.events P)) reply h) in
    rw is (edits_push L (Proposed c a b P))
replied T L c (Show x) reply h = let is = seen_reply (λ r. Shown r.schedule.events) (row_of (rows_of T L) x) reply h in rw is.1 (none L)
replied T L c ListNames reply h = let is : Listing (names_of (rows_of T L)) ≡ reply = cc in rw (sym is) (none L)
replied T L c (Races x) reply h = let is = seen_reply _ (row_of (rows_of T L) x) reply h in rw is.1 (none L)

refused : (L M : List Entry) → M ≡ L → edits_of M ≡ edits_of L + 0
refused L M same = let is : edits_of M ≡ edits_of L = ap edits_of same in omega (arith, is)

pub edits_law : EditsCountChanges
edits_law T L M c call (Ok reply) h = ap edits_of (h.1 ∙ ap (λ a. L ++ logged c call a) h.0) ∙ replied T L c call reply h.0
edits_law T L M c call (Err OutOfMemory) h = refused L M h.1
edits_law T L M c call (Err LogFull) h = refused L M h.1
edits_law T L M c call (Err (Move why)) h = refused L M h.1
edits_law T L M c call (Err NothingToUndo) h = refused L M h.1
edits_law T L M c call (Err (RestsOn k x)) h = refused L M h.1
edits_law T L M c call (Err (NotReordering p)) h = refused L M h.1
edits_law T L M c call (Err NotShown) h = refused L M h.1
edits_law T L M c call (Err NoSuchEntry) h = refused L M h.1
edits_law T L M c call (Err NotOwn) h = refused L M h.1
edits_law T L M c call (Err NotLive) h = refused L M h.1
edits_law T L M c call (Err BadBatch) h = refused L M h.1
edits_law T L M c call (Err (InBatch place why)) h = refused L M h.1
