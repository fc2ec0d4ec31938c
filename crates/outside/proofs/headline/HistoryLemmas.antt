-- One call more; and what an undo may be answered directly after its command. Only definitions of the bench are used.
use Rattle.std.proofs.Common.{◌≡◌, ◌≢◌, ℕ, ◌+◌, ◌<◌, ◌≤◌, true, List, [], ◌∷◌, ◌++◌, Option, Some, None, Result, Ok, Err, length, refl, sym, ap, ◌∙◌, subst, arith}
use Rattle.rapid_text.specs.Recording.{Recording}
use Rattle.inverse_log.specs.declared.call.Call.{Call}
use Rattle.inverse_log.specs.declared.call.Call.TheVariants.{Do, Undo}
use Rattle.inverse_log.specs.declared.entry.Entry.{Entry}
use Rattle.inverse_log.specs.declared.reply.Reply.{Reply}
use Rattle.inverse_log.specs.declared.reply.Reply.TheVariants.{Done, Undone}
use Rattle.inverse_log.specs.declared.refusal.Refusal.{Refusal}
use Rattle.inverse_log.specs.declared.refusal.Refusal.TheVariants.{LogFull, Move, NothingToUndo, RestsOn, NotReordering, NotShown, OutOfMemory, NoSuchEntry, NotOwn, NotLive, BadBatch, InBatch}
use Rattle.moves.specs.Rows.{Rows}
use Rattle.moves.specs.declared.row.Row.{Row}
use Rattle.moves.specs.declared.command.Command.{Command}
use Rattle.moves.specs.declared.refusal.MoveRefusal.{MoveRefusal}
use Rattle.moves.specs.Ages.{age}
use Rattle.moves.specs.Moves.{made_at}
use Rattle.inverse_log.specs.declared.entry.Entry.TheVariants.{Did}
use Rattle.std.proofs.Common.{ltb, inl, inr}
use Rattle.std.proofs.lemmas.Bool.{cases_Bool}
use Rattle.inverse_log.specs.Answer.{answer_of, log_after, Called, IsLegal, done_or, limited, logged}
use Rattle.inverse_log.specs.Headline.{IsFoldOfLive, UndoDirectlyRestores}
use Rattle.inverse_log.specs.Log.{rows_of, board_of}
use Rattle.outside.specs.declared.headline.driving.Asked.{Asked}
use Rattle.outside.specs.headline.History.{Follows}

pub follows_more : (T : Recording) (L : List Entry) (A : List Asked) (M : List Entry) (a : Asked) (r : Result Reply Refusal) (N : List Entry) → Follows T L A M → Called T M a.client a.call r N → Follows T L (A ++ a ∷ []) N
follows_more T L [] M a r N h called = (r, N, subst (λ X. Called T X a.client a.call r N) (sym h) called, refl)
follows_more T L (b ∷ A) M a r N h called = (h.0, h.1, h.2, follows_more T h.1 A M a r N h.3 called)

-- rows that are the fold are the rows of the log
pub fold_rows : (T : Recording) (L : List Entry) (W : Rows) → IsFoldOfLive T L W → rows_of T L ≡ W
fold_rows T L W is = rw is.fold refl

-- a refusal but want of memory leaves the log
pub refused_log : (T : Recording) (L M : List Entry) (c : ℕ) (call : Call) (why : Refusal) → Called T L c call (Err why) M → M ≡ L
refused_log T L M c call OutOfMemory h = h.1
refused_log T L M c call LogFull h = h.1
refused_log T L M c call (Move why) h = h.1
refused_log T L M c call NothingToUndo h = h.1
refused_log T L M c call (RestsOn k x) h = h.1
refused_log T L M c call (NotReordering p) h = h.1
refused_log T L M c call NotShown h = h.1
refused_log T L M c call NoSuchEntry h = h.1
refused_log T L M c call NotOwn h = h.1
refused_log T L M c call NotLive h = h.1
refused_log T L M c call BadBatch h = h.1
refused_log T L M c call (InBatch place cause) h = h.1

do_done : (n : ℕ) (q : Result (Option Row) MoveRefusal) (reply : Reply) → done_or n q ≡ Ok reply → reply ≡ Done n
do_done n (Ok o) reply h = let e : Done n ≡ reply = cc in sym e
do_done n (Err why) reply h = absurd cc

limited_reply : (L : List Entry) (a : Result Reply Refusal) (reply : Reply) → limited L a ≡ Ok reply → a ≡ Ok reply
limited_reply L a reply h = elim (cases_Bool (ltb (length L) 1000000)) [
  | inl t ↦ rw t at h
  | inr f ↦ let e : Err LogFull ≡ Ok reply = rw f at h in absurd cc
]

-- a reply to a command is that it was done
pub do_reply : (T : Recording) (L : List Entry) (c : ℕ) (d : Command) (reply : Reply) → answer_of T L c (Do d) ≡ Ok reply → reply ≡ Done (length L)
do_reply T L c d reply h = let q = made_at T (board_of T L) (age (length L) 0) d (rows_of T L) in do_done (length L) q reply (limited_reply L (done_or (length L) q) reply h)

pub did_log : (T : Recording) (L M : List Entry) (c : ℕ) (d : Command) (reply : Reply) → Called T L c (Do d) (Ok reply) M → M ≡ L ++ Did c d ∷ []
did_log T L M c d reply h = h.1 ∙ ap (λ a. L ++ logged c (Do d) a) h.0

-- the rows are those before
pub restored_rows : (T : Recording) (L M N : List Entry) (c : ℕ) (d : Command) (reply again : Reply) → UndoDirectlyRestores → 1 ≤ c → c ≤ 32 → IsLegal T L → length L + 1 < 1000000
    → Called T L c (Do d) (Ok reply) M → Called T M c Undo (Ok again) N → (W V : Rows) → IsFoldOfLive T L W → IsFoldOfLive T N V → W ≡ V
restored_rows T L M N c d reply again law low high legal room did undid W V w v =
    let done : Called T L c (Do d) (Ok (Done (length L))) M = subst (λ r. Called T L c (Do d) (Ok r) M) (do_reply T L c d reply did.0) did in
    let same = (law T L M c (length L) (Do d) low high legal done room).1 in
    sym (fold_rows T L W w) ∙ sym same ∙ ap (rows_of T) (sym undid.1) ∙ fold_rows T N V v
