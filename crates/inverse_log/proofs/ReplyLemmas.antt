-- What each call replies, where it is accepted.
use Rattle.std.proofs.Common.{◌≡◌, inl, inr, ℕ, Bool, true, false, List, Option, Some, None, Result, Ok, Err, length, sym}
use Rattle.std.proofs.lemmas.Bool.{cases_Bool}
use Rattle.rapid_text.specs.Recording.{Recording}
use Rattle.schedule.specs.Shows.{does_show}
use Rattle.moves.specs.declared.refusal.MoveRefusal.{MoveRefusal}
use Rattle.moves.specs.declared.row.Row.{Row}
use Rattle.moves.specs.Rows.{Rows}
use Rattle.inverse_log.specs.declared.entry.Entry.{Entry}
use Rattle.inverse_log.specs.declared.refusal.Refusal.TheVariants.{NotShown}
use Rattle.inverse_log.specs.declared.reply.Reply.{Reply}
use Rattle.inverse_log.specs.declared.reply.Reply.TheVariants.{Done, Undone, Proposed as ProposedAs}
use Rattle.inverse_log.specs.Answer.{done_or, all_done_or, undone_or, undo_or, undo_live_or, undo_own_or, undo_at_or, proposed_or, seen_or}
use Rattle.inverse_log.specs.Log.{Live, live_at, is_own, board_of, blocker_of}

pub done_reply : (n : ℕ) (reply : Reply) (q : Result (Option Row) MoveRefusal) → done_or n q ≡ Ok reply → reply ≡ Done n
done_reply n reply (Ok o) h = let is : Done n ≡ reply = cc in sym is
done_reply n reply (Err why) h = absurd cc

pub all_done_reply : (n : ℕ) (reply : Reply) (q : Result Rows (ℕ × MoveRefusal)) → all_done_or n q ≡ Ok reply → reply ≡ Done n
all_done_reply n reply (Ok V) h = let is : Done n ≡ reply = cc in sym is
all_done_reply n reply (Err p) h = absurd cc

undone_reply : (L : List Entry) (n : ℕ) (e : Live) (o : Option Live) (reply : Reply) → undone_or n e o ≡ Ok reply → reply ≡ Undone n e.number
undone_reply L n e None reply h = let is : Undone n e.number ≡ reply = cc in sym is
undone_reply L n e (Some b) reply h = absurd cc

pub undo_reply : (L : List Entry) (o : Option Live) (reply : Reply) → undo_or L o ≡ Ok reply → (k : ℕ) × (reply ≡ Undone (length L) k)
undo_reply L None reply h = absurd cc
undo_reply L (Some e) reply h = (e.number, undone_reply L (length L) e (blocker_of L e) reply h)

undo_live_reply : (L : List Entry) (o : Option Live) (reply : Reply) → undo_live_or L o ≡ Ok reply → (k : ℕ) × (reply ≡ Undone (length L) k)
undo_live_reply L None reply h = absurd cc
undo_live_reply L (Some e) reply h = (e.number, undone_reply L (length L) e (blocker_of L e) reply h)

undo_own_reply : (L : List Entry) (k : ℕ) (own : Bool) (reply : Reply) → undo_own_or L k own ≡ Ok reply → (k : ℕ) × (reply ≡ Undone (length L) k)
undo_own_reply L k false reply h = absurd cc
undo_own_reply L k true reply h = undo_live_reply L (live_at L k) reply h

pub undo_at_reply : (L : List Entry) (c k : ℕ) (o : Option Entry) (reply : Reply) → undo_at_or L c k o ≡ Ok reply → (k : ℕ) × (reply ≡ Undone (length L) k)
undo_at_reply L c k None reply h = absurd cc
undo_at_reply L c k (Some e) reply h = undo_own_reply L k (is_own c (Some e)) reply h

pub proposed_reply : (T : Recording) (L : List Entry) (a b : ℕ) (P : List ℕ) (o : Option ℕ) (reply : Reply) → proposed_or T L a b P o ≡ Ok reply → reply ≡ ProposedAs (length L) (length (board_of T L))
proposed_reply T L a b P (Some p) reply h = absurd cc
proposed_reply T L a b P None reply h = elim (cases_Bool (does_show T.events P a b)) [
  | inl t ↦ let g : Ok (ProposedAs (length L) (length (board_of T L))) ≡ Ok reply = rw t at h in let is : ProposedAs (length L) (length (board_of T L)) ≡ reply = cc in sym is
  | inr f ↦ let g : Err NotShown ≡ Ok reply = rw f at h in absurd cc
]

pub seen_reply : (look : Row → Reply) (o : Option Row) (reply : Reply) → seen_or look o ≡ Ok reply → (r : Row) × (reply ≡ look r)
seen_reply look None reply h = absurd cc
seen_reply look (Some r) reply h = (r, let is : look r ≡ reply = cc in sym is)
