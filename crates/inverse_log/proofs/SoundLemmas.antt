-- Each row and each proposal of a legal log is a correct reordering of the trace.
use Rattle.std.proofs.Common.{◌≡◌, ℕ, true, ltb, List, [], ◌∷◌, ◌++◌, Option, Some, None, Result, Ok, Err, All, length, refl, sym, subst, inl, inr}
use Rattle.std.proofs.lemmas.Bool.{cases_Bool, and_parts}
use Rattle.std.proofs.lemmas.List.{append-nil}
use Rattle.std.proofs.lemmas.List.Elements.{All-nil, All-cons, All-push, All-weaker}
use Rattle.rapid_text.specs.Recording.{Recording}
use Rattle.trace_rules.specs.Rules.{IsDisciplined}
use Rattle.event_index.specs.Relations.{is_conflict}
use Rattle.event_index.proofs.CallerLemmas.{Decides-is_conflict}
use Rattle.schedule.specs.Faults.{first_fault}
use Rattle.schedule.specs.Reordering.{IsCorrectReordering}
use Rattle.schedule.specs.Shows.{Shows, does_show, is_ready}
use Rattle.schedule.proofs.CallerLemmas.{first_fault-none, is_ready-true}
use Rattle.moves.specs.declared.board.Proposal.{Proposal}
use Rattle.moves.specs.declared.row.Row.{Row}
use Rattle.moves.specs.Boards.{IsBoardOf, AreProposed}
use Rattle.moves.specs.Fold.{Numbered}
use Rattle.moves.specs.Rows.{Rows, AreReorderings}
use Rattle.moves.proofs.CallerLemmas.{Nothing, leads_kept, AreReorderings-nil}
use Rattle.inverse_log.specs.declared.call.Call.{Call}
use Rattle.inverse_log.specs.declared.call.Call.TheVariants.{Do, Batch as DoAll, Undo, UndoAt, Propose, Show, List as ListNames, Races}
use Rattle.inverse_log.specs.declared.entry.Entry.{Entry}
use Rattle.inverse_log.specs.declared.entry.Entry.TheVariants.{Did, Batch, Undid, Proposed}
use Rattle.inverse_log.specs.declared.refusal.Refusal.{Refusal}
use Rattle.inverse_log.specs.declared.reply.Reply.{Reply}
use Rattle.inverse_log.specs.Answer.{limited, proposed_or, entry_of, logged, answer_of, IsLegal, starts, goes_on}
use Rattle.inverse_log.specs.Log.{steps_of, live_of, board_of, rows_of}
use Rattle.inverse_log.proofs.SizeLemmas.{IsUndid, entry_undo, entry_undo_at}
use Rattle.inverse_log.proofs.LawLemmas.{board_done, board_undid, board_proposed, proposal, Comes, legal_has}

-- each proposal's schedule is one of the trace
pub board_of_trace : (T : Recording) (L : List Entry) → IsBoardOf T (board_of T L)
board_of_trace T [] = All-nil (λ (p : Proposal). p.schedule.trace ≡ T)
board_of_trace T (Did c d ∷ L) = board_of_trace T L
board_of_trace T (Batch c D ∷ L) = board_of_trace T L
board_of_trace T (Undid c k ∷ L) = board_of_trace T L
board_of_trace T (Proposed c a b P ∷ L) = All-cons (λ (p : Proposal). p.schedule.trace ≡ T) (proposal T a b P) (board_of T L) refl (board_of_trace T L)

module _ (T : Recording) (rules : IsDisciplined T.events) where
  -- a correct reordering of the trace that shows its pair
  pub record IsSound (p : Proposal) : Type 0 where
    pub reordering : IsCorrectReordering T.events p.schedule.events
    pub shows : Shows T.events p.schedule.events p.first p.second

  abbrev pub AreSound : List Entry → Type 0
  AreSound L = All IsSound (board_of T L)

  -- a list that passes the test shows the pair
  pub shown : (P : List ℕ) (a b : ℕ) → IsCorrectReordering T.events P → does_show T.events P a b ≡ true → Shows T.events P a b
  shown P a b is h =
      let both = and_parts (is_conflict T.events a b) _ h in
      let ready = and_parts (is_ready T.events P a) (is_ready T.events P b) both.1 in
      record {
        conflict = (Decides-is_conflict T.events a b).0 both.0;
        first = is_ready-true T.events P a is ready.0;
        second = is_ready-true T.events P b is ready.1;
      }

  same : (L : List Entry) → AreSound L → AreSound (L ++ [])
  same L all = rw (append-nil L) all

  sound_undid : (L E : List Entry) (c : ℕ) → AreSound L → IsUndid c E → AreSound (L ++ E)
  sound_undid L E c all is = elim is [
    | inl none ↦ subst (λ X. AreSound (L ++ X)) (sym none) (same L all)
    | inr one ↦ subst (λ X. AreSound (L ++ X)) (sym one.1) (rw (board_undid T L c one.0) all)
  ]

  sound_proposed : (L : List Entry) (c a b : ℕ) (P : List ℕ) (o : Option ℕ) → first_fault T.events P ≡ o → AreSound L → AreSound (L ++ logged c (Propose a b P) (proposed_or T L a b P o))
  sound_proposed L c a b P (Some p) fault all = same L all
  sound_proposed L c a b P None fault all = elim (cases_Bool (does_show T.events P a b)) [
    | inl h ↦
        let is : IsCorrectReordering T.events P = first_fault-none T.events P rules fault in
        rw (h, board_proposed T L c a b P) (All-push IsSound (board_of T L) (proposal T a b P) all (record { reordering = is; shows = shown P a b is h }))
    | inr h ↦ rw h (same L all)
  ]

  sound_limited : (L : List Entry) (c : ℕ) (call : Call) (a : Result Reply Refusal) → AreSound L → AreSound (L ++ logged c call a) → AreSound (L ++ logged c call (limited L a))
  sound_limited L c call a all after = elim (cases_Bool (ltb (length L) 1000000)) [
    | inl h ↦ rw h after
    | inr h ↦ rw h (same L all)
  ]

  sound_logged : (L : List Entry) (c : ℕ) (call : Call) (a : Result Reply Refusal) → answer_of T L c call ≡ a → AreSound L → AreSound (L ++ logged c call a)
  sound_logged L c call (Err why) is all = same L all
  sound_logged L c (Do d) (Ok reply) is all = rw (board_done T L (Did c d) (c, d ∷ []) refl) all
  sound_logged L c (DoAll D) (Ok reply) is all = rw (board_done T L (Batch c D) (c, D) refl) all
  sound_logged L c Undo (Ok reply) is all = sound_undid L (entry_of c Undo reply) c all (entry_undo c reply)
  sound_logged L c (UndoAt j) (Ok reply) is all = sound_undid L (entry_of c (UndoAt j) reply) c all (entry_undo_at c j reply)
  sound_logged L c (Propose a b P) (Ok reply) is all =
      subst (λ r. AreSound (L ++ logged c (Propose a b P) r)) is (sound_limited L c (Propose a b P) (proposed_or T L a b P (first_fault T.events P)) all (sound_proposed L c a b P (first_fault T.events P) refl all))
  sound_logged L c (Show x) (Ok reply) is all = same L all
  sound_logged L c ListNames (Ok reply) is all = same L all
  sound_logged L c (Races x) (Ok reply) is all = same L all

  pub legal_sound : (L : List Entry) → IsLegal T L → AreSound L
  legal_sound _ starts = All-nil IsSound
  legal_sound _ (goes_on L c call low high legal) = sound_logged L c call (answer_of T L c call) refl (legal_sound L legal)

  pub legal_proposed : (L : List Entry) → IsLegal T L → AreProposed T (board_of T L)
  legal_proposed L legal = All-weaker IsSound (λ (p : Proposal). IsCorrectReordering T.events p.schedule.events) (λ p s. s.reordering) (board_of T L) (legal_sound L legal)

  -- the rows to which the live commands lead are correct reorderings
  pub comes_kept : (R : Numbered → Option Row → Option Row → Type 0) (L : List Entry) (V : Rows) → IsLegal T L → Comes T R L V → AreReorderings T V
  comes_kept R L V legal comes = leads_kept T (board_of T L) rules (legal_proposed L legal) R (steps_of (live_of L)) [] V (AreReorderings-nil T) comes

  pub legal_kept : (L : List Entry) → IsLegal T L → AreReorderings T (rows_of T L)
  legal_kept L legal = comes_kept Nothing L (rows_of T L) legal (legal_has T L legal)
