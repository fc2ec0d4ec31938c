-- A batch of a legal log has 1 to 64 commands.
use Rattle.std.proofs.Common.{◌≡◌, ◌⊎◌, inl, inr, ℕ, zero, suc, ◌≤◌, true, ltb, leb, List, [], ◌∷◌, ◌++◌, Some, Result, Ok, Err, All, length, slice_get, refl, sym, subst, arith}
use Rattle.std.specs.Option.{IfSome}
use Rattle.std.proofs.lemmas.Bool.{cases_Bool, and_parts, leb-true}
use Rattle.std.proofs.lemmas.List.{append-nil}
use Rattle.std.proofs.lemmas.List.Elements.{All-nil, All-head, All-tail, All-push, All-weaker}
use Rattle.rapid_text.specs.Recording.{Recording}
use Rattle.moves.specs.declared.command.Command.{Command}
use Rattle.moves.specs.Ages.{age}
use Rattle.moves.specs.Batches.{applied_all}
use Rattle.inverse_log.specs.declared.call.Call.{Call}
use Rattle.inverse_log.specs.declared.call.Call.TheVariants.{Do, Batch as DoAll, Undo, UndoAt, Propose, Show, List as ListNames, Races}
use Rattle.inverse_log.specs.declared.entry.Entry.{Entry}
use Rattle.inverse_log.specs.declared.entry.Entry.TheVariants.{Did, Batch, Undid, Proposed}
use Rattle.inverse_log.specs.declared.refusal.Refusal.{Refusal}
use Rattle.inverse_log.specs.declared.refusal.Refusal.TheVariants.{LogFull, BadBatch}
use Rattle.inverse_log.specs.declared.reply.Reply.{Reply}
use Rattle.inverse_log.specs.declared.reply.Reply.TheVariants.{Done, Undone, Proposed as ProposedAs, Shown, Listing, Shows}
use Rattle.inverse_log.specs.Answer.{answer_of, limited, is_batch, sized, all_done_or, entry_of, logged, IsLegal, starts, goes_on}
use Rattle.inverse_log.specs.Log.{done_by, done_in, live_of, board_of, rows_of}
use Rattle.inverse_log.proofs.LiveLemmas.{IsShort, IsThere, live_theres}

-- an answer that may be 55 instead
pub limited_ok : (L : List Entry) (a : Result Reply Refusal) (reply : Reply) → limited L a ≡ Ok reply → a ≡ Ok reply
limited_ok L a reply h = elim (cases_Bool (ltb (length L) 1000000)) [
  | inl t ↦ rw t at h
  | inr f ↦ let e : Err LogFull ≡ Ok reply = rw f at h in absurd cc
]

-- an answer that may be 60 instead
pub sized_ok : (D : List Command) (a : Result Reply Refusal) (reply : Reply) → sized D a ≡ Ok reply → (is_batch D ≡ true) × (a ≡ Ok reply)
sized_ok D a reply h = elim (cases_Bool (is_batch D)) [
  | inl t ↦ (t, rw t at h)
  | inr f ↦ let e : Err BadBatch ≡ Ok reply = rw f at h in absurd cc
]

-- what an undo adds to the log
abbrev pub IsUndid : ℕ → List Entry → Type 0
IsUndid c E = (E ≡ []) ⊎ ((k : ℕ) × (E ≡ Undid c k ∷ []))

pub entry_undo : (c : ℕ) (reply : Reply) → IsUndid c (entry_of c Undo reply)
entry_undo c (Undone n k) = inr (k, refl)
entry_undo c (Done n) = inl refl
entry_undo c (ProposedAs n p) = inl refl
entry_undo c (Shown P) = inl refl
entry_undo c (Listing names) = inl refl
entry_undo c (Shows pairs) = inl refl

pub entry_undo_at : (c j : ℕ) (reply : Reply) → IsUndid c (entry_of c (UndoAt j) reply)
entry_undo_at c j (Undone n k) = inr (k, refl)
entry_undo_at c j (Done n) = inl refl
entry_undo_at c j (ProposedAs n p) = inl refl
entry_undo_at c j (Shown P) = inl refl
entry_undo_at c j (Listing names) = inl refl
entry_undo_at c j (Shows pairs) = inl refl

-- an entry of commands has 1 to 64 of them
abbrev pub IsSmall : Entry → Type 0
IsSmall e = IfSome (done_by e) (λ p. (1 ≤ length p.1) × (length p.1 ≤ 64))

pub batch_short : (D : List Command) → is_batch D ≡ true → (1 ≤ length D) × (length D ≤ 64)
batch_short D h = let both = and_parts (leb 1 (length D)) (leb (length D) 64) h in (leb-true 1 (length D) both.0, leb-true (length D) 64 both.1)

small_none : (L : List Entry) → All IsSmall L → All IsSmall (L ++ [])
small_none L all = subst (All IsSmall) (sym (append-nil L)) all

small_undid : (L E : List Entry) (c : ℕ) → All IsSmall L → IsUndid c E → All IsSmall (L ++ E)
small_undid L E c all is = elim is [
  | inl none ↦ subst (λ X. All IsSmall (L ++ X)) (sym none) (small_none L all)
  | inr one ↦ subst (λ X. All IsSmall (L ++ X)) (sym one.1) (All-push IsSmall L (Undid c one.0) all tt)
]

small_logged : (T : Recording) (L : List Entry) (c : ℕ) (call : Call) (a : Result Reply Refusal) → answer_of T L c call ≡ a → All IsSmall L → All IsSmall (L ++ logged c call a)
small_logged T L c call (Err why) is all = small_none L all
small_logged T L c (Do d) (Ok reply) is all = All-push IsSmall L (Did c d) all (omega arith, omega arith)
small_logged T L c (DoAll D) (Ok reply) is all =
    let answer : Result Reply Refusal = all_done_or (length L) (applied_all T (board_of T L) (age (length L) 0) D (rows_of T L)) in
    All-push IsSmall L (Batch c D) all (batch_short D (sized_ok D answer reply (limited_ok L (sized D answer) reply is)).0)
small_logged T L c Undo (Ok reply) is all = small_undid L (entry_of c Undo reply) c all (entry_undo c reply)
small_logged T L c (UndoAt j) (Ok reply) is all = small_undid L (entry_of c (UndoAt j) reply) c all (entry_undo_at c j reply)
small_logged T L c (Propose a b P) (Ok reply) is all = All-push IsSmall L (Proposed c a b P) all tt
small_logged T L c (Show x) (Ok reply) is all = small_none L all
small_logged T L c ListNames (Ok reply) is all = small_none L all
small_logged T L c (Races x) (Ok reply) is all = small_none L all

pub legal_small : (T : Recording) (L : List Entry) → IsLegal T L → All IsSmall L
legal_small T _ starts = All-nil IsSmall
legal_small T _ (goes_on L c call low high legal) = small_logged T L c call (answer_of T L c call) refl (legal_small T L legal)

-- and so has a live one
pub small_at : (L : List Entry) (k c : ℕ) (D : List Command) → All IsSmall L → done_in (slice_get L k) ≡ Some (c, D) → (1 ≤ length D) × (length D ≤ 64)
small_at [] k c D all at = absurd cc
small_at (e ∷ L) zero c D all at = let is : done_by e ≡ Some (c, D) = at in subst (λ o. IfSome o (λ (p : ℕ × List Command). (1 ≤ length p.1) × (length p.1 ≤ 64))) is (All-head IsSmall e L all)
small_at (e ∷ L) (suc k) c D all at = small_at L k c D (All-tail IsSmall e L all) at

pub lives_short : (L : List Entry) → All IsSmall L → All IsShort (live_of L)
lives_short L all = All-weaker (IsThere L) IsShort (λ p at. small_at L p.number p.client p.commands all at) (live_of L) (live_theres L)

pub legal_short : (T : Recording) (L : List Entry) → IsLegal T L → All IsShort (live_of L)
legal_short T L legal = lives_short L (legal_small T L legal)
