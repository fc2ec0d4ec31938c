-- Each row's schedule stays one of the trace, and a correct reordering.
use Rattle.std.proofs.Common.{◌≡◌, ℕ, ◌-◌, eqb, leb, List, [], ◌∷◌, Option, Some, None, Result, length, slice_get, subst, arith, refl}
use Rattle.std.specs.Option.{IfSome}
use Rattle.std.specs.Result.{IfOk}
use Rattle.std.specs.Str.{bytes_eq}
use Rattle.std.specs.Map.{remove_entry}
use Rattle.std.proofs.lemmas.Bool.{cond_both, leb-true}
use Rattle.std.proofs.lemmas.List.Elements.{All-nil, All-weaker}
use Rattle.std.proofs.lemmas.Map.Entries.{All-lookup}
use Rattle.rapid_text.specs.Recording.{Recording}
use Rattle.trace_rules.specs.Rules.{IsDisciplined}
use Rattle.schedule.specs.declared.refusal.Disabled.{Disabled}
use Rattle.schedule.specs.declared.refusal.SwapRefusal.{SwapRefusal}
use Rattle.schedule.specs.Refusals.{refusal_of}
use Rattle.schedule.specs.Reordering.{IsCorrectReordering}
use Rattle.schedule.specs.Swaps.{swap_refusal}
use Rattle.schedule.proofs.CallerLemmas.{IsEnabled-none, IsCorrectReordering-nil, IsCorrectReordering-take, IsCorrectReordering-exchanged, MayExchange-none}
use Rattle.moves.specs.declared.row.Row.{Row}
use Rattle.moves.specs.declared.board.Proposal.{Proposal}
use Rattle.moves.specs.declared.command.Command.{Command}
use Rattle.moves.specs.declared.command.Command.TheVariants.{Fresh, Add, Back, Swap, Branch, Drop, Adopt}
use Rattle.moves.specs.declared.refusal.MoveRefusal.{MoveRefusal}
use Rattle.moves.specs.Rows.{Rows, row_of, with_row, IsOfTrace, AreReorderings, IsReordering}
use Rattle.moves.specs.Boards.{AreProposed}
use Rattle.moves.specs.Commands.{writes, reads}
use Rattle.moves.specs.Moves.{made, added, swapped, adopted}
use Rattle.moves.specs.Fold.{Numbered, Leads}
use Rattle.moves.proofs.JudgeLemmas.{All-got}
use Rattle.moves.proofs.RowLemmas.{All-removed, All-put}

-- a list of reorderings is one of schedules of the trace
pub IsOfTrace-kept : (T : Recording) (W : Rows) → AreReorderings T W → IsOfTrace T W
IsOfTrace-kept T W all = All-weaker (λ (q : List ℕ × Row). IsReordering T q.1) (λ (q : List ℕ × Row). q.1.schedule.trace ≡ T) (λ q h. h.0) W all

module _ (T : Recording) (B : List Proposal) (disciplined : IsDisciplined T.events) (proposed : AreProposed T B) where
  abbrev Kept : Option Row → Type 0
  Kept o = IfSome o (IsReordering T)

  added_kept : (r : Row) (e : ℕ) (q : Option Disabled) → refusal_of T.events r.schedule.events e ≡ q → IsReordering T r → IfOk (added r e q) Kept
  added_kept r e None is k = (k.0, IsEnabled-none T.events r.schedule.events e disciplined k.1 is)
  added_kept r e (Some cause) is k = tt

  swapped_kept : (r : Row) (i : ℕ) (q : Option SwapRefusal) → swap_refusal T.events r.schedule.events i ≡ q → IsReordering T r → IfOk (swapped r i q) Kept
  swapped_kept r i None is k = (k.0, IsCorrectReordering-exchanged T.events r.schedule.events i (MayExchange-none T.events r.schedule.events i is) k.1)
  swapped_kept r i (Some cause) is k = tt

  adopted_kept : (r : Row) (q : Option Proposal) → IfSome q (λ (p : Proposal). IsCorrectReordering T.events p.schedule.events) → IsReordering T r → IfOk (adopted r q) Kept
  adopted_kept r None is k = tt
  adopted_kept r (Some p) is k = (k.0, is)

  made_kept : (n : ℕ) (d : Command) (mine theirs : Option Row) → Kept mine → Kept theirs → IfOk (made T B n d mine theirs) Kept
  made_kept n (Fresh x) None theirs km kt = (refl, IsCorrectReordering-nil T.events)
  made_kept n (Fresh x) (Some r) theirs km kt = tt
  made_kept n (Add x e) None theirs km kt = tt
  made_kept n (Add x e) (Some r) theirs km kt = added_kept r e (refusal_of T.events r.schedule.events e) refl km
  made_kept n (Back x) None theirs km kt = tt
  made_kept n (Back x) (Some r) theirs km kt = cond_both (eqb (length r.schedule.events) 0) _ _ (λ (o : Result (Option Row) MoveRefusal). IfOk o Kept) (λ _. tt)
      (λ _. (km.0, IsCorrectReordering-take T.events r.schedule.events (length r.schedule.events - 1) (omega arith) km.1))
  made_kept n (Swap x i) None theirs km kt = tt
  made_kept n (Swap x i) (Some r) theirs km kt = swapped_kept r i (swap_refusal T.events r.schedule.events i) refl km
  made_kept n (Branch x k to) None None km kt = tt
  made_kept n (Branch x k to) (Some r) None km kt = tt
  made_kept n (Branch x k to) (Some r) (Some s) km kt = tt
  made_kept n (Branch x k to) None (Some s) km kt = cond_both (leb k (length s.schedule.events)) _ _ (λ (o : Result (Option Row) MoveRefusal). IfOk o Kept)
      (λ le. (refl, IsCorrectReordering-take T.events s.schedule.events k (leb-true k (length s.schedule.events) le) kt.1)) (λ _. tt)
  made_kept n (Drop x) None theirs km kt = tt
  made_kept n (Drop x) (Some r) theirs km kt = tt
  made_kept n (Adopt x p) None theirs km kt = tt
  made_kept n (Adopt x p) (Some r) theirs km kt = adopted_kept r (slice_get B p) (All-got (λ (p : Proposal). IsCorrectReordering T.events p.schedule.events) B p proposed) km

  with_kept : (W : Rows) (x : List ℕ) (o : Option Row) → AreReorderings T W → Kept o → AreReorderings T (with_row W x o)
  with_kept W x None all k = All-removed (λ (q : List ℕ × Row). IsReordering T q.1) W x all
  with_kept W x (Some r) all k = All-put (λ (q : List ℕ × Row). IsReordering T q.1) (remove_entry (bytes_eq x) W) x r k (All-removed (λ (q : List ℕ × Row). IsReordering T q.1) W x all)

  row_kept : (W : Rows) (x : List ℕ) → AreReorderings T W → Kept (row_of W x)
  row_kept W x all = All-lookup (IsReordering T) (bytes_eq x) W all

  -- commands lead from correct reorderings to correct reorderings
  pub leads_kept : (R : Numbered → Option Row → Option Row → Type 0) (E : List Numbered) (W V : Rows) → AreReorderings T W → Leads T B R W E V → AreReorderings T V
  leads_kept R [] W V all leads = subst (AreReorderings T) leads all
  leads_kept R (e ∷ E) W V all leads =
      let o : Option Row = leads.0 in
      let kept : Kept o = subst (λ (q : Result (Option Row) MoveRefusal). IfOk q Kept) leads.1
      (made_kept e.0 e.1 (row_of W (writes e.1)) (row_of W (reads e.1)) (row_kept W (writes e.1) all) (row_kept W (reads e.1) all)) in
      leads_kept R E (with_row W (writes e.1) o) V (with_kept W (writes e.1) o all kept) leads.3

-- the rows of which there are none
pub AreReorderings-nil : (T : Recording) → AreReorderings T []
AreReorderings-nil T = All-nil (λ (q : List ℕ × Row). IsReordering T q.1)
