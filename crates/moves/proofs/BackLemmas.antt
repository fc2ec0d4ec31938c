-- What an applied command leaves for the next one, and that its inverse takes it back.
use Rattle.std.proofs.Common.{◌≡◌, ◌≢◌, inl, inr, ℕ, ◌+◌, ◌<◌, eqb, leb, List, [], ◌∷◌, ◌++◌, Option, Some, None, Result, Ok, Err, length, slice_get, sym, ap, subst, ◌∙◌, refl, arith}
use Rattle.std.specs.Map.{remove_entry}
use Rattle.std.specs.Option.{IfSome}
use Rattle.std.specs.Result.{IfOk}
use Rattle.std.specs.Str.{bytes_eq}
use Rattle.std.proofs.lemmas.Bool.{cases_Bool, cond_both}
use Rattle.std.proofs.lemmas.Map.Entries.{All-lookup}
use Rattle.rapid_text.specs.Recording.{Recording}
use Rattle.schedule.specs.declared.refusal.Disabled.{Disabled}
use Rattle.schedule.specs.declared.refusal.SwapRefusal.{SwapRefusal}
use Rattle.schedule.specs.Refusals.{refusal_of}
use Rattle.schedule.specs.Swaps.{exchanged, swap_refusal}
use Rattle.moves.specs.declared.row.Row.{Row}
use Rattle.moves.specs.declared.board.Proposal.{Proposal}
use Rattle.moves.specs.declared.command.Command.{Command}
use Rattle.moves.specs.declared.command.Command.TheVariants.{Fresh, Add, Back, Swap, Branch, Drop, Adopt}
use Rattle.moves.specs.declared.refusal.MoveRefusal.{MoveRefusal}
use Rattle.moves.specs.declared.inverse.Step.{Step}
use Rattle.moves.specs.declared.inverse.Step.TheVariants.{Goes, Comes, Was, Loses, Gains, Exchanges}
use Rattle.moves.specs.declared.inverse.Inverse.{Inverse}
use Rattle.moves.specs.Rows.{Rows, row_of, with_row, IsListing, IsFree, IsOfTrace, Below}
use Rattle.moves.specs.Commands.{writes, reads}
use Rattle.moves.specs.Moves.{made, made_at, added, swapped, adopted, front}
use Rattle.moves.specs.Inverses.{with_list, gained, restored, in_row, turned, CanTurn, IsTurned, IsStepOf, IsStepBelow}
use Rattle.moves.specs.Applied.{IsApplied, TakesBack}
use Rattle.moves.proofs.RowLemmas.{All-removed, All-put, with_row-other}
use Rattle.moves.proofs.ChainLemmas.{IsPlain, plain_more, plain_step}
use Rattle.moves.proofs.UndoLemmas.{free_here, row_updated}
use Rattle.moves.specs.Rising.{with_schedule}
use Rattle.moves.proofs.TurnLemmas.{applied_parts, refused_same, listing-applied}

-- the row, where there is one, is of the trace
abbrev pub Traced : Recording → Option Row → Type 0
Traced T o = IfSome o (λ (r : Row). r.schedule.trace ≡ T)

module _ (T : Recording) where
  added_traced : (r : Row) (e : ℕ) (q : Option Disabled) → r.schedule.trace ≡ T → IfOk (added r e q) (Traced T)
  added_traced r e None is = is
  added_traced r e (Some cause) is = tt

  swapped_traced : (r : Row) (i : ℕ) (q : Option SwapRefusal) → r.schedule.trace ≡ T → IfOk (swapped r i q) (Traced T)
  swapped_traced r i None is = is
  swapped_traced r i (Some cause) is = tt

  adopted_traced : (r : Row) (q : Option Proposal) → r.schedule.trace ≡ T → IfOk (adopted r q) (Traced T)
  adopted_traced r None is = tt
  adopted_traced r (Some p) is = is

  made_traced : (B : List Proposal) (n : ℕ) (d : Command) (mine theirs : Option Row) → Traced T mine → IfOk (made T B n d mine theirs) (Traced T)
  made_traced B n (Fresh x) None theirs is = refl
  made_traced B n (Fresh x) (Some r) theirs is = tt
  made_traced B n (Add x e) None theirs is = tt
  made_traced B n (Add x e) (Some r) theirs is = added_traced r e (refusal_of T.events r.schedule.events e) is
  made_traced B n (Back x) None theirs is = tt
  made_traced B n (Back x) (Some r) theirs is = cond_both (eqb (length r.schedule.events) 0) _ _ (λ (o : Result (Option Row) MoveRefusal). IfOk o (Traced T)) (λ _. tt) (λ _. is)
  made_traced B n (Swap x i) None theirs is = tt
  made_traced B n (Swap x i) (Some r) theirs is = swapped_traced r i (swap_refusal T.events r.schedule.events i) is
  made_traced B n (Branch x k to) None None is = tt
  made_traced B n (Branch x k to) (Some r) None is = tt
  made_traced B n (Branch x k to) (Some r) (Some s) is = tt
  made_traced B n (Branch x k to) None (Some s) is = cond_both (leb k (length s.schedule.events)) _ _ (λ (o : Result (Option Row) MoveRefusal). IfOk o (Traced T)) (λ _. refl) (λ _. tt)
  made_traced B n (Drop x) None theirs is = tt
  made_traced B n (Drop x) (Some r) theirs is = tt
  made_traced B n (Adopt x p) None theirs is = tt
  made_traced B n (Adopt x p) (Some r) theirs is = adopted_traced r (slice_get B p) is

  pub traced_row : (W : Rows) (x : List ℕ) (o : Option Row) → IsOfTrace T W → Traced T o → IsOfTrace T (with_row W x o)
  traced_row W x None all is = All-removed (λ (q : List ℕ × Row). q.1.schedule.trace ≡ T) W x all
  traced_row W x (Some r) all is = All-put (λ (q : List ℕ × Row). q.1.schedule.trace ≡ T) (remove_entry (bytes_eq x) W) x r is
      (All-removed (λ (q : List ℕ × Row). q.1.schedule.trace ≡ T) W x all)

  -- the schedules are of the same trace after a command
  pub traced_made : (B : List Proposal) (n : ℕ) (d : Command) (W : Rows) (o : Option Row) → IsOfTrace T W → made_at T B n d W ≡ Ok o → IsOfTrace T (with_row W (writes d) o)
  traced_made B n d W o all makes =
      let mine : Traced T (row_of W (writes d)) = All-lookup (λ (r : Row). r.schedule.trace ≡ T) (bytes_eq (writes d)) W all in
      traced_row W (writes d) o all (subst (λ (q : Result (Option Row) MoveRefusal). IfOk q (Traced T)) makes (made_traced B n d (row_of W (writes d)) (row_of W (reads d)) mine))

module _ (T : Recording) (B : List Proposal) (n : ℕ) (d : Command) (W V : Rows) where
  -- the schedules are of the same trace afterwards
  pub of_trace-applied : (r : Result Inverse MoveRefusal) → IsOfTrace T W → IsApplied T B n d W V r → IsOfTrace T V
  of_trace-applied (Ok inverse) all h =
      let p = applied_parts T B n d W V h.0 in
      subst (IsOfTrace T) p.2 (traced_made T B n d W p.0 all p.1)
  of_trace-applied (Err why) all h = subst (IsOfTrace T) (sym (refused_same T B n d W V why h)) all

  -- all births are below the next one afterwards
  pub below-applied : (r : Result Inverse MoveRefusal) → IsListing W → Below n W → IsApplied T B n d W V r → Below (n + 1) V
  below-applied (Ok inverse) l low h =
      let p = applied_parts T B n d W V h.0 in
      let plain : IsPlain n W = record { listing = l; low = low } in
      subst (Below (n + 1)) p.2 (plain_step T B n d W p.0 plain p.1).low
  below-applied (Err why) l low h =
      let plain : IsPlain n W = record { listing = l; low = low } in
      subst (Below (n + 1)) (sym (refused_same T B n d W V why h)) (plain_more n (n + 1) W (omega arith) plain).low

  -- an inverse takes its command back
  takes_back : (x : List ℕ) (step : Step) (o : Option Row) → IsListing W → IsListing V → with_row W x o ≡ V → turned step (row_of V x) ≡ Some (row_of W x)
      → CanTurn x step V × ((U : Rows) → IsTurned x step V U → U ≡ W)
  takes_back x step o l after is back =
      let agree : (y : List ℕ) → y ≢ x → row_of W y ≡ row_of V y = λ y apart. sym (with_row-other W x y o apart) ∙ ap (λ U. row_of U y) is in
      let free : IsFree V x (row_of W x) = free_here x V W (row_of W x) l refl agree in (
        (row_of W x, back, free),
        λ U there.
            let same : there.0 ≡ row_of W x = let e : Some there.0 ≡ Some (row_of W x) = sym there.1 ∙ back in cc in
            there.2 ∙ ap (with_row V x) same ∙ sym (row_updated x V (row_of W x) W after l agree refl free),
      )

  pub taken_back : (r : Result Inverse MoveRefusal) → IsListing W → Below n W → IsApplied T B n d W V r → IfOk r (λ inverse. TakesBack inverse V W)
  taken_back (Ok inverse) l low h =
      let p = applied_parts T B n d W V h.0 in
      let after : IsListing V = listing-applied T B n d W V (Ok inverse) l low h in
      subst (λ x. CanTurn x inverse.step V × ((U : Rows) → IsTurned x inverse.step V U → U ≡ W)) (sym h.1) (takes_back (writes d) inverse.step p.0 l after p.2 h.2.0)
  taken_back (Err why) l low h = tt

-- A fact of rows that a step keeps: it is told of what the step puts in, and stays where a row's events change.
abbrev pub Puts : (Row → Type 0) → Step → Type 0
Puts P (Comes r) = P r
Puts P (Was s) = (r : Row) → P r → P (with_schedule r s)
Puts P step = Unit {0}

module _ (P : Row → Type 0) (stays : (r : Row) (Q : List ℕ) → P r → P (with_schedule r (with_list r.schedule Q))) where
  told : (o q : Option Row) → Some q ≡ Some o → IfSome q P → IfSome o P
  told o q is h = let same : q ≡ o = cc in subst (λ z. IfSome z P) same h

  gained_keeps : (r : Row) (e : ℕ) (o : Option Row) (q : Option Disabled) → P r → in_row r (gained r.schedule e q) ≡ Some o → IfSome o P
  gained_keeps r e o None h is = told o (Some (with_schedule r (with_list r.schedule (r.schedule.events ++ e ∷ [])))) is (stays r (r.schedule.events ++ e ∷ []) h)
  gained_keeps r e o (Some cause) h is = absurd cc

  restored_keeps : (r : Row) (i : ℕ) (o : Option Row) (q : Option SwapRefusal) → P r → in_row r (restored r.schedule i q) ≡ Some o → IfSome o P
  restored_keeps r i o None h is = told o (Some (with_schedule r (with_list r.schedule (exchanged r.schedule.events i)))) is (stays r (exchanged r.schedule.events i) h)
  restored_keeps r i o (Some cause) h is = absurd cc

  pub turned_keeps : (step : Step) (before o : Option Row) → Puts P step → IfSome before P → turned step before ≡ Some o → IfSome o P
  turned_keeps Goes None o puts h is = absurd cc
  turned_keeps Goes (Some r) o puts h is = told o None is tt
  turned_keeps (Comes r) None o puts h is = told o (Some r) is puts
  turned_keeps (Comes r) (Some s) o puts h is = absurd cc
  turned_keeps (Was s) None o puts h is = absurd cc
  turned_keeps (Was s) (Some r) o puts h is = told o (Some (with_schedule r s)) is (puts r h)
  turned_keeps Loses None o puts h is = absurd cc
  turned_keeps Loses (Some r) o puts h is = elim (cases_Bool (eqb (length r.schedule.events) 0)) [
    | inl e ↦ let none : None ≡ Some o = rw e at is in absurd cc
    | inr e ↦ told o (Some (with_schedule r (with_list r.schedule (front r.schedule.events)))) (rw e at is) (stays r (front r.schedule.events) h)
  ]
  turned_keeps (Gains e) None o puts h is = absurd cc
  turned_keeps (Gains e) (Some r) o puts h is = gained_keeps r e o (refusal_of r.schedule.trace.events r.schedule.events e) h is
  turned_keeps (Exchanges i) None o puts h is = absurd cc
  turned_keeps (Exchanges i) (Some r) o puts h is = restored_keeps r i o (swap_refusal r.schedule.trace.events r.schedule.events i) h is

-- the rows stay of the trace after a step
module _ (T : Recording) where
  puts_trace : (step : Step) → IsStepOf T step → Puts (λ (r : Row). r.schedule.trace ≡ T) step
  puts_trace Goes h = tt
  puts_trace (Comes r) h = h
  puts_trace (Was s) h = λ r _. h
  puts_trace Loses h = tt
  puts_trace (Gains e) h = tt
  puts_trace (Exchanges i) h = tt

  pub of_trace-turned : (x : List ℕ) (step : Step) (W V : Rows) → IsStepOf T step → IsOfTrace T W → IsTurned x step W V → IsOfTrace T V
  of_trace-turned x step W V s all is =
      let mine : Traced T (row_of W x) = All-lookup (λ (r : Row). r.schedule.trace ≡ T) (bytes_eq x) W all in
      subst (IsOfTrace T) (sym is.2) (traced_row T W x is.0 all (turned_keeps (λ (r : Row). r.schedule.trace ≡ T) (λ r Q h. h) step (row_of W x) is.0 (puts_trace step s) mine is.1))

  -- what a step that leads back puts in is of the trace
  pub step_traced : (step : Step) (before after : Option Row) → turned step after ≡ Some before → Traced T before → IsStepOf T step
  step_traced Goes before after is h = tt
  step_traced (Comes r) before None is h = let same : Some r ≡ before = cc in subst (Traced T) (sym same) h
  step_traced (Comes r) before (Some s) is h = absurd cc
  step_traced (Was s) before None is h = absurd cc
  step_traced (Was s) before (Some r) is h = let same : Some (with_schedule r s) ≡ before = cc in subst (Traced T) (sym same) h
  step_traced Loses before after is h = tt
  step_traced (Gains e) before after is h = tt
  step_traced (Exchanges i) before after is h = tt

-- births stay below n after a step
module _ (n : ℕ) where
  puts_below : (step : Step) → IsStepBelow n step → Puts (λ (r : Row). r.birth < n) step
  puts_below Goes h = tt
  puts_below (Comes r) h = h
  puts_below (Was s) h = λ r k. k
  puts_below Loses h = tt
  puts_below (Gains e) h = tt
  puts_below (Exchanges i) h = tt

  pub below-turned : (x : List ℕ) (step : Step) (W V : Rows) → IsStepBelow n step → Below n W → IsTurned x step W V → Below n V
  below-turned x step W V s all is =
      let mine : IfSome (row_of W x) (λ (r : Row). r.birth < n) = All-lookup (λ (r : Row). r.birth < n) (bytes_eq x) W all in
      subst (Below n) (sym is.2) (below_row x is.0 (turned_keeps (λ (r : Row). r.birth < n) (λ r Q h. h) step (row_of W x) is.0 (puts_below step s) mine is.1))
    where
      below_row : (x : List ℕ) (o : Option Row) → IfSome o (λ (r : Row). r.birth < n) → Below n (with_row W x o)
      below_row x None h = All-removed (λ (q : List ℕ × Row). q.1.birth < n) W x all
      below_row x (Some r) h = All-put (λ (q : List ℕ × Row). q.1.birth < n) (remove_entry (bytes_eq x) W) x r h (All-removed (λ (q : List ℕ × Row). q.1.birth < n) W x all)

  pub step_below : (step : Step) (before after : Option Row) → turned step after ≡ Some before → IfSome before (λ (r : Row). r.birth < n) → IsStepBelow n step
  step_below Goes before after is h = tt
  step_below (Comes r) before None is h = let same : Some r ≡ before = cc in subst (λ o. IfSome o (λ (r : Row). r.birth < n)) (sym same) h
  step_below (Comes r) before (Some s) is h = absurd cc
  step_below (Was s) before after is h = tt
  step_below Loses before after is h = tt
  step_below (Gains e) before after is h = tt
  step_below (Exchanges i) before after is h = tt

module _ (T : Recording) (B : List Proposal) (n : ℕ) (d : Command) (W V : Rows) where
  -- so the inverse of a command is of the trace, and brings no later birth
  pub traced-inverse : (r : Result Inverse MoveRefusal) → IsOfTrace T W → IsApplied T B n d W V r → IfOk r (λ inverse. IsStepOf T inverse.step)
  traced-inverse (Ok inverse) all h = step_traced T inverse.step (row_of W (writes d)) (row_of V (writes d)) h.2.0 (All-lookup (λ (r : Row). r.schedule.trace ≡ T) (bytes_eq (writes d)) W all)
  traced-inverse (Err why) all h = tt

  pub below-inverse : (r : Result Inverse MoveRefusal) → Below n W → IsApplied T B n d W V r → IfOk r (λ inverse. IsStepBelow n inverse.step)
  below-inverse (Ok inverse) all h = step_below n inverse.step (row_of W (writes d)) (row_of V (writes d)) h.2.0 (All-lookup (λ (r : Row). r.birth < n) (bytes_eq (writes d)) W all)
  below-inverse (Err why) all h = tt
