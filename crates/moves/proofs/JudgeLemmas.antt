-- What a judged command does is what `made_at` says.
use Rattle.std.proofs.Common.{◌≡◌, ℕ, zero, suc, ◌≤◌, true, false, eqb, All, List, [], ◌∷◌, ◌++◌, Option, Some, None, Ok, length, slice_get, take, sym, ap, ◌∙◌, subst, refl}
use Rattle.std.specs.Option.{IfSome, is_some, option_map}
use Rattle.std.specs.Str.{bytes_eq}
use Rattle.std.proofs.lemmas.Bool.{le-leb}
use Rattle.std.proofs.lemmas.List.Elements.{All-head, All-tail}
use Rattle.std.proofs.lemmas.Map.Entries.{All-lookup}
use Rattle.rapid_text.specs.Recording.{Recording}
use Rattle.schedule.specs.Scheduled.{Scheduled}
use Rattle.schedule.specs.Refusals.{refusal_of}
use Rattle.schedule.specs.Swaps.{exchanged, swap_refusal}
use Rattle.moves.specs.declared.row.Row.{Row}
use Rattle.moves.specs.declared.board.Proposal.{Proposal}
use Rattle.moves.specs.declared.command.Command.TheVariants.{Fresh, Add, Back, Swap, Branch, Adopt}
use Rattle.moves.specs.declared.inverse.Step.TheVariants.{Comes, Was, Loses, Gains, Exchanges}
use Rattle.moves.specs.Boards.{IsBoardOf}
use Rattle.moves.specs.Inverses.{gained, restored, in_row}
use Rattle.moves.specs.Judged.{Makes}
use Rattle.moves.specs.Moves.{with_events, new_row, front}
use Rattle.moves.specs.Rows.{Rows, row_of, IsOfTrace}

-- a name's row is of the trace
pub trace_of : (T : Recording) (W : Rows) (x : List ℕ) (r : Row) → IsOfTrace T W → row_of W x ≡ Some r → r.schedule.trace ≡ T
trace_of T W x r all at = subst (λ o. IfSome o (λ (s : Row). s.schedule.trace ≡ T)) at (All-lookup (λ (s : Row). s.schedule.trace ≡ T) (bytes_eq x) W all)

row_by : (W : Rows) (x : List ℕ) (s : Scheduled) (o : Option Row) → row_of W x ≡ o → option_map (λ (r : Row). r.schedule) o ≡ Some s → (r : Row) × (row_of W x ≡ Some r) × (r.schedule ≡ s)
row_by W x s None at is = absurd cc
row_by W x s (Some r) at is = (r, at, cc)

-- a name's schedule lies in its row
pub mapped_row : (W : Rows) (x : List ℕ) (s : Scheduled) → option_map (λ (r : Row). r.schedule) (row_of W x) ≡ Some s → (r : Row) × (row_of W x ≡ Some r) × (r.schedule ≡ s)
mapped_row W x s is = row_by W x s (row_of W x) refl is

pub schedule_trace : (T : Recording) (W : Rows) (x : List ℕ) (s : Scheduled) → IsOfTrace T W → option_map (λ (r : Row). r.schedule) (row_of W x) ≡ Some s → s.trace ≡ T
schedule_trace T W x s all is = let there = mapped_row W x s is in ap (λ (t : Scheduled). t.trace) (sym there.2) ∙ trace_of T W x there.0 all there.1

pub All-got : {X : Type 0} (P : X → Type 0) (xs : List X) (k : ℕ) → All P xs → IfSome (slice_get xs k) P
All-got P [] k all = tt
All-got P (x ∷ xs) zero all = All-head P x xs all
All-got P (x ∷ xs) (suc k) all = All-got P xs k (All-tail P x xs all)

-- a proposal's schedule is of the trace
pub board_trace : (T : Recording) (B : List Proposal) (k : ℕ) (p : Proposal) → slice_get B k ≡ Some p → IsBoardOf T B → p.schedule.trace ≡ T
board_trace T B k p on all = subst (λ o. IfSome o (λ (q : Proposal). q.schedule.trace ≡ T)) on (All-got (λ (q : Proposal). q.schedule.trace ≡ T) B k all)

module _ (T : Recording) (B : List Proposal) (W : Rows) (x : List ℕ) where
  pub fresh_made : row_of W x ≡ None → (n : ℕ) → Makes T B n (Fresh x) W (Comes (new_row T n []))
  fresh_made none n = (Some (new_row T n []), rw none refl, rw none refl)

  adopt_by : (o : Option Row) → row_of W x ≡ o → is_some o ≡ true → IsOfTrace T W → (k : ℕ) (p : Proposal) → slice_get B k ≡ Some p
      → (n : ℕ) → Makes T B n (Adopt x k) W (Was (record { trace = T; events = p.schedule.events }))
  adopt_by None at there all k p on n = absurd cc
  adopt_by (Some r) at there all k p on n =
      let same : (record { trace = T; events = p.schedule.events }) ≡ (record { trace = r.schedule.trace; events = p.schedule.events }) = λ i. record { trace = sym (trace_of T W x r all at) i; events = p.schedule.events } in
      (Some (with_events r p.schedule.events), rw (at, on) refl, rw at (ap (λ (t : Scheduled). in_row r (Some t)) same))

  pub adopt_made : is_some (row_of W x) ≡ true → IsOfTrace T W → (k : ℕ) (p : Proposal) → slice_get B k ≡ Some p
      → (n : ℕ) → Makes T B n (Adopt x k) W (Was (record { trace = T; events = p.schedule.events }))
  adopt_made there = adopt_by (row_of W x) refl there

  module _ (s : Scheduled) (has : option_map (λ (r : Row). r.schedule) (row_of W x) ≡ Some s) (trace : s.trace ≡ T) where
    abbrev r : Row
    r = (mapped_row W x s has).0

    at : row_of W x ≡ Some r
    at = (mapped_row W x s has).1

    is : r.schedule ≡ s
    is = (mapped_row W x s has).2

    -- what is told of the schedule holds of the row's, of the trace T and of its own
    there : (P : Recording → Scheduled → Type 0) → P s.trace s → P T r.schedule
    there P told = subst (λ U. P U r.schedule) trace (subst (P s.trace) (sym is) told)

    own : (P : Scheduled → Type 0) → P s → P r.schedule
    own P told = subst P (sym is) told

    pub add_made : (e : ℕ) → refusal_of s.trace.events s.events e ≡ None → (n : ℕ) → Makes T B n (Add x e) W (Gains e)
    add_made e may n =
        let forth : refusal_of T.events r.schedule.events e ≡ None = there (λ U t. refusal_of U.events t.events e ≡ None) may in
        let step : refusal_of r.schedule.trace.events r.schedule.events e ≡ None = own (λ t. refusal_of t.trace.events t.events e ≡ None) may in
        (Some (with_events r (r.schedule.events ++ e ∷ [])), rw (at, forth) refl, rw at (ap (λ o. in_row r (gained r.schedule e o)) step))

    pub back_made : eqb (length s.events) 0 ≡ false → (n : ℕ) → Makes T B n (Back x) W Loses
    back_made some n =
        let here : eqb (length r.schedule.events) 0 ≡ false = own (λ t. eqb (length t.events) 0 ≡ false) some in
        (Some (with_events r (front r.schedule.events)), rw (at, here) refl, rw (at, here) refl)

    pub swap_made : (k : ℕ) → swap_refusal s.trace.events s.events k ≡ None → (n : ℕ) → Makes T B n (Swap x k) W (Exchanges k)
    swap_made k may n =
        let forth : swap_refusal T.events r.schedule.events k ≡ None = there (λ U t. swap_refusal U.events t.events k ≡ None) may in
        let step : swap_refusal r.schedule.trace.events r.schedule.events k ≡ None = own (λ t. swap_refusal t.trace.events t.events k ≡ None) may in
        (Some (with_events r (exchanged r.schedule.events k)), rw (at, forth) refl, rw at (ap (λ o. in_row r (restored r.schedule k o)) step))

    pub branch_made : (k : ℕ) (to : List ℕ) → row_of W to ≡ None → k ≤ length s.events → (n : ℕ) → Makes T B n (Branch x k to) W (Comes (new_row T n (take k s.events)))
    branch_made k to none fits n =
        let here : k ≤ length r.schedule.events = own (λ t. k ≤ length t.events) fits in (
          Some (new_row T n (take k s.events)),
          rw (none, at, le-leb k (length r.schedule.events) here) (ap (λ (t : Scheduled). Ok (Some (new_row T n (take k t.events)))) is),
          rw none refl,
        )
