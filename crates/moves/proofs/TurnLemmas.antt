-- A step of a row, told by a step of its schedule; what a judged command is once its step is taken.
use Rattle.std.proofs.Common.{◌≡◌, ◌≢◌, ℕ, true, List, Option, Some, None, Result, Ok, Err, sym, ap, subst, ◌∙◌, refl}
use Rattle.std.specs.BTreeMap.{is_at}
use Rattle.std.specs.Map.{lookup, set_value, values_of}
use Rattle.std.specs.Ordering.{nat_cmp}
use Rattle.std.specs.Result.{IsOk, IfOk, OnOk, OnErr}
use Rattle.std.specs.Option.{IfSome}
use Rattle.std.specs.Str.{bytes_eq}
use Rattle.std.proofs.lemmas.Map.Entries.{All-lookup}
use Rattle.std.proofs.lemmas.Map.Steps.{set_value_same}
use Rattle.rapid_text.specs.Recording.{Recording}
use Rattle.schedule.specs.Scheduled.{Scheduled}
use Rattle.moves.specs.declared.row.Row.{Row}
use Rattle.moves.specs.declared.board.Proposal.{Proposal}
use Rattle.moves.specs.declared.command.Command.{Command}
use Rattle.moves.specs.declared.refusal.MoveRefusal.{MoveRefusal}
use Rattle.moves.specs.declared.refusal.MoveRefusal.TheVariants.{NoSuchSchedule, NameTaken, NoSuchProposal, NothingToRetract, Disabled, Swap, TooShort, OutOfMemory}
use Rattle.moves.specs.declared.inverse.Step.{Step}
use Rattle.moves.specs.declared.inverse.Step.TheVariants.{Goes, Comes, Was, Loses, Gains, Exchanges}
use Rattle.moves.specs.declared.inverse.Inverse.{Inverse}
use Rattle.moves.specs.Applied.{IsAt, IsApplied}
use Rattle.moves.specs.Births.{IsHeld}
use Rattle.moves.specs.Rising.{CanStep, IsStepped, StepsAt, with_schedule}
use Rattle.moves.specs.Rows.{Rows, row_of, put_in, with_row, IsListing, IsFree, IsOfTrace, Below}
use Rattle.moves.specs.Commands.{writes}
use Rattle.moves.specs.Judged.{Makes, IsJudged}
use Rattle.moves.specs.Moves.{made_at, applied, put_made}
use Rattle.moves.specs.Inverses.{stepped, in_row, turned, is_change, IsReordered, Fits, CanTurn, IsTurned}
use Rattle.moves.proofs.BirthLemmas.{in_tree, held_set}
use Rattle.moves.proofs.ChainLemmas.{IsPlain, plain_step, made_free}
use Rattle.moves.proofs.RowLemmas.{listing-with_row, with_row-same, put_same, removed_none}

pub turned_stepped : (step : Step) (r : Row) (t : Scheduled) → stepped step r.schedule ≡ Some t → turned step (Some r) ≡ Some (Some (with_schedule r t))
turned_stepped Goes r t is = absurd cc
turned_stepped (Comes q) r t is = absurd cc
turned_stepped (Was s) r t is = ap (in_row r) is
turned_stepped Loses r t is = ap (in_row r) is
turned_stepped (Gains e) r t is = ap (in_row r) is
turned_stepped (Exchanges k) r t is = ap (in_row r) is

-- a step that leaves the row there, and can be taken there, can be taken of its schedule
turned_may : (step : Step) (r : Row) (o : Option Row) → is_change step ≡ true → turned step (Some r) ≡ Some o → stepped step r.schedule ≢ None
turned_may Goes r o stays is none = absurd cc
turned_may (Comes q) r o stays is none = absurd cc
turned_may (Was s) r o stays is none = absurd cc
turned_may Loses r o stays is none = let gone : in_row r (stepped Loses r.schedule) ≡ None = ap (in_row r) none in absurd cc
turned_may (Gains e) r o stays is none = let gone : in_row r (stepped (Gains e) r.schedule) ≡ None = ap (in_row r) none in absurd cc
turned_may (Exchanges k) r o stays is none = let gone : in_row r (stepped (Exchanges k) r.schedule) ≡ None = ap (in_row r) none in absurd cc

-- a row that comes
pub comes_turned : (W V : Rows) (x : List ℕ) (r : Row) (step : Step) → row_of W x ≡ None → step ≡ Comes r → V ≡ put_in x r W → IsTurned x step W V
comes_turned W V x r step none s is = (Some r, rw (s, none) refl, is ∙ ap (put_in x r) (sym (removed_none W x none)))

pub comes_fits : (W V : Rows) (x : List ℕ) (r : Row) → row_of W x ≡ None → V ≡ put_in x r W → Fits Goes (row_of W x) (row_of V x)
comes_fits W V x r none is = (ap (turned Goes) (ap (λ S. row_of S x) is ∙ put_same W x r none) ∙ ap Some (sym none), subst IsReordered (sym none) tt)

-- The row of x, whose birth is b, goes a step; `old` are the rows before.
module _ (N : List (List ℕ × ℕ)) (M : List (ℕ × (List ℕ × Row))) (held : IsHeld N M) (old : Rows) (is_old : values_of M ≡ old) (x : List ℕ) (b a : ℕ) (age : a ≡ b) (found : IsAt old b x) where
  at : IsAt (values_of M) a x
  at = subst (λ S. IsAt S a x) (sym is_old) (subst (λ n. IsAt old n x) (sym age) found)

  abbrev row : Row
  row = at.0

  there : lookup (is_at (nat_cmp a)) M ≡ Some (x, row)
  there = in_tree N M held a ∙ at.1

  row_there : row_of old x ≡ Some row
  row_there = sym (ap (λ S. row_of S x) is_old) ∙ at.2

  pub change_may : (T : Recording) (step : Step) → IsOfTrace T old → is_change step ≡ true → CanTurn x step old → CanStep T a step M
  change_may T step of_trace stays can =
      let trace : row.schedule.trace ≡ T = subst (λ o. IfSome o (λ (r : Row). r.schedule.trace ≡ T)) row_there (All-lookup (λ (r : Row). r.schedule.trace ≡ T) (bytes_eq x) old of_trace) in
      ((x, row), there, trace, turned_may step row can.0 stays (sym (ap (turned step) row_there) ∙ can.1))

  module _ (U : List (ℕ × (List ℕ × Row))) (step : Step) (q : Result Step Step) (steps : IsStepped a step M U q) where
    taken : StepsAt a step M U q (x, row)
    taken = subst (λ o. IfSome o (StepsAt a step M U q)) there steps

    is_set : (values_of U ≡ with_row (values_of M) x (Some (with_schedule row taken.0))) × IsHeld N U
    is_set = held_set N M held U a (x, row) (with_schedule row taken.0) there refl taken.1

    pub change_held : IsHeld N U
    change_held = is_set.1

    rows_set : values_of U ≡ with_row old x (Some (with_schedule row taken.0))
    rows_set = is_set.0 ∙ ap (λ S. with_row S x (Some (with_schedule row taken.0))) is_old

    pub change_turned : OnOk q (IsTurned x step old (values_of U))
    change_turned = by q taken.2
      where
        by : (q : Result Step Step) → IfOk q (λ back. stepped step row.schedule ≡ Some taken.0) → OnOk q (IsTurned x step old (values_of U))
        by (Ok back) is = (Some (with_schedule row taken.0), ap (turned step) row_there ∙ turned_stepped step row taken.0 is, rows_set)
        by (Err e) is = tt

    pub change_fits : IfOk q (λ back. Fits back (row_of old x) (row_of (values_of U) x))
    change_fits = by q taken.3
      where
        by : (q : Result Step Step) → IfOk q (λ back. stepped back taken.0 ≡ Some row.schedule) → IfOk q (λ back. Fits back (row_of old x) (row_of (values_of U) x))
        by (Ok back) is =
            let listed : IsListing old = subst IsListing is_old held.listing in
            let now : row_of (values_of U) x ≡ Some (with_schedule row taken.0) = ap (λ S. row_of S x) rows_set ∙ with_row-same old x (Some (with_schedule row taken.0)) listed in
            (ap (turned back) now ∙ turned_stepped back (with_schedule row taken.0) row.schedule is ∙ ap Some (sym row_there), subst IsReordered (sym row_there) taken.5)
        by (Err e) is = tt

    pub change_none : OnErr q (values_of U ≡ old)
    change_none = by q taken.4
      where
        by : (q : Result Step Step) → OnErr q (taken.0 ≡ row.schedule) → OnErr q (values_of U ≡ old)
        by (Ok back) same = tt
        by (Err e) same =
            ap values_of (taken.1 ∙ ap (λ (s : Scheduled). set_value (is_at (nat_cmp a)) M (x, with_schedule row s)) same ∙ set_value_same (is_at (nat_cmp a)) M (x, row) there) ∙ is_old

-- a command that is accepted
applied_made : (T : Recording) (B : List Proposal) (n : ℕ) (d : Command) (W V : Rows) (q : Result (Option Row) MoveRefusal) → made_at T B n d W ≡ q → put_made W (writes d) q ≡ Ok V
    → (o : Option Row) × (made_at T B n d W ≡ Ok o) × (with_row W (writes d) o ≡ V)
applied_made T B n d W V (Ok o) is h = (o, is, cc)
applied_made T B n d W V (Err why) is h = absurd cc

pub applied_parts : (T : Recording) (B : List Proposal) (n : ℕ) (d : Command) (W V : Rows) → applied T B n d W ≡ Ok V → (o : Option Row) × (made_at T B n d W ≡ Ok o) × (with_row W (writes d) o ≡ V)
applied_parts T B n d W V h = applied_made T B n d W V (made_at T B n d W) refl h

module _ (T : Recording) (B : List Proposal) (n : ℕ) (d : Command) (W : Rows) where
  -- the step of a judged command can be taken
  pub makes_turns : (step : Step) (x : List ℕ) → IsPlain n W → Makes T B n d W step → x ≡ writes d → CanTurn x step W
  makes_turns step x plain makes is = subst (λ y. CanTurn y step W) (sym is) (makes.0, makes.2, made_free T B n d W makes.0 plain makes.1)

  -- and then the command is applied
  pub makes_applied : (step back : Step) (x : List ℕ) (V : Rows) → Makes T B n d W step → x ≡ writes d → IsTurned x step W V → Fits back (row_of W x) (row_of V x)
      → IsApplied T B n d W V (Ok (record { name = x; step = back }))
  makes_applied step back x V makes is done fits =
      let there : IsTurned (writes d) step W V = subst (λ y. IsTurned y step W V) is done in
      let same : makes.0 ≡ there.0 = let e : Some makes.0 ≡ Some there.0 = sym makes.2 ∙ there.1 in cc in
      (ap (put_made W (writes d)) makes.1 ∙ ap (λ o. Ok (with_row W (writes d) o)) same ∙ ap Ok (sym there.2), is, subst (λ y. Fits back (row_of W y) (row_of V y)) is fits)

  -- or memory was wanted
  pub makes_wanting : (step : Step) (V : Rows) → Makes T B n d W step → V ≡ W → IsApplied T B n d W V (Err OutOfMemory)
  makes_wanting step V makes same = (subst IsOk (sym (ap (put_made W (writes d)) makes.1)) refl, same)

  -- a refusal of the judge is the command's
  pub judged_refused : (why : MoveRefusal) → IsJudged T B d W (Err why) → IsApplied T B n d W W (Err why)
  judged_refused NoSuchSchedule h = (ap (put_made W (writes d)) (h n), refl)
  judged_refused NameTaken h = (ap (put_made W (writes d)) (h n), refl)
  judged_refused NoSuchProposal h = (ap (put_made W (writes d)) (h n), refl)
  judged_refused NothingToRetract h = (ap (put_made W (writes d)) (h n), refl)
  judged_refused (Disabled cause) h = (ap (put_made W (writes d)) (h n), refl)
  judged_refused (Swap cause) h = (ap (put_made W (writes d)) (h n), refl)
  judged_refused TooShort h = (ap (put_made W (writes d)) (h n), refl)
  judged_refused OutOfMemory h = absurd h

  pub judged_checked : (why : MoveRefusal) → IsJudged T B d W (Err why) → made_at T B n d W ≡ Err why
  judged_checked NoSuchSchedule h = h n
  judged_checked NameTaken h = h n
  judged_checked NoSuchProposal h = h n
  judged_checked NothingToRetract h = h n
  judged_checked (Disabled cause) h = h n
  judged_checked (Swap cause) h = h n
  judged_checked TooShort h = h n
  judged_checked OutOfMemory h = absurd h

module _ (T : Recording) (B : List Proposal) (n : ℕ) (d : Command) (W V : Rows) where
  -- a refusal leaves the rows
  pub refused_same : (why : MoveRefusal) → IsApplied T B n d W V (Err why) → V ≡ W
  refused_same NoSuchSchedule h = h.1
  refused_same NameTaken h = h.1
  refused_same NoSuchProposal h = h.1
  refused_same NothingToRetract h = h.1
  refused_same (Disabled cause) h = h.1
  refused_same (Swap cause) h = h.1
  refused_same TooShort h = h.1
  refused_same OutOfMemory h = h.1

  -- the rows are listed after a command
  pub listing-applied : (r : Result Inverse MoveRefusal) → IsListing W → Below n W → IsApplied T B n d W V r → IsListing V
  listing-applied (Ok inverse) l low h =
      let p = applied_parts T B n d W V h.0 in
      let plain : IsPlain n W = record { listing = l; low = low } in
      subst IsListing p.2 (plain_step T B n d W p.0 plain p.1).listing
  listing-applied (Err why) l low h = subst IsListing (sym (refused_same why h)) l

-- and after a step
pub listing-turned : (x : List ℕ) (step : Step) (W V : Rows) → IsListing W → CanTurn x step W → IsTurned x step W V → IsListing V
listing-turned x step W V l can is =
    let same : can.0 ≡ is.0 = let e : Some can.0 ≡ Some is.0 = sym can.1 ∙ is.1 in cc in
    let free : IsFree W x is.0 = subst (IsFree W x) same can.2 in
    subst IsListing (sym is.2) (listing-with_row W x is.0 l free)
