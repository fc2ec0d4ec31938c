-- Batches: what the commands before the next one tell, and that their inverses take them back.
use Rattle.std.proofs.Common.{◌≡◌, ◌≢◌, inl, inr, ℕ, zero, suc, ◌+◌, ◌<◌, ◌≤◌, ◌||◌, take, get_or, length-take-le, true, false, true≢false, Bool, List, [], ◌∷◌, ◌++◌, Option, Some, Result, Ok, Err, All, length, reverse, slice_get, refl, sym, ap, ◌∙◌, subst, arith}
use Rattle.std.specs.Result.{IfOk}
use Rattle.std.specs.Str.{bytes_eq}
use Rattle.std.proofs.Math.Seq.{take-suc}
use Rattle.std.proofs.lemmas.List.{append-nil, reverse-append}
use Rattle.std.proofs.lemmas.List.Elements.{All-nil, All-cons, All-head, All-tail, All-weaker}
use Rattle.std.proofs.lemmas.Map.Entries.{All-lookup}
use Rattle.rapid_text.specs.Recording.{Recording}
use Rattle.moves.specs.declared.row.Row.{Row}
use Rattle.moves.specs.declared.board.Proposal.{Proposal}
use Rattle.moves.specs.declared.command.Command.{Command}
use Rattle.moves.specs.declared.inverse.Inverse.{Inverse}
use Rattle.moves.specs.declared.refusal.MoveRefusal.{MoveRefusal}
use Rattle.moves.specs.declared.refusal.MoveRefusal.TheVariants.{NoSuchSchedule, NameTaken, NoSuchProposal, NothingToRetract, Disabled, Swap, TooShort, OutOfMemory}
use Rattle.moves.specs.declared.batch.BatchRefusal.{BatchRefusal}
use Rattle.moves.specs.declared.batch.BatchRefusal.TheVariants.{InBatch, OutOfMemory as Wants}
use Rattle.moves.specs.Ages.{age}
use Rattle.moves.specs.Batches.{goes_from, applied_from, applied_all, Runs, HasRun, IsRun, IsAppliedAll, Turns, IsTurnedAll, TakesAllBack, AreOfTrace, AreBelow, refused_as}
use Rattle.moves.specs.Applied.{IsApplied}
use Rattle.moves.specs.Commands.{writes, reads, touches}
use Rattle.moves.specs.Fold.{Numbered, numbered, Leads}
use Rattle.moves.specs.Inverses.{turned, Fits, IsStepOf, IsStepBelow}
use Rattle.moves.specs.Moves.{made_at, applied, put_made}
use Rattle.moves.specs.Rows.{Rows, row_of, with_row, IsFree, IsOfTrace, Below}
use Rattle.moves.proofs.BackLemmas.{step_traced, step_below, traced_made}
use Rattle.moves.proofs.ChainLemmas.{IsPlain, plain_step}
use Rattle.moves.proofs.NameLemmas.{bytes_tells, eq-bytes}
use Rattle.moves.proofs.RowLemmas.{with_row-same, with_row-other}
use Rattle.moves.proofs.TurnLemmas.{applied_parts}
use Rattle.moves.proofs.UndoLemmas.{free_here, row_updated}

module _ (T : Recording) (B : List Proposal) where
  -- one more command
  pub runs_push : (D : List Command) (I : List Inverse) (n m : ℕ) (W U : Rows) (d : Command) (i : Inverse) (o : Option Row) → m ≡ n + length D → Runs T B n D I W U → made_at T B m d U ≡ Ok o → i.name ≡ writes d → Fits i.step (row_of U (writes d)) o
      → Runs T B n (D ++ d ∷ []) (I ++ i ∷ []) W (with_row U (writes d) o)
  runs_push [] [] n m W U d i o at runs makes name fits =
      let same : m ≡ n = omega (arith, at) in
      subst (λ S. Runs T B n (d ∷ []) (i ∷ []) S (with_row U (writes d) o)) (sym runs) (o, subst (λ k. made_at T B k d U ≡ Ok o) same makes, name, fits, refl)
  runs_push [] (j ∷ I) n m W U d i o at runs makes name fits = absurd runs
  runs_push (e ∷ D) [] n m W U d i o at runs makes name fits = absurd runs
  runs_push (e ∷ D) (j ∷ I) n m W U d i o at runs makes name fits =
      (runs.0, runs.1, runs.2, runs.3, runs_push D I (n + 1) m (with_row W (writes e) runs.0) U d i o (omega (arith, at)) runs.4 makes name fits)

  -- what is answered of the commands is answered of the rest of them
  pub runs_from : (D E : List Command) (I : List Inverse) (n m k j : ℕ) (W V : Rows) → m ≡ n + length D → j ≡ k + length D → Runs T B n D I W V → applied_from T B n k (D ++ E) W ≡ applied_from T B m j E V
  runs_from [] E [] n m k j W V at place runs =
      let same : n ≡ m = omega (arith, at) in
      let here : k ≡ j = omega (arith, place) in
      ap (applied_from T B n k E) runs ∙ ap (λ a. applied_from T B a k E V) same ∙ ap (λ a. applied_from T B m a E V) here
  runs_from [] E (i ∷ I) n m k j W V at place runs = absurd runs
  runs_from (d ∷ D) E [] n m k j W V at place runs = absurd runs
  runs_from (d ∷ D) E (i ∷ I) n m k j W V at place runs =
      ap (λ q. goes_from k (λ S. applied_from T B (n + 1) (k + 1) (D ++ E) S) (put_made W (writes d) q)) runs.1
      ∙ runs_from D E I (n + 1) m (k + 1) j (with_row W (writes d) runs.0) V (omega (arith, at)) (omega (arith, place)) runs.4

  -- births stay below the next one
  pub runs_plain : (D : List Command) (I : List Inverse) (n m : ℕ) (W V : Rows) → m ≡ n + length D → IsPlain n W → Runs T B n D I W V → IsPlain m V
  runs_plain [] [] n m W V at plain runs = let same : n ≡ m = omega (arith, at) in subst (IsPlain m) runs (subst (λ k. IsPlain k W) same plain)
  runs_plain [] (i ∷ I) n m W V at plain runs = absurd runs
  runs_plain (d ∷ D) [] n m W V at plain runs = absurd runs
  runs_plain (d ∷ D) (i ∷ I) n m W V at plain runs = runs_plain D I (n + 1) m (with_row W (writes d) runs.0) V (omega (arith, at)) (plain_step T B n d W runs.0 plain runs.1) runs.4

  -- one more command, applied
  pub runs_more : (D E : List Command) (I : List Inverse) (n m : ℕ) (W U V : Rows) (d : Command) (i : Inverse) → m ≡ n + length D → IsPlain n W → E ≡ D ++ d ∷ [] → Runs T B n D I W U → IsApplied T B m d U V (Ok i) → Runs T B n E (I ++ i ∷ []) W V
  runs_more D E I n m W U V d i at plain is runs done =
      let parts = applied_parts T B m d U V done.0 in
      let now : IsPlain m U = runs_plain D I n m W U at plain runs in
      let after : row_of V (writes d) ≡ parts.0 = ap (λ S. row_of S (writes d)) (sym parts.2) ∙ with_row-same U (writes d) parts.0 now.listing in
      subst (λ X. Runs T B n X (I ++ i ∷ []) W V) (sym is) (subst (Runs T B n (D ++ d ∷ []) (I ++ i ∷ []) W) parts.2 (runs_push D I n m W U d i parts.0 at runs parts.1 done.1 (rw (← after) done.2)))

  -- all are applied
  pub runs_all : (D : List Command) (I : List Inverse) (n : ℕ) (W V : Rows) → Runs T B n D I W V → applied_all T B n D W ≡ Ok V
  runs_all D I n W V runs = ap (λ X. applied_from T B n 0 X W) (sym (append-nil D)) ∙ runs_from D [] I n (n + length D) 0 (length D) W V refl (omega arith) runs

  -- the next one is refused
  pub runs_refused : (D E : List Command) (I : List Inverse) (n m j : ℕ) (W V : Rows) (d : Command) (why : MoveRefusal) → m ≡ n + length D → j ≡ length D → Runs T B n D I W V → applied T B m d V ≡ Err why → applied_all T B n (D ++ d ∷ E) W ≡ Err (j, why)
  runs_refused D E I n m j W V d why at place runs refused =
      runs_from D (d ∷ E) I n m 0 j W V at (omega (arith, place)) runs ∙ ap (goes_from j (λ S. applied_from T B (m + 1) (j + 1) E S)) refused

  -- the chain of a log, where R is told of each command by its inverse
  pub runs_leads : (R : Numbered → Option Row → Option Row → Type 0) (D : List Command) (I : List Inverse) (n : ℕ) (W V : Rows)
      → ((j : ℕ) (d : Command) (i : Inverse) (before after : Option Row) → slice_get D j ≡ Some d → slice_get I j ≡ Some i → i.name ≡ writes d → Fits i.step before after → R (n + j, d) before after)
      → Runs T B n D I W V → Leads T B R W (numbered n D) V
  runs_leads R [] [] n W V has runs = runs
  runs_leads R [] (i ∷ I) n W V has runs = absurd runs
  runs_leads R (d ∷ D) [] n W V has runs = absurd runs
  runs_leads R (d ∷ D) (i ∷ I) n W V has runs =
      let first : n + 0 ≡ n = omega arith in
      let here : R (n, d) (row_of W (writes d)) runs.0 = subst (λ a. R (a, d) (row_of W (writes d)) runs.0) first (has 0 d i (row_of W (writes d)) runs.0 refl refl runs.2 runs.3) in
      (runs.0, runs.1, here, runs_leads R D I (n + 1) (with_row W (writes d) runs.0) V (λ j e g before after at there name fits. let later : n + (j + 1) ≡ n + 1 + j = omega arith in subst (λ a. R (a, e) before after) later (has (j + 1) e g before after (next d D j at) (next i I j there) name fits)) runs.4)
    where
      next : {X : Type 0} (x : X) {y : X} (xs : List X) (j : ℕ) → slice_get xs j ≡ Some y → slice_get (x ∷ xs) (j + 1) ≡ Some y
      next x xs j at = let up : j + 1 ≡ suc j = omega arith in ap (slice_get (x ∷ xs)) up ∙ at

-- Steps taken one after another, and one more.
turns_push : (I : List Inverse) (i : Inverse) (W U : Rows) (o : Option Row) → Turns I W U → turned i.step (row_of U i.name) ≡ Some o → IsFree U i.name o → Turns (I ++ i ∷ []) W (with_row U i.name o)
turns_push [] i W U o turns is free = subst (λ S. Turns (i ∷ []) S (with_row U i.name o)) (sym turns) (o, is, free, refl)
turns_push (j ∷ I) i W U o turns is free = (turns.0, turns.1, turns.2, turns_push I i (with_row W j.name turns.0) U o turns.3 is free)

module _ (T : Recording) (B : List Proposal) where
  -- taken back at once, the inverses of a batch give the rows that were there before
  pub runs_back : (D : List Command) (I : List Inverse) (n : ℕ) (W V : Rows) → IsPlain n W → Runs T B n D I W V → IsTurnedAll I V W
  runs_back [] [] n W V plain runs = sym runs
  runs_back [] (i ∷ I) n W V plain runs = absurd runs
  runs_back (d ∷ D) [] n W V plain runs = absurd runs
  runs_back (d ∷ D) (i ∷ I) n W V plain runs =
      let x = writes d in
      let o = runs.0 in
      let U = with_row W x o in
      let after : IsPlain (n + 1) U = plain_step T B n d W o plain runs.1 in
      let rest : Turns (reverse I) V U = runs_back D I (n + 1) U V after runs.4 in
      let agree : (y : List ℕ) → y ≢ x → row_of W y ≡ row_of U y = λ y apart. sym (with_row-other W x y o apart) in
      let free : IsFree U x (row_of W x) = free_here x U W (row_of W x) plain.listing refl agree in
      let there : row_of U x ≡ o = with_row-same W x o plain.listing in
      let is : turned i.step (row_of U x) ≡ Some (row_of W x) = ap (turned i.step) there ∙ runs.3.0 in
      let back : W ≡ with_row U x (row_of W x) = row_updated x U (row_of W x) W after.listing plain.listing agree refl free in
      let one : Turns (reverse I ++ i ∷ []) V (with_row U i.name (row_of W x)) =
      turns_push (reverse I) i V U (row_of W x) rest (subst (λ y. turned i.step (row_of U y) ≡ Some (row_of W x)) (sym runs.2) is) (subst (λ y. IsFree U y (row_of W x)) (sym runs.2) free) in
      let end : with_row U i.name (row_of W x) ≡ W = ap (λ y. with_row U y (row_of W x)) runs.2 ∙ sym back in
      subst (λ A. Turns A V W) (sym (reverse-append (i ∷ []) I)) (subst (Turns (reverse I ++ i ∷ []) V) end one)

  -- Commands that touch no name but those that pass the test q lead from rows that agree on these names alike, and leave the
  -- other names: so they may be run on copies of the touched rows.
  pub record IsCarried (q : List ℕ → Bool) (n : ℕ) (D : List Command) (I : List Inverse) (W V : Rows) : Type 0 where
    pub rows : Rows
    pub runs : Runs T B n D I W rows
    pub same : (x : List ℕ) → q x ≡ true → row_of rows x ≡ row_of V x
    pub other : (x : List ℕ) → q x ≡ false → row_of rows x ≡ row_of W x

  pub carried : (q : List ℕ → Bool) (D : List Command) (I : List Inverse) (n : ℕ) (U V W : Rows) → IsPlain n U → IsPlain n W → All (λ (d : Command). (x : List ℕ) → touches d x ≡ true → q x ≡ true) D
      → ((x : List ℕ) → q x ≡ true → row_of U x ≡ row_of W x) → Runs T B n D I U V → IsCarried q n D I W V
  carried q [] [] n U V W pu pw all agree runs = record {
    rows = W;
    runs = refl;
    same = λ x t. sym (agree x t) ∙ ap (λ S. row_of S x) runs;
    other = λ x t. refl;
  }
  carried q [] (i ∷ I) n U V W pu pw all agree runs = absurd runs
  carried q (d ∷ D) [] n U V W pu pw all agree runs = absurd runs
  carried q (d ∷ D) (i ∷ I) n U V W pu pw all agree runs =
      let o = runs.0 in
      let head = All-head (λ (d : Command). (x : List ℕ) → touches d x ≡ true → q x ≡ true) d D all in
      let mine' : q (writes d) ≡ true = head (writes d) (touches_written d) in
      let theirs' : q (reads d) ≡ true = head (reads d) (touches_read d) in
      let mine : row_of U (writes d) ≡ row_of W (writes d) = agree (writes d) mine' in
      let theirs : row_of U (reads d) ≡ row_of W (reads d) = agree (reads d) theirs' in
      let makes : made_at T B n d W ≡ Ok o = rw (← mine, ← theirs) runs.1 in
      let fits : Fits i.step (row_of W (writes d)) o = rw (← mine) runs.3 in
      let agree' : (x : List ℕ) → q x ≡ true → row_of (with_row U (writes d) o) x ≡ row_of (with_row W (writes d) o) x = λ x t. elim (bytes_tells x (writes d)) [
        | inl h ↦ rw h.1 (with_row-same U (writes d) o pu.listing ∙ sym (with_row-same W (writes d) o pw.listing))
        | inr h ↦ with_row-other U (writes d) x o h.1 ∙ agree x t ∙ sym (with_row-other W (writes d) x o h.1)
      ] in
      let rest = carried q D I (n + 1) (with_row U (writes d) o) V (with_row W (writes d) o) (plain_step T B n d U o pu runs.1) (plain_step T B n d W o pw makes)
      (All-tail (λ (d : Command). (x : List ℕ) → touches d x ≡ true → q x ≡ true) d D all) agree' runs.4 in
      record {
        rows = rest.rows;
        runs = (o, makes, runs.2, fits, rest.runs);
        same = rest.same;
        other = λ x t. rest.other x t ∙ with_row-other W (writes d) x o (λ e. true≢false (sym (ap q e ∙ mine') ∙ t));
      }
    where
      touches_written : (d : Command) → touches d (writes d) ≡ true
      touches_written d = rw (eq-bytes (writes d) (writes d) refl) refl

      or_true : (b : Bool) → (b || true) ≡ true
      or_true true = refl
      or_true false = refl

      touches_read : (d : Command) → touches d (reads d) ≡ true
      touches_read d = rw (eq-bytes (reads d) (reads d) refl) (or_true (bytes_eq (writes d) (reads d)))

take_next : (D : List Command) (k : ℕ) (d : Command) → k < length D → d ≡ get_or D k d → take (k + 1) D ≡ take k D ++ d ∷ []
take_next D k d within is = let up : k + 1 ≡ suc k = omega arith in ap (λ n. take n D) up ∙ take-suc D k d within ∙ ap (λ e. take k D ++ e ∷ []) (sym is)

split_next : (D : List Command) (k : ℕ) (d : Command) → k < length D → d ≡ get_or D k d → (E : List Command) × (D ≡ take k D ++ d ∷ E)
split_next [] k d within is = absurd (omega arith)
split_next (e ∷ D) zero d within is = (D, ap (λ x. x ∷ D) (sym is))
split_next (e ∷ D) (suc k) d within is = let rest = split_next D k d (omega arith) is in (rest.0, ap (λ X. e ∷ X) rest.1)

take_whole : (D : List Command) (k : ℕ) → length D ≤ k → take k D ≡ D
take_whole [] zero h = refl
take_whole [] (suc k) h = refl
take_whole (d ∷ D) zero h = absurd (omega arith)
take_whole (d ∷ D) (suc k) h = ap (λ X. d ∷ X) (take_whole D k (omega arith))

-- the next command of a run
module _ (T : Recording) (B : List Proposal) (D : List Command) (n k : ℕ) (W U : Rows) (I : List Inverse) (plain : IsPlain n W) (runs : Runs T B n (take k D) I W U) where
  module _ (V : Rows) (d : Command) (b : ℕ) (at : b ≡ n + k) (within : k < length D) (is : d ≡ get_or D k d) where
    long : length (take k D) ≡ k
    long = length-take-le k D (omega (arith, within))

    pub next_runs : (i : Inverse) → IsApplied T B b d U V (Ok i) → Runs T B n (take (k + 1) D) (I ++ i ∷ []) W V
    next_runs i done = runs_more T B (take k D) (take (k + 1) D) I n b W U V d i (omega (arith, at, long)) plain (take_next D k d within is) runs done

    -- it is refused, or memory is wanted
    pub next_refused : (j : ℕ) (why : MoveRefusal) → j ≡ k → IsApplied T B b d U V (Err why) → IsRun T B n D W V I (Err (refused_as j why))
    next_refused j why place h = by why h
      where
        has : V ≡ U → HasRun T B n D W V I
        has same = (k, within, subst (Runs T B n (take k D) I W) (sym same) runs)

        told : (why : MoveRefusal) → applied T B b d U ≡ Err why → applied_all T B n D W ≡ Err (j, why)
        told why refused =
            let s = split_next D k d within is in
            ap (λ X. applied_all T B n X W) s.1 ∙ runs_refused T B (take k D) s.0 I n b j W U d why (omega (arith, at, long)) (omega (arith, place, long)) runs refused

        by : (why : MoveRefusal) → IsApplied T B b d U V (Err why) → IsRun T B n D W V I (Err (refused_as j why))
        by OutOfMemory h = has h.1
        by NoSuchSchedule h = (told NoSuchSchedule h.0, has h.1)
        by NameTaken h = (told NameTaken h.0, has h.1)
        by NoSuchProposal h = (told NoSuchProposal h.0, has h.1)
        by NothingToRetract h = (told NothingToRetract h.0, has h.1)
        by (Disabled cause) h = (told (Disabled cause) h.0, has h.1)
        by (Swap cause) h = (told (Swap cause) h.0, has h.1)
        by TooShort h = (told TooShort h.0, has h.1)

  pub run_ends : length D ≤ k → (applied_all T B n D W ≡ Ok U) × Runs T B n D I W U
  run_ends whole = let all : Runs T B n D I W U = subst (λ X. Runs T B n X I W U) (take_whole D k whole) runs in (runs_all T B D I n W U all, all)

-- the birth of the command at a place
pub next_birth : (entry place k b : ℕ) → b ≡ age entry place → place ≡ k → b ≡ age entry 0 + k
next_birth entry place k b is at = omega (arith, is, at)

pub below_as : (a b : ℕ) (W : Rows) → a ≡ b → Below a W → Below b W
below_as a b W same low = subst (λ n. Below n W) same low

pub below_more : (a b : ℕ) (W : Rows) → a ≤ b → Below a W → Below b W
below_more a b W h low = All-weaker (λ (q : List ℕ × Row). q.1.birth < a) (λ (q : List ℕ × Row). q.1.birth < b) (λ q g. omega arith) W low

-- steps lead to one end
pub turns_same : (I : List Inverse) (W V U : Rows) → Turns I W V → Turns I W U → U ≡ V
turns_same [] W V U a b = sym b ∙ a
turns_same (i ∷ I) W V U a b =
    let same : a.0 ≡ b.0 = let e : Some a.0 ≡ Some b.0 = sym a.1 ∙ b.1 in cc in
    turns_same I (with_row W i.name a.0) V U a.3 (subst (λ o. Turns I (with_row W i.name o) U) (sym same) b.3)

module _ (T : Recording) (B : List Proposal) where
  -- all inverses are of the trace
  pub runs_traced : (D : List Command) (I : List Inverse) (n : ℕ) (W V : Rows) → IsOfTrace T W → Runs T B n D I W V → AreOfTrace T I
  runs_traced [] [] n W V all runs = All-nil (λ (i : Inverse). IsStepOf T i.step)
  runs_traced [] (i ∷ I) n W V all runs = absurd runs
  runs_traced (d ∷ D) [] n W V all runs = absurd runs
  runs_traced (d ∷ D) (i ∷ I) n W V all runs =
      let before = All-lookup (λ (r : Row). r.schedule.trace ≡ T) (bytes_eq (writes d)) W all in
      All-cons (λ (i : Inverse). IsStepOf T i.step) i I (step_traced T i.step (row_of W (writes d)) runs.0 runs.3.0 before)
      (runs_traced D I (n + 1) (with_row W (writes d) runs.0) V (traced_made T B n d W runs.0 all runs.1) runs.4)

  -- and bring no late birth
  pub runs_below : (D : List Command) (I : List Inverse) (n m : ℕ) (W V : Rows) → n + length D ≤ m → IsPlain n W → Runs T B n D I W V → AreBelow m I
  runs_below [] [] n m W V fits plain runs = All-nil (λ (i : Inverse). IsStepBelow m i.step)
  runs_below [] (i ∷ I) n m W V fits plain runs = absurd runs
  runs_below (d ∷ D) [] n m W V fits plain runs = absurd runs
  runs_below (d ∷ D) (i ∷ I) n m W V fits plain runs =
      let low : Below m W = below_more n m W (omega (arith, fits)) plain.low in
      let before = All-lookup (λ (r : Row). r.birth < m) (bytes_eq (writes d)) W low in
      All-cons (λ (i : Inverse). IsStepBelow m i.step) i I (step_below m i.step (row_of W (writes d)) runs.0 runs.3.0 before)
      (runs_below D I (n + 1) m (with_row W (writes d) runs.0) V (omega (arith, fits)) (plain_step T B n d W runs.0 plain runs.1) runs.4)

  pub runs_of_trace : (D : List Command) (I : List Inverse) (n : ℕ) (W V : Rows) → IsOfTrace T W → Runs T B n D I W V → IsOfTrace T V
  runs_of_trace [] [] n W V all runs = subst (IsOfTrace T) runs all
  runs_of_trace [] (i ∷ I) n W V all runs = absurd runs
  runs_of_trace (d ∷ D) [] n W V all runs = absurd runs
  runs_of_trace (d ∷ D) (i ∷ I) n W V all runs = runs_of_trace D I (n + 1) (with_row W (writes d) runs.0) V (traced_made T B n d W runs.0 all runs.1) runs.4

  module _ (D : List Command) (n m : ℕ) (W V : Rows) (plain : IsPlain n W) (r : Result (List Inverse) BatchRefusal) where
    pub all-back : IsAppliedAll T B n D W V r → IfOk r (λ I. TakesAllBack I V W)
    all-back h = by r h
      where
        by : (r : Result (List Inverse) BatchRefusal) → IsAppliedAll T B n D W V r → IfOk r (λ I. TakesAllBack I V W)
        by (Ok I) h = let back = runs_back T B D I n W V plain h.1 in ((W, back), λ U there. turns_same (reverse I) V W U back there)
        by (Err why) h = tt

    stays : (why : BatchRefusal) → IsAppliedAll T B n D W V (Err why) → V ≡ W
    stays (InBatch place cause) h = h.1
    stays Wants h = h

    pub all-of_trace : IsOfTrace T W → IsAppliedAll T B n D W V r → IsOfTrace T V
    all-of_trace all h = by r h
      where
        by : (r : Result (List Inverse) BatchRefusal) → IsAppliedAll T B n D W V r → IsOfTrace T V
        by (Ok I) h = runs_of_trace D I n W V all h.1
        by (Err why) h = subst (IsOfTrace T) (sym (stays why h)) all

    pub all-late : n + length D ≤ m → IsAppliedAll T B n D W V r → Below m V
    all-late fits h = by r h
      where
        by : (r : Result (List Inverse) BatchRefusal) → IsAppliedAll T B n D W V r → Below m V
        by (Ok I) h = below_more (n + length D) m V fits (runs_plain T B D I n (n + length D) W V refl plain h.1).low
        by (Err why) h = below_more n m V (omega (arith, fits)) (subst (Below n) (sym (stays why h)) plain.low)

    pub all-traced : IsOfTrace T W → IsAppliedAll T B n D W V r → IfOk r (AreOfTrace T)
    all-traced all h = by r h
      where
        by : (r : Result (List Inverse) BatchRefusal) → IsAppliedAll T B n D W V r → IfOk r (AreOfTrace T)
        by (Ok I) h = runs_traced D I n W V all h.1
        by (Err why) h = tt

    pub all-below : n + length D ≤ m → IsAppliedAll T B n D W V r → IfOk r (AreBelow m)
    all-below fits h = by r h
      where
        by : (r : Result (List Inverse) BatchRefusal) → IsAppliedAll T B n D W V r → IfOk r (AreBelow m)
        by (Ok I) h = runs_below D I n m W V fits plain h.1
        by (Err why) h = tt

-- where one command at the most is run, a refusal leaves the rows
pub run_one : (T : Recording) (B : List Proposal) (n : ℕ) (D : List Command) (W V : Rows) (I : List Inverse) (why : BatchRefusal) → length D ≤ 1 → IsRun T B n D W V I (Err why) → IsAppliedAll T B n D W V (Err why)
run_one T B n D W V I why few h = by why h
  where
    none : (k : ℕ) (J : List Inverse) → k ≡ 0 → Runs T B n (take k D) J W V → V ≡ W
    none k [] z runs = sym (subst (λ j. Runs T B n (take j D) [] W V) z runs)
    none k (i ∷ J) z runs = absurd (subst (λ j. Runs T B n (take j D) (i ∷ J) W V) z runs)

    stays : HasRun T B n D W V I → V ≡ W
    stays has = let within : has.0 < length D = has.1 in none has.0 I (omega (arith, within)) has.2

    by : (why : BatchRefusal) → IsRun T B n D W V I (Err why) → IsAppliedAll T B n D W V (Err why)
    by (InBatch place cause) h = (h.0, stays h.1)
    by Wants h = stays h
