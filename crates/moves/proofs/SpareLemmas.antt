-- Batches that are done in place: what takes their commands back wants no memory.
use Rattle.std.proofs.Common.{◌≡◌, ℕ, zero, suc, ◌+◌, ◌<◌, ◌≤◌, ◌&&◌, true, false, true≢false, leb, List, [], ◌∷◌, ◌++◌, Option, Some, None, Result, Err, length, length-append, take, reverse, refl, sym, ap, ◌∙◌, subst, arith}
use Rattle.std.specs.List.{list_all}
use Rattle.std.specs.Result.{IfOk}
use Rattle.std.proofs.lemmas.Bool.{cond_both, and_parts}
use Rattle.std.proofs.lemmas.List.Folds.{list_all-append}
use Rattle.rapid_text.specs.Recording.{Recording}
use Rattle.schedule.specs.declared.refusal.Disabled.{Disabled}
use Rattle.schedule.specs.declared.refusal.SwapRefusal.{SwapRefusal}
use Rattle.schedule.specs.Refusals.{refusal_of}
use Rattle.schedule.specs.Swaps.{swap_refusal}
use Rattle.schedule.proofs.CallerLemmas.{length-exchanged}
use Rattle.moves.specs.declared.row.Row.{Row}
use Rattle.moves.specs.declared.batch.BatchRefusal.{BatchRefusal}
use Rattle.moves.specs.declared.batch.BatchRefusal.TheVariants.{InBatch, OutOfMemory}
use Rattle.moves.specs.declared.board.Proposal.{Proposal}
use Rattle.moves.specs.declared.command.Command.{Command}
use Rattle.moves.specs.declared.command.Command.TheVariants.{Fresh, Add, Back, Swap, Branch, Drop, Adopt}
use Rattle.moves.specs.declared.inverse.Inverse.{Inverse}
use Rattle.moves.specs.declared.inverse.Step.{Step}
use Rattle.moves.specs.declared.inverse.Step.TheVariants.{Goes, Comes, Was, Loses, Gains, Exchanges}
use Rattle.moves.specs.declared.refusal.MoveRefusal.{MoveRefusal}
use Rattle.moves.specs.Batches.{Runs, HasRun, IsRun, IsAppliedAll, IsTurnedAll}
use Rattle.moves.specs.Commands.{writes, reads}
use Rattle.moves.specs.Inverses.{with_list, gained, in_row, turned, wants_memory}
use Rattle.moves.specs.Moves.{made, added, swapped}
use Rattle.moves.specs.Rows.{Rows, row_of, with_row}
use Rattle.moves.specs.Spares.{builds, spares_memory, is_spare}
use Rattle.moves.proofs.BatchLemmas.{runs_back, turns_same}
use Rattle.moves.proofs.ChainLemmas.{IsPlain}
use Rattle.moves.specs.Rising.{with_schedule}

-- a row is there afterwards, with no fewer events
abbrev Grows : Option Row → Option Row → Type 0
Grows mine None = ⊥
Grows None (Some r) = Unit {0}
Grows (Some m) (Some r) = length m.schedule.events ≤ length r.schedule.events

added_grows : (r : Row) (e : ℕ) (q : Option Disabled) → IfOk (added r e q) (Grows (Some r))
added_grows r e None = omega (arith, length-append r.schedule.events (e ∷ []))
added_grows r e (Some cause) = tt

swapped_grows : (r : Row) (i : ℕ) (q : Option SwapRefusal) → IfOk (swapped r i q) (Grows (Some r))
swapped_grows r i None = omega (arith, length-exchanged r.schedule.events i)
swapped_grows r i (Some cause) = tt

made_grows : (T : Recording) (B : List Proposal) (n : ℕ) (d : Command) (mine theirs : Option Row) → builds d ≡ true → IfOk (made T B n d mine theirs) (Grows mine)
made_grows T B n (Fresh x) None theirs b = tt
made_grows T B n (Fresh x) (Some r) theirs b = tt
made_grows T B n (Add x e) None theirs b = tt
made_grows T B n (Add x e) (Some r) theirs b = added_grows r e (refusal_of T.events r.schedule.events e)
made_grows T B n (Swap x i) None theirs b = tt
made_grows T B n (Swap x i) (Some r) theirs b = swapped_grows r i (swap_refusal T.events r.schedule.events i)
made_grows T B n (Back x) mine theirs b = absurd (true≢false (sym b))
made_grows T B n (Branch x k to) None None b = tt
made_grows T B n (Branch x k to) (Some r) None b = tt
made_grows T B n (Branch x k to) (Some r) (Some s) b = tt
made_grows T B n (Branch x k to) None (Some s) b = cond_both (leb k (length s.schedule.events)) _ _ (λ (o : Result (Option Row) MoveRefusal). IfOk o (Grows None)) (λ _. tt) (λ _. tt)
made_grows T B n (Drop x) mine theirs b = absurd (true≢false (sym b))
made_grows T B n (Adopt x p) mine theirs b = absurd (true≢false (sym b))

-- an event that is gained makes a row of one event more
abbrev Grew : Option Row → Row → Type 0
Grew None r = ⊥
Grew (Some m) r = length m.schedule.events ≡ length r.schedule.events + 1

gained_grew : (r : Row) (e : ℕ) (mine : Option Row) (q : Option Disabled) → in_row r (gained r.schedule e q) ≡ Some mine → Grew mine r
gained_grew r e mine None is =
    let same : Some (with_schedule r (with_list r.schedule (r.schedule.events ++ e ∷ []))) ≡ mine = cc in
    subst (λ o. Grew o r) same (length-append r.schedule.events (e ∷ []))
gained_grew r e mine (Some cause) is = absurd cc

-- a step back to no more than there is wants no memory
spared : (s : Step) (mine o : Option Row) → Grows mine o → turned s o ≡ Some mine → spares_memory s ≡ true
spared Goes mine o g is = refl
spared (Comes r) mine None g is = absurd g
spared (Comes r) mine (Some t) g is = absurd cc
spared (Was s) mine o g is = refl
spared Loses mine o g is = refl
spared (Gains e) mine None g is = absurd g
spared (Gains e) mine (Some r) g is = by mine g (gained_grew r e mine (refusal_of r.schedule.trace.events r.schedule.events e) is)
  where
    by : (mine : Option Row) → Grows mine (Some r) → Grew mine r → spares_memory (Gains e) ≡ true
    by None g h = absurd h
    by (Some m) g h = absurd (omega (arith, g, h))
spared (Exchanges i) mine o g is = refl

pub spare_free : (s : Step) → spares_memory s ≡ true → wants_memory s ≡ false
spare_free Goes h = refl
spare_free (Comes r) h = absurd (true≢false (sym h))
spare_free (Was s) h = refl
spare_free Loses h = refl
spare_free (Gains e) h = absurd (true≢false (sym h))
spare_free (Exchanges i) h = refl

pub spare_earlier : (I earlier : List Inverse) (i : Inverse) → I ≡ earlier ++ i ∷ [] → list_all is_spare I ≡ true → (list_all is_spare earlier ≡ true) × (is_spare i ≡ true)
spare_earlier I earlier i is all =
    let both = and_parts (list_all is_spare earlier) (list_all is_spare (i ∷ [])) (sym (list_all-append is_spare earlier (i ∷ [])) ∙ ap (list_all is_spare) (sym is) ∙ all) in
    (both.0, (and_parts (is_spare i) true both.1).0)

-- the commands before one that is refused, where all but the last build
pub builds_before : (D E : List Command) (d : Command) (k : ℕ) → D ≡ E ++ d ∷ [] → k < length D → list_all builds E ≡ true → list_all builds (take k D) ≡ true
builds_before D E d k is within all =
    subst (λ X. list_all builds (take k X) ≡ true) (sym is) (before E k (subst (λ X. k < length X) is within) all)
  where
    before : (E : List Command) (k : ℕ) → k < length (E ++ d ∷ []) → list_all builds E ≡ true → list_all builds (take k (E ++ d ∷ [])) ≡ true
    before [] zero h b = refl
    before [] (suc k) h b = absurd (omega (arith, h))
    before (e ∷ E) zero h b = refl
    before (e ∷ E) (suc k) h b =
        let parts = and_parts (builds e) (list_all builds E) b in
        ap (λ c. c && list_all builds (take k (E ++ d ∷ []))) parts.0 ∙ before E k (omega (arith, h)) parts.1

module _ (T : Recording) (B : List Proposal) where
  -- what takes commands back that build
  pub runs_spare : (D : List Command) (I : List Inverse) (n : ℕ) (W V : Rows) → list_all builds D ≡ true → Runs T B n D I W V → list_all is_spare I ≡ true
  runs_spare [] [] n W V b runs = refl
  runs_spare [] (i ∷ I) n W V b runs = absurd runs
  runs_spare (d ∷ D) [] n W V b runs = absurd runs
  runs_spare (d ∷ D) (i ∷ I) n W V b runs =
      let parts = and_parts (builds d) (list_all builds D) b in
      let mine = row_of W (writes d) in
      let grows : Grows mine runs.0 = subst (λ (q : Result (Option Row) MoveRefusal). IfOk q (Grows mine)) runs.1 (made_grows T B n d mine (row_of W (reads d)) parts.0) in
      ap (λ c. c && list_all is_spare I) (spared i.step mine runs.0 grows runs.3.0) ∙ runs_spare D I (n + 1) (with_row W (writes d) runs.0) V parts.1 runs.4

  module _ (n : ℕ) (D : List Command) (W V : Rows) (I : List Inverse) where
    pub has_run : (why : BatchRefusal) → IsRun T B n D W V I (Err why) → HasRun T B n D W V I
    has_run (InBatch place cause) h = h.1
    has_run OutOfMemory h = h

    -- a refused run that was taken back
    pub refused_here : (U : Rows) (why : BatchRefusal) → IsPlain n W → IsRun T B n D W V I (Err why) → IsTurnedAll I V U → IsAppliedAll T B n D W U (Err why)
    refused_here U why plain h back = by why h
      where
        same : U ≡ W
        same = let has = has_run why h in turns_same (reverse I) V W U (runs_back T B (take has.0 D) I n W V plain has.2) back

        by : (why : BatchRefusal) → IsRun T B n D W V I (Err why) → IsAppliedAll T B n D W U (Err why)
        by (InBatch place cause) h = (h.0, same)
        by OutOfMemory h = same
