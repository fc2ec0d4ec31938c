-- Each step of a log leaves rows that are the fold of its live entries' commands.
use Rattle.std.proofs.Common.{◌≡◌, ℕ, ◌+◌, false, List, [], ◌∷◌, ◌++◌, Option, Some, None, Result, Ok, Err, All, Bool, true, length, map, reverse, slice_get, ◌<◌, ltb, inl, inr, refl, sym, ap, ◌∙◌, subst}
use Rattle.std.specs.List.{list_any, cons_option}
use Rattle.std.specs.Option.{unwrap_or}
use Rattle.std.proofs.lemmas.List.{append-nil, reverse-append, reverse-reverse}
use Rattle.std.proofs.lemmas.Bool.{cases_Bool, or_parts}
use Rattle.std.proofs.lemmas.Option.{slice_get_within}
use Rattle.std.proofs.lemmas.List.Elements.{All-nil, All-cons, All-head, All-tail, All-weaker, All-append, All-push, filter_map-append}
use Rattle.moves.specs.declared.row.Row.{Row}
use Rattle.moves.specs.declared.command.Command.{Command}
use Rattle.moves.specs.declared.refusal.MoveRefusal.{MoveRefusal}
use Rattle.moves.specs.Rows.{Rows, row_of, with_row}
use Rattle.rapid_text.specs.Recording.{Recording}
use Rattle.schedule.specs.Faults.{first_fault}
use Rattle.schedule.specs.Shows.{does_show}
use Rattle.moves.specs.declared.board.Proposal.{Proposal}
use Rattle.moves.specs.Batches.{applied_all}
use Rattle.moves.specs.Commands.{writes, touches, touches_any}
use Rattle.moves.specs.Ages.{age}
use Rattle.moves.specs.Moves.{made_at}
use Rattle.moves.specs.Fold.{Numbered, numbered, Leads, Rises, fold_of}
use Rattle.moves.proofs.CallerLemmas.{Nothing, fold_from_leads, leads_join, leads_longer, leads_from_batch, StepsBack, Clear, many_undone}
use Rattle.inverse_log.specs.declared.entry.Entry.{Entry}
use Rattle.inverse_log.specs.declared.entry.Entry.TheVariants.{Did, Batch, Undid, Proposed}
use Rattle.inverse_log.specs.declared.call.Call.{Call}
use Rattle.inverse_log.specs.declared.call.Call.TheVariants.{Do, Batch as DoAll, Undo, UndoAt, Propose, Show, List as ListNames, Races}
use Rattle.inverse_log.specs.declared.reply.Reply.{Reply}
use Rattle.inverse_log.specs.declared.reply.Reply.TheVariants.{Undone}
use Rattle.inverse_log.specs.declared.refusal.Refusal.{Refusal}
use Rattle.inverse_log.specs.Log.{Live, live, live_at, is_own, done_by, births_of, steps_of, live_of, proposal_of, board_of, rows_of, last_live, blocker_of}
use Rattle.inverse_log.specs.Answer.{limited, sized, is_batch, done_or, all_done_or, undone_or, undo_or, undo_live_or, undo_own_or, undo_at_or, seen_or, proposed_or, entry_of, logged, log_after, IsLegal, starts, goes_on}
use Rattle.inverse_log.proofs.LiveLemmas.{IsShort, among_live, live_done, live_proposed, live_without, rises_steps, steps_append, last_split, clear_after}
use Rattle.inverse_log.proofs.SizeLemmas.{legal_small, lives_short}

-- what holds of all holds of all in the other order
pub All-reverse : {X : Type 0} (P : X → Type 0) (xs : List X) → All P xs → All P (reverse xs)
All-reverse P [] all = all
All-reverse P (x ∷ xs) all = subst (All P) (sym (reverse-append (x ∷ []) xs)) (All-push P (reverse xs) x (All-reverse P xs (All-tail P x xs all)) (All-head P x xs all))

module _ (T : Recording) where
  -- an entry that does something proposes nothing
  pub board_done : (L : List Entry) (e : Entry) (p : ℕ × List Command) → done_by e ≡ Some p → board_of T (L ++ e ∷ []) ≡ board_of T L
  board_done L e p is = filter_map-append (proposal_of T) L (e ∷ []) ∙ ap (λ o. board_of T L ++ cons_option o []) (none e is) ∙ append-nil (board_of T L)
    where
      none : (e : Entry) → done_by e ≡ Some p → proposal_of T e ≡ None
      none (Did c d) is = refl
      none (Batch c D) is = refl
      none (Undid c k) is = refl
      none (Proposed c a b P) is = absurd cc

  pub board_undid : (L : List Entry) (c k : ℕ) → board_of T (L ++ Undid c k ∷ []) ≡ board_of T L
  board_undid L c k = filter_map-append (proposal_of T) L (Undid c k ∷ []) ∙ append-nil (board_of T L)

  abbrev pub proposal : ℕ → ℕ → List ℕ → Proposal
  proposal a b P = record { first = a; second = b; schedule = record { trace = T; events = P } }

  pub board_proposed : (L : List Entry) (c a b : ℕ) (P : List ℕ) → board_of T (L ++ Proposed c a b P ∷ []) ≡ board_of T L ++ proposal a b P ∷ []
  board_proposed L c a b P = filter_map-append (proposal_of T) L (Proposed c a b P ∷ [])

  -- live entries that do not touch the name x
  clear_numbered : (x : List ℕ) (n : ℕ) (D : List Command) → touches_any D x ≡ false → All (λ (e : Numbered). touches e.1 x ≡ false) (numbered n D)
  clear_numbered x n [] none = All-nil (λ (e : Numbered). touches e.1 x ≡ false)
  clear_numbered x n (d ∷ D) none =
      let both = or_parts (touches d x) (touches_any D x) none in
      All-cons (λ (e : Numbered). touches e.1 x ≡ false) (n, d) (numbered (n + 1) D) both.0 (clear_numbered x (n + 1) D both.1)

  clear_steps : (x : List ℕ) (F : List Live) → All (λ (p : Live). touches_any p.commands x ≡ false) F → All (λ (e : Numbered). touches e.1 x ≡ false) (steps_of F)
  clear_steps x [] all = All-nil (λ (e : Numbered). touches e.1 x ≡ false)
  clear_steps x (p ∷ F) all =
      All-append (λ (e : Numbered). touches e.1 x ≡ false) (births_of p) (steps_of F) (clear_numbered x (age p.number 0) p.commands (All-head (λ (p : Live). touches_any p.commands x ≡ false) p F all)) (clear_steps x F (All-tail (λ (p : Live). touches_any p.commands x ≡ false) p F all))

  -- live entries that touch nothing that these commands write
  abbrev IsClearOf : List Live → Numbered → Type 0
  IsClearOf F e = All (λ (f : Numbered). touches f.1 (writes e.1) ≡ false) (steps_of F)

  clear_of : (D : List Command) (n : ℕ) (F : List Live) → All (λ (p : Live). list_any (touches_any p.commands) (map writes D) ≡ false) F → All (IsClearOf F) (numbered n D)
  clear_of [] n F all = All-nil (IsClearOf F)
  clear_of (d ∷ D) n F all =
      let parts : (p : Live) → list_any (touches_any p.commands) (map writes (d ∷ D)) ≡ false → (touches_any p.commands (writes d) ≡ false) × (list_any (touches_any p.commands) (map writes D) ≡ false) = λ p h. or_parts (touches_any p.commands (writes d)) (list_any (touches_any p.commands) (map writes D)) h in
      All-cons (IsClearOf F) (n, d) (numbered (n + 1) D)
      (clear_steps (writes d) F (All-weaker (λ (p : Live). list_any (touches_any p.commands) (map writes (d ∷ D)) ≡ false) (λ (p : Live). touches_any p.commands (writes d) ≡ false) (λ p h. (parts p h).0) F all))
      (clear_of D (n + 1) F (All-weaker (λ (p : Live). list_any (touches_any p.commands) (map writes (d ∷ D)) ≡ false) (λ (p : Live). list_any (touches_any p.commands) (map writes D) ≡ false) (λ p h. (parts p h).1) F all))

  -- the live entries of L lead to these rows, and R holds of each
  abbrev pub Comes : (Numbered → Option Row → Option Row → Type 0) → List Entry → Rows → Type 0
  Comes R L V = Leads T (board_of T L) R [] (steps_of (live_of L)) V

  module _ (R : Numbered → Option Row → Option Row → Type 0) where
    pub comes_done : (L : List Entry) (e : Entry) (c : ℕ) (D : List Command) (V U : Rows) → done_by e ≡ Some (c, D) → Comes R L V → Leads T (board_of T L) R V (numbered (age (length L) 0) D) U → Comes R (L ++ e ∷ []) U
    comes_done L e c D V U is comes leads =
        let more : steps_of (live_of (L ++ e ∷ [])) ≡ steps_of (live_of L) ++ numbered (age (length L) 0) D =
        ap steps_of (live_done L e c D is) ∙ steps_append (live_of L) (live (length L) c D ∷ []) ∙ ap (λ X. steps_of (live_of L) ++ X) (append-nil (numbered (age (length L) 0) D)) in
        rw (board_done L e (c, D) is, more) (leads_join T (board_of T L) R (steps_of (live_of L)) (numbered (age (length L) 0) D) [] V U comes leads)

    pub comes_proposed : (L : List Entry) (c a b : ℕ) (P : List ℕ) (V : Rows) → Comes R L V → Comes R (L ++ Proposed c a b P ∷ []) V
    comes_proposed L c a b P V comes = rw (board_proposed L c a b P, live_proposed L c a b P) (leads_longer T (board_of T L) (proposal a b P ∷ []) R (steps_of (live_of L)) [] V comes)

    -- the commands of an undone entry are taken back, the last first, and what is left is the fold of the others
    pub record Undoes (L : List Entry) (c : ℕ) (g : Live) (V : Rows) : Type 0 where
      pub rows : Rows
      pub back : StepsBack T (board_of T L) R (reverse (births_of g)) V rows
      pub comes : Comes R (L ++ Undid c g.number ∷ []) rows

    pub comes_undid : (L : List Entry) (c : ℕ) (g : Live) (V : Rows) (E F : List Live) → All IsShort (live_of L) → live_of L ≡ E ++ g ∷ F → blocker_of L g ≡ None → Comes R L V → Undoes L c g V
    comes_undid L c g V E F short is none comes =
        let D : List Numbered = reverse (births_of g) in
        let parts : steps_of (E ++ g ∷ F) ≡ steps_of E ++ (reverse D ++ steps_of F) = steps_append E (g ∷ F) ∙ ap (λ X. steps_of E ++ (X ++ steps_of F)) (sym (reverse-reverse (births_of g))) in
        let rises : Rises 0 (steps_of E ++ (reverse D ++ steps_of F)) (age (length L) 0) = subst (λ X. Rises 0 X (age (length L) 0)) parts (rises_steps L (E ++ g ∷ F) short is) in
        let all : Leads T (board_of T L) R [] (steps_of E ++ (reverse D ++ steps_of F)) V = subst (λ X. Leads T (board_of T L) R [] X V) (ap steps_of is ∙ parts) comes in
        let clear : Clear T (board_of T L) R D (steps_of F) = All-reverse (IsClearOf F) (births_of g) (clear_of g.commands (age g.number 0) F (clear_after L g E F is none)) in
        let u = many_undone T (board_of T L) R (steps_of E) (steps_of F) D V (age (length L) 0) rises clear all in
        let rest : steps_of (live_of (L ++ Undid c g.number ∷ [])) ≡ steps_of E ++ steps_of F = ap steps_of (live_without L c g E F is) ∙ steps_append E F in
        record {
          rows = u.0;
          back = u.2;
          comes = rw (board_undid L c g.number, rest) u.1;
        }

    pub rows_come : (L : List Entry) (V : Rows) → Comes R L V → rows_of T L ≡ V
    rows_come L V comes = ap (λ o. unwrap_or o []) (fold_from_leads T (board_of T L) R (steps_of (live_of L)) [] V comes)

  -- The law: a legal log has a fold.
  abbrev pub HasRows : List Entry → Type 0
  HasRows L = Comes Nothing L (rows_of T L)

  has_rows : (L : List Entry) (V : Rows) → Comes Nothing L V → HasRows L
  has_rows L V comes = subst (Comes Nothing L) (sym (rows_come Nothing L V comes)) comes

  after_do : (L : List Entry) (c : ℕ) (d : Command) (q : Result (Option Row) MoveRefusal) → made_at T (board_of T L) (age (length L) 0) d (rows_of T L) ≡ q → HasRows L → HasRows (L ++ logged c (Do d) (done_or (length L) q))
  after_do L c d (Err why) is has = rw (append-nil L) has
  after_do L c d (Ok o) is has = has_rows (L ++ Did c d ∷ []) (with_row (rows_of T L) (writes d) o) (comes_done Nothing L (Did c d) c (d ∷ []) (rows_of T L) (with_row (rows_of T L) (writes d) o) refl has (o, is, tt, refl))

  after_all : (L : List Entry) (c : ℕ) (D : List Command) (q : Result Rows (ℕ × MoveRefusal)) → applied_all T (board_of T L) (age (length L) 0) D (rows_of T L) ≡ q → HasRows L → HasRows (L ++ logged c (DoAll D) (sized D (all_done_or (length L) q)))
  after_all L c D q is has = elim (cases_Bool (is_batch D)) [
    | inl h ↦ rw h (by q is)
    | inr h ↦ rw (h, append-nil L) has
  ]
    where
      by : (q : Result Rows (ℕ × MoveRefusal)) → applied_all T (board_of T L) (age (length L) 0) D (rows_of T L) ≡ q → HasRows (L ++ logged c (DoAll D) (all_done_or (length L) q))
      by (Err p) is = rw (append-nil L) has
      by (Ok V) is = has_rows (L ++ Batch c D ∷ []) V (comes_done Nothing L (Batch c D) c D (rows_of T L) V refl has (leads_from_batch T (board_of T L) D (age (length L) 0) 0 (rows_of T L) V is))

  module _ (L : List Entry) (short : All IsShort (live_of L)) (has : HasRows L) where
    after_undone : (c : ℕ) (call : Call) (e : Live) (b : Option Live) → ((n j : ℕ) → entry_of c call (Undone n j) ≡ Undid c j ∷ []) → (E F : List Live) → live_of L ≡ E ++ e ∷ F → blocker_of L e ≡ b → HasRows (L ++ logged c call (undone_or (length L) e b))
    after_undone c call e (Some b) enters E F split is = rw (append-nil L) has
    after_undone c call e None enters E F split is =
        let u = comes_undid Nothing L c e (rows_of T L) E F short split is has in
        rw (enters (length L) e.number) (has_rows (L ++ Undid c e.number ∷ []) u.rows u.comes)

    after_undo : (c : ℕ) (o : Option Live) → last_live L c ≡ o → HasRows (L ++ logged c Undo (undo_or L o))
    after_undo c None is = rw (append-nil L) has
    after_undo c (Some e) is = let s = last_split L c e is in after_undone c Undo e (blocker_of L e) (λ n j. refl) s.0 s.1 s.2 refl

    after_undo_live : (c j k : ℕ) (o : Option Live) → k < length L → live_at L k ≡ o → HasRows (L ++ logged c (UndoAt j) (undo_live_or L o))
    after_undo_live c j k None within is = rw (append-nil L) has
    after_undo_live c j k (Some e) within is = let s = among_live L k e within is in after_undone c (UndoAt j) e (blocker_of L e) (λ n i. refl) s.0 s.1 s.2 refl

    after_undo_own : (c j k : ℕ) (own : Bool) → k < length L → HasRows (L ++ logged c (UndoAt j) (undo_own_or L k own))
    after_undo_own c j k false within = rw (append-nil L) has
    after_undo_own c j k true within = after_undo_live c j k (live_at L k) within refl

    after_undo_at : (c j k : ℕ) (o : Option Entry) → slice_get L k ≡ o → HasRows (L ++ logged c (UndoAt j) (undo_at_or L c k o))
    after_undo_at c j k None is = rw (append-nil L) has
    after_undo_at c j k (Some e) is = after_undo_own c j k (is_own c (Some e)) (slice_get_within L k e is)

  -- an answer that may be 55 instead
  after_limited : (L : List Entry) (c : ℕ) (call : Call) (a : Result Reply Refusal) → HasRows L → HasRows (L ++ logged c call a) → HasRows (L ++ logged c call (limited L a))
  after_limited L c call a has after = elim (cases_Bool (ltb (length L) 1000000)) [
    | inl h ↦ rw h after
    | inr h ↦ rw (h, append-nil L) has
  ]

  after_seen : (L : List Entry) (c : ℕ) (call : Call) (look : Row → Reply) (o : Option Row) → entry_of c call ≡ (λ r. []) → HasRows L → HasRows (L ++ logged c call (seen_or look o))
  after_seen L c call look None none has = rw (append-nil L) has
  after_seen L c call look (Some r) none has = rw (ap (λ f. f (look r)) none, append-nil L) has

  after_proposed : (L : List Entry) (c a b : ℕ) (P : List ℕ) (o : Option ℕ) → HasRows L → HasRows (L ++ logged c (Propose a b P) (proposed_or T L a b P o))
  after_proposed L c a b P (Some p) has = rw (append-nil L) has
  after_proposed L c a b P None has = elim (cases_Bool (does_show T.events P a b)) [
    | inl h ↦ rw h (has_rows (L ++ Proposed c a b P ∷ []) (rows_of T L) (comes_proposed Nothing L c a b P (rows_of T L) has))
    | inr h ↦ rw (h, append-nil L) has
  ]

  pub after_call : (L : List Entry) (c : ℕ) (call : Call) → All IsShort (live_of L) → HasRows L → HasRows (log_after T L c call)
  after_call L c (Do d) short has = after_limited L c (Do d) (done_or (length L) (made_at T (board_of T L) (age (length L) 0) d (rows_of T L))) has (after_do L c d (made_at T (board_of T L) (age (length L) 0) d (rows_of T L)) refl has)
  after_call L c (DoAll D) short has = after_limited L c (DoAll D) (sized D (all_done_or (length L) (applied_all T (board_of T L) (age (length L) 0) D (rows_of T L)))) has (after_all L c D (applied_all T (board_of T L) (age (length L) 0) D (rows_of T L)) refl has)
  after_call L c Undo short has = after_limited L c Undo (undo_or L (last_live L c)) has (after_undo L short has c (last_live L c) refl)
  after_call L c (UndoAt k) short has = after_limited L c (UndoAt k) (undo_at_or L c k (slice_get L k)) has (after_undo_at L short has c k k (slice_get L k) refl)
  after_call L c (Propose a b P) short has = after_limited L c (Propose a b P) (proposed_or T L a b P (first_fault T.events P)) has (after_proposed L c a b P (first_fault T.events P) has)
  after_call L c (Show x) short has = after_seen L c (Show x) _ (row_of (rows_of T L) x) refl has
  after_call L c ListNames short has = rw (append-nil L) has
  after_call L c (Races x) short has = after_seen L c (Races x) _ (row_of (rows_of T L) x) refl has

  pub legal_has : (L : List Entry) → IsLegal T L → HasRows L
  legal_has _ starts = refl
  legal_has _ (goes_on L c call low high legal) = after_call L c call (lives_short L (legal_small T L legal)) (legal_has L legal)

  -- after a legal log the fold of the live commands exists: it is the rows
  pub legal_fold : (L : List Entry) → IsLegal T L → fold_of T (board_of T L) (steps_of (live_of L)) ≡ Some (rows_of T L)
  legal_fold L legal = fold_from_leads T (board_of T L) Nothing (steps_of (live_of L)) [] (rows_of T L) (legal_has L legal)
