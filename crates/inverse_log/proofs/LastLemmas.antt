-- A legal log that ends with an undo of the entry before it.
use Rattle.std.proofs.Common.{◌≡◌, inl, inr, ℕ, ◌<◌, Bool, true, false, ltb, List, [], ◌∷◌, ◌++◌, Option, Some, None, Result, Ok, Err, length, slice_get, refl, sym, ap, ◌∙◌, subst, arith}
use Rattle.std.proofs.lemmas.Bool.{cases_Bool}
use Rattle.std.proofs.lemmas.List.{append_assoc, append_cancel_left, length_push}
use Rattle.std.proofs.lemmas.Option.{slice_get_within}
use Rattle.rapid_text.specs.Recording.{Recording}
use Rattle.schedule.specs.Faults.{first_fault}
use Rattle.schedule.specs.Shows.{does_show}
use Rattle.moves.specs.declared.command.Command.{Command}
use Rattle.moves.specs.declared.refusal.MoveRefusal.{MoveRefusal}
use Rattle.moves.specs.declared.row.Row.{Row}
use Rattle.moves.specs.Ages.{age}
use Rattle.moves.specs.Moves.{made_at}
use Rattle.moves.specs.Batches.{applied_all}
use Rattle.moves.specs.Rows.{Rows, row_of}
use Rattle.inverse_log.specs.declared.entry.Entry.{Entry}
use Rattle.inverse_log.specs.declared.entry.Entry.TheVariants.{Undid, Proposed}
use Rattle.inverse_log.specs.declared.call.Call.{Call}
use Rattle.inverse_log.specs.declared.call.Call.TheVariants.{Do, Batch as DoAll, Undo, UndoAt, Propose, Show, List as ListNames, Races}
use Rattle.inverse_log.specs.declared.reply.Reply.{Reply}
use Rattle.inverse_log.specs.declared.reply.Reply.TheVariants.{Undone}
use Rattle.inverse_log.specs.declared.refusal.Refusal.{Refusal}
use Rattle.inverse_log.specs.Log.{Live, live_at, done_in, done_by, is_own, live_of, board_of, rows_of, last_live, blocker_of}
use Rattle.inverse_log.specs.Answer.{answer_of, limited, sized, is_batch, done_or, all_done_or, undone_or, undo_or, undo_live_or, undo_own_or, undo_at_or, proposed_or, seen_or, entry_of, logged, IsLegal, starts, goes_on}
use Rattle.inverse_log.specs.Headline.{UndoOfTheLastRestores}
use Rattle.inverse_log.proofs.CallerLemmas.{grown_by}
use Rattle.inverse_log.proofs.DirectLemmas.{undo_rows}
use Rattle.inverse_log.proofs.LawLemmas.{legal_has}
use Rattle.inverse_log.proofs.LiveLemmas.{IsAmong, among_live, last_split, live_there, get_last}

-- lists that end alike
ends : (L M : List Entry) (e f : Entry) → L ++ e ∷ [] ≡ M ++ f ∷ [] → (L ≡ M) × (e ≡ f)
ends [] [] e f h = (refl, cc)
ends [] (m ∷ M) e f h = let long : length (e ∷ []) ≡ length (m ∷ M ++ f ∷ []) = ap length h in absurd (omega (arith, long, length_push M f))
ends (l ∷ L) [] e f h = let long : length (l ∷ L ++ e ∷ []) ≡ length (f ∷ []) = ap length h in absurd (omega (arith, long, length_push L e))
ends (l ∷ L) (m ∷ M) e f h =
    let head : l ≡ m = cc in
    let tail : L ++ e ∷ [] ≡ M ++ f ∷ [] = cc in
    let rest = ends L M e f tail in
    (ap (λ x. x ∷ L) head ∙ ap (λ X. m ∷ X) rest.0, rest.1)

-- the call that made a legal log's last entry
pub record IsMadeBy (T : Recording) (M : List Entry) (e : Entry) : Type 0 where
  pub before : IsLegal T M
  pub client : ℕ
  pub call : Call
  pub entry : logged client call (answer_of T M client call) ≡ e ∷ []

made_by : (T : Recording) (N : List Entry) → IsLegal T N → (M : List Entry) (e : Entry) → N ≡ M ++ e ∷ [] → IsMadeBy T M e
made_by T _ starts M e is = let long : 0 ≡ length (M ++ e ∷ []) = ap length is in absurd (omega (arith, long, length_push M e))
made_by T _ (goes_on L c call low high legal) M e is = elim (grown_by L c call (answer_of T L c call)) [
  | inl same ↦ made_by T L legal M e (sym same ∙ is)
  | inr more ↦
      let end = ends L M more.0 e (sym more.1 ∙ is) in
      let entry : logged c call (answer_of T L c call) ≡ e ∷ [] = append_cancel_left L (logged c call (answer_of T L c call)) (e ∷ []) (more.1 ∙ ap (λ x. L ++ x ∷ []) end.1) in
      record { before = subst (IsLegal T) end.0 legal; client = c; call = call; entry = subst (λ X. logged c call (answer_of T X c call) ≡ e ∷ []) end.0 entry }
]

module _ (T : Recording) (M : List Entry) (a c k : ℕ) where
  -- what an undo takes back is live
  abbrev Found : Type 0
  Found = (g : Live) × (g.number ≡ k) × IsAmong (live_of M) g

  at_undone : (call : Call) (g : Live) (b : Option Live) → ((n j : ℕ) → entry_of a call (Undone n j) ≡ Undid a j ∷ []) → IsAmong (live_of M) g → logged a call (undone_or (length M) g b) ≡ Undid c k ∷ [] → Found
  at_undone call g None enters among h = let is : Undid a g.number ∷ [] ≡ Undid c k ∷ [] = sym (enters (length M) g.number) ∙ h in (g, cc, among)
  at_undone call g (Some b) enters among h = absurd cc

  at_undo : (o : Option Live) → last_live M a ≡ o → logged a Undo (undo_or M o) ≡ Undid c k ∷ [] → Found
  at_undo None is h = absurd cc
  at_undo (Some g) is h = let s = last_split M a g is in at_undone Undo g (blocker_of M g) (λ n j. refl) (s.0, s.1, s.2) h

  at_live : (j i : ℕ) (o : Option Live) → i < length M → live_at M i ≡ o → logged a (UndoAt j) (undo_live_or M o) ≡ Undid c k ∷ [] → Found
  at_live j i None within is h = absurd cc
  at_live j i (Some g) within is h = at_undone (UndoAt j) g (blocker_of M g) (λ n j. refl) (among_live M i g within is) h

  at_own : (j i : ℕ) (own : Bool) → i < length M → logged a (UndoAt j) (undo_own_or M i own) ≡ Undid c k ∷ [] → Found
  at_own j i false within h = absurd cc
  at_own j i true within h = at_live j i (live_at M i) within refl h

  at_number : (j i : ℕ) (o : Option Entry) → slice_get M i ≡ o → logged a (UndoAt j) (undo_at_or M a i o) ≡ Undid c k ∷ [] → Found
  at_number j i None is h = absurd cc
  at_number j i (Some e) is h = at_own j i (is_own a (Some e)) (slice_get_within M i e is) h

  -- no other call adds an undo
  at_do : (d : Command) (n : ℕ) (q : Result (Option Row) MoveRefusal) → logged a (Do d) (done_or n q) ≡ Undid c k ∷ [] → Found
  at_do d n (Ok o) h = absurd cc
  at_do d n (Err why) h = absurd cc

  at_all : (D : List Command) (n : ℕ) (q : Result Rows (ℕ × MoveRefusal)) → logged a (DoAll D) (sized D (all_done_or n q)) ≡ Undid c k ∷ [] → Found
  at_all D n q h = elim (cases_Bool (is_batch D)) [
    | inl t ↦ by q (rw t at h)
    | inr f ↦ let is : [] ≡ Undid c k ∷ [] = rw f at h in absurd cc
  ]
    where
      by : (q : Result Rows (ℕ × MoveRefusal)) → logged a (DoAll D) (all_done_or n q) ≡ Undid c k ∷ [] → Found
      by (Ok V) h = absurd cc
      by (Err p) h = absurd cc

  at_proposal : (x y : ℕ) (P : List ℕ) (o : Option ℕ) → logged a (Propose x y P) (proposed_or T M x y P o) ≡ Undid c k ∷ [] → Found
  at_proposal x y P (Some p) h = absurd cc
  at_proposal x y P None h = elim (cases_Bool (does_show T.events P x y)) [
    | inl t ↦ let is : Proposed a x y P ∷ [] ≡ Undid c k ∷ [] = rw t at h in absurd cc
    | inr f ↦ let is : [] ≡ Undid c k ∷ [] = rw f at h in absurd cc
  ]

  at_look : (call : Call) (look : Row → Reply) (o : Option Row) → entry_of a call ≡ (λ r. []) → logged a call (seen_or look o) ≡ Undid c k ∷ [] → Found
  at_look call look None none h = absurd cc
  at_look call look (Some r) none h = let is : [] ≡ Undid c k ∷ [] = sym (ap (λ f. f (look r)) none) ∙ h in absurd cc

  at_limited : (call : Call) (r : Result Reply Refusal) → logged a call (limited M r) ≡ Undid c k ∷ [] → logged a call r ≡ Undid c k ∷ []
  at_limited call r h = elim (cases_Bool (ltb (length M) 1000000)) [
    | inl t ↦ rw t at h
    | inr f ↦ let is : [] ≡ Undid c k ∷ [] = rw f at h in absurd cc
  ]

  found : (call : Call) → logged a call (answer_of T M a call) ≡ Undid c k ∷ [] → Found
  found (Do d) h = at_do d (length M) (made_at T (board_of T M) (age (length M) 0) d (rows_of T M)) (at_limited (Do d) _ h)
  found (DoAll D) h = at_all D (length M) (applied_all T (board_of T M) (age (length M) 0) D (rows_of T M)) (at_limited (DoAll D) _ h)
  found Undo h = at_undo (last_live M a) refl (at_limited Undo _ h)
  found (UndoAt j) h = at_number j j (slice_get M j) refl (at_limited (UndoAt j) _ h)
  found (Propose x y P) h = at_proposal x y P (first_fault T.events P) (at_limited (Propose x y P) _ h)
  found (Show x) h = at_look (Show x) _ (row_of (rows_of T M) x) refl h
  found ListNames h = absurd cc
  found (Races x) h = at_look (Races x) _ (row_of (rows_of T M) x) refl h

pub last_law : UndoOfTheLastRestores
last_law T L e c legal =
    let k = length L in
    let M : List Entry = L ++ e ∷ [] in
    let split : L ++ e ∷ Undid c k ∷ [] ≡ M ++ Undid c k ∷ [] = sym (append_assoc L (e ∷ []) (Undid c k ∷ [])) in
    let undo = made_by T (L ++ e ∷ Undid c k ∷ []) legal M (Undid c k) split in
    let done = made_by T M undo.before L e refl in
    let f = found T M undo.client c k undo.call undo.entry in
    let g : Live = f.0 in
    let there : done_in (slice_get M g.number) ≡ Some (g.client, g.commands) = live_there M g f.2.0 f.2.1 f.2.2 in
    let here : done_in (slice_get M g.number) ≡ done_by e = ap (λ o. done_in o) (ap (slice_get M) f.1 ∙ get_last L e) in
    let is : done_by e ≡ Some (g.client, g.commands) = sym here ∙ there in
    ap (rows_of T) split ∙ undo_rows T L e g.client g.commands is c (legal_has T L done.before) (legal_has T M undo.before)
