-- Lemmas for the crates above: what a caller has of a call.
use Rattle.std.proofs.Common.{◌≡◌, ◌≢◌, ◌⊎◌, inl, inr, ℕ, zero, suc, ◌+◌, ◌<◌, ◌≤◌, true, false, ltb, List, [], ◌∷◌, ◌++◌, Option, Some, None, Result, Ok, Err, All, length, reverse, slice_get, sym, ap, ◌∙◌, subst, refl, arith, le_refl}
use Rattle.std.specs.List.{find, list_any}
use Rattle.std.proofs.lemmas.Bool.{cases_Bool, le-ltb, eq-eqb, and_left}
use Rattle.std.proofs.lemmas.List.{append-nil, reverse-append, reverse-reverse, length_push}
use Rattle.std.proofs.lemmas.List.Elements.{All-nil, All-cons, All-head, All-tail, All-weaker, All-push}
use Rattle.event_index.proofs.CallerLemmas.{all_fail-find}
use Rattle.moves.specs.declared.command.Command.{Command}
use Rattle.rapid_text.specs.Recording.{Recording}
use Rattle.moves.specs.Commands.{touches_any}
use Rattle.moves.specs.Batches.{applied_all}
use Rattle.moves.specs.Ages.{age}
use Rattle.moves.specs.Moves.{made_at}
use Rattle.inverse_log.specs.declared.entry.Entry.{Entry}
use Rattle.inverse_log.specs.declared.entry.Entry.TheVariants.{Did, Batch, Undid, Proposed}
use Rattle.inverse_log.specs.declared.call.Call.{Call}
use Rattle.inverse_log.specs.declared.call.Call.TheVariants.{Do, Batch as DoAll, Undo, UndoAt, Propose, Show, List as ListNames, Races}
use Rattle.inverse_log.specs.declared.reply.Reply.{Reply}
use Rattle.inverse_log.specs.declared.reply.Reply.TheVariants.{Done, Undone, Proposed as ProposedAs, Shown, Shows}
use Rattle.inverse_log.specs.declared.refusal.Refusal.{Refusal}
use Rattle.inverse_log.specs.declared.refusal.Refusal.TheVariants.{LogFull, Move, NothingToUndo, RestsOn, NotReordering, NotShown, OutOfMemory, NoSuchEntry, NotOwn, NotLive, BadBatch, InBatch}
use Rattle.inverse_log.specs.Log.{Live, client_of, done_by, done_in, live_of, last_live, written, board_of, rows_of, is_by, blocks, blocker_of}
use Rattle.inverse_log.specs.Pairs.{shown_pairs}
use Rattle.moves.specs.Rows.{row_of}
use Rattle.inverse_log.specs.Answer.{answer_of, sized, done_or, all_done_or, undo_or, undo_at_or, proposed_or, undone_or, entry_of, logged, log_after, Called, Grown, IsAlone, IsLegal, goes_on}
use Rattle.schedule.specs.Faults.{first_fault}
use Rattle.inverse_log.proofs.LiveLemmas.{Climbs, IsThere, rises_above, rises_live, live_theres}
use Rattle.inverse_log.proofs.ReplyLemmas.{done_reply, all_done_reply, undo_reply, undo_at_reply, proposed_reply, seen_reply}
use Rattle.inverse_log.proofs.SizeLemmas.{IsUndid, entry_undo, entry_undo_at, limited_ok, sized_ok}
use Rattle.inverse_log.proofs.LawLemmas.{All-reverse, HasRows, legal_has}
use Rattle.inverse_log.proofs.DirectLemmas.{undo_answer, undo_rows}

grown_undid : (L E : List Entry) (c : ℕ) → IsUndid c E → Grown L c (L ++ E)
grown_undid L E c is = elim is [
  | inl none ↦ inl (ap (λ X. L ++ X) none ∙ append-nil L)
  | inr one ↦ inr (Undid c one.0, ap (λ X. L ++ X) one.1, refl)
]

-- what an answer adds to the log
pub grown_by : (L : List Entry) (c : ℕ) (call : Call) (a : Result Reply Refusal) → Grown L c (L ++ logged c call a)
grown_by L c call (Err why) = inl (append-nil L)
grown_by L c (Do d) (Ok reply) = inr (Did c d, refl, refl)
grown_by L c (DoAll D) (Ok reply) = inr (Batch c D, refl, refl)
grown_by L c Undo (Ok reply) = grown_undid L (entry_of c Undo reply) c (entry_undo c reply)
grown_by L c (UndoAt j) (Ok reply) = grown_undid L (entry_of c (UndoAt j) reply) c (entry_undo_at c j reply)
grown_by L c (Propose a b P) (Ok reply) = inr (Proposed c a b P, refl, refl)
grown_by L c (Show x) (Ok reply) = inl (append-nil L)
grown_by L c ListNames (Ok reply) = inl (append-nil L)
grown_by L c (Races x) (Ok reply) = inl (append-nil L)

-- the log afterwards is the old one, or the one that the definition gives
pub called_next : (T : Recording) (L M : List Entry) (c : ℕ) (call : Call) (r : Result Reply Refusal) → Called T L c call r M → (M ≡ L) ⊎ (M ≡ log_after T L c call)
called_next T L M c call (Ok reply) h = inr h.1
called_next T L M c call (Err OutOfMemory) h = inl h.1
called_next T L M c call (Err LogFull) h = inl h.1
called_next T L M c call (Err (Move why)) h = inl h.1
called_next T L M c call (Err NothingToUndo) h = inl h.1
called_next T L M c call (Err (RestsOn k x)) h = inl h.1
called_next T L M c call (Err (NotReordering p)) h = inl h.1
called_next T L M c call (Err NotShown) h = inl h.1
called_next T L M c call (Err NoSuchEntry) h = inl h.1
called_next T L M c call (Err NotOwn) h = inl h.1
called_next T L M c call (Err NotLive) h = inl h.1
called_next T L M c call (Err BadBatch) h = inl h.1
called_next T L M c call (Err (InBatch place why)) h = inl h.1

-- it is the old one, or the old one and one entry of that client
pub called_grown : (T : Recording) (L M : List Entry) (c : ℕ) (call : Call) (r : Result Reply Refusal) → Called T L c call r M → Grown L c M
called_grown T L M c call r h = elim (called_next T L M c call r h) [
  | inl same ↦ inl same
  | inr more ↦ subst (Grown L c) (sym more) (grown_by L c call (answer_of T L c call))
]

-- a legal log stays legal
pub called_legal : (T : Recording) (L M : List Entry) (c : ℕ) (call : Call) (r : Result Reply Refusal) → 1 ≤ c → c ≤ 32 → IsLegal T L → Called T L c call r M → IsLegal T M
called_legal T L M c call r low high legal h = elim (called_next T L M c call r h) [
  | inl same ↦ subst (IsLegal T) (sym same) legal
  | inr more ↦ subst (IsLegal T) (sym more) (goes_on L c call low high legal)
]

-- what a call did that is answered so: a command, or a batch
pub record HasDone (L M : List Entry) (c n : ℕ) : Type 0 where
  pub entry : Entry
  pub commands : List Command
  pub did : done_by entry ≡ Some (c, commands)
  pub number : n ≡ length L
  pub log : M ≡ L ++ entry ∷ []

same_number : (n m : ℕ) → Done m ≡ Done n → m ≡ n
same_number n m h = cc

pub done_entry : (T : Recording) (L M : List Entry) (c n : ℕ) (call : Call) → Called T L c call (Ok (Done n)) M → HasDone L M c n
done_entry T L M c n (Do d) h =
    let q = made_at T (board_of T L) (age (length L) 0) d (rows_of T L) in
    record {
      entry = Did c d;
      commands = d ∷ [];
      did = refl;
      number = same_number (length L) n (done_reply (length L) (Done n) q (limited_ok L (done_or (length L) q) (Done n) h.0));
      log = h.1 ∙ ap (λ a. L ++ logged c (Do d) a) h.0;
    }
done_entry T L M c n (DoAll D) h =
    let q = applied_all T (board_of T L) (age (length L) 0) D (rows_of T L) in
    record {
      entry = Batch c D;
      commands = D;
      did = refl;
      number = same_number (length L) n (all_done_reply (length L) (Done n) q (sized_ok D (all_done_or (length L) q) (Done n) (limited_ok L (sized D (all_done_or (length L) q)) (Done n) h.0)).1);
      log = h.1 ∙ ap (λ a. L ++ logged c (DoAll D) a) h.0;
    }
done_entry T L M c n Undo h = let is = undo_reply L (last_live L c) (Done n) (limited_ok L (undo_or L (last_live L c)) (Done n) h.0) in let e : Done n ≡ Undone (length L) is.0 = is.1 in absurd cc
done_entry T L M c n (UndoAt j) h = let is = undo_at_reply L c j (slice_get L j) (Done n) (limited_ok L (undo_at_or L c j (slice_get L j)) (Done n) h.0) in let e : Done n ≡ Undone (length L) is.0 = is.1 in absurd cc
done_entry T L M c n (Propose a b P) h =
    let e : Done n ≡ ProposedAs (length L) (length (board_of T L)) = proposed_reply T L a b P (first_fault T.events P) (Done n) (limited_ok L (proposed_or T L a b P (first_fault T.events P)) (Done n) h.0) in
    absurd cc
done_entry T L M c n (Show x) h = let is = seen_reply (λ r. Shown r.schedule.events) (row_of (rows_of T L) x) (Done n) h.0 in let e : Done n ≡ Shown is.0.schedule.events = is.1 in absurd cc
done_entry T L M c n ListNames h = absurd cc
done_entry T L M c n (Races x) h = let is = seen_reply (λ r. Shows (shown_pairs T.events r.schedule.events)) (row_of (rows_of T L) x) (Done n) h.0 in let e : Done n ≡ Shows (shown_pairs T.events is.0.schedule.events) = is.1 in absurd cc

-- An undo directly after it.
pub undo_directly : (T : Recording) (L M : List Entry) (c n : ℕ) (call : Call) → Called T L c call (Ok (Done n)) M → n + 1 < 1000000 → answer_of T M c Undo ≡ Ok (Undone (n + 1) n)
undo_directly T L M c n call h room =
    let e = done_entry T L M c n call h in
    let long : length (L ++ e.entry ∷ []) ≡ n + 1 = omega (arith, e.number, length_push L e.entry) in
    subst (λ X. answer_of T X c Undo ≡ Ok (Undone (n + 1) n)) (sym e.log) (undo_answer T L e.entry c e.commands e.did (omega (arith, e.number)) ∙ ap (λ m. Ok (Undone m (length L))) long ∙ ap (λ k. Ok (Undone (n + 1) k)) (sym e.number))

pub undo_restores : (T : Recording) (L M N : List Entry) (c n : ℕ) (call : Call) → 1 ≤ c → c ≤ 32 → IsLegal T L → Called T L c call (Ok (Done n)) M → n + 1 < 1000000 → N ≡ log_after T M c Undo → rows_of T N ≡ rows_of T L
undo_restores T L M N c n call low high legal h room after =
    let e = done_entry T L M c n call h in
    let now : IsLegal T M = called_legal T L M c call (Ok (Done n)) low high legal h in
    let has : HasRows T (L ++ e.entry ∷ []) = subst (HasRows T) e.log (legal_has T M now) in
    let is : N ≡ (L ++ e.entry ∷ []) ++ Undid c (length L) ∷ [] = after ∙ ap (λ a. M ++ logged c Undo a) (undo_directly T L M c n call h room) ∙ ap (λ k. M ++ Undid c k ∷ []) e.number ∙ ap (λ X. X ++ Undid c (length L) ∷ []) e.log in
    ap (rows_of T) is ∙ undo_rows T L e.entry c e.commands e.did c (legal_has T L legal) has

-- A client alone is never answered 52.
rises_last : (E : List Live) (g : Live) (low high : ℕ) → Climbs low (E ++ g ∷ []) high → All (λ (p : Live). p.number ≤ g.number) (E ++ g ∷ [])
rises_last [] g low high r = All-cons (λ (p : Live). p.number ≤ g.number) g [] (le_refl g.number) (All-nil (λ (p : Live). p.number ≤ g.number))
rises_last (e ∷ E) g low high r =
    let up : e.number + 1 ≤ g.number = ends E (rises_above (E ++ g ∷ []) (e.number + 1) high r.1) in
    All-cons (λ (p : Live). p.number ≤ g.number) e (E ++ g ∷ []) (omega arith) (rises_last E g (e.number + 1) high r.1)
  where
    ends : (E : List Live) → All (λ (p : Live). e.number + 1 ≤ p.number) (E ++ g ∷ []) → e.number + 1 ≤ g.number
    ends [] all = All-head (λ (p : Live). e.number + 1 ≤ p.number) g [] all
    ends (f ∷ E) all = ends E (All-tail (λ (p : Live). e.number + 1 ≤ p.number) f (E ++ g ∷ []) all)

All-at : (P : Entry → Type 0) (L : List Entry) (k : ℕ) (e : Entry) → All P L → slice_get L k ≡ Some e → P e
All-at P [] k e all at = absurd cc
All-at P (f ∷ L) zero e all at = let is : f ≡ e = cc in subst P is (All-head P f L all)
All-at P (f ∷ L) (suc k) e all at = All-at P L k e (All-tail P f L all) at

-- the entry that did something, and whose it is
abbrev whose : Option (ℕ × List Command) → ℕ
whose None = 0
whose (Some p) = p.0

pub done_client : (e : Entry) (c : ℕ) (D : List Command) → done_by e ≡ Some (c, D) → client_of e ≡ c
done_client (Did a d) c D is = ap whose is
done_client (Batch a E) c D is = ap whose is
done_client (Undid a k) c D is = absurd cc
done_client (Proposed a x y P) c D is = absurd cc

pub entry_there : (L : List Entry) (k c : ℕ) (D : List Command) → done_in (slice_get L k) ≡ Some (c, D) → (e : Entry) × (slice_get L k ≡ Some e) × (done_by e ≡ Some (c, D))
entry_there L k c D is = by (slice_get L k) is
  where
    by : (o : Option Entry) → done_in o ≡ Some (c, D) → (e : Entry) × (o ≡ Some e) × (done_by e ≡ Some (c, D))
    by None is = absurd cc
    by (Some e) is = (e, refl, is)

module _ (T : Recording) (L : List Entry) (c : ℕ) (alone : IsAlone c L) where
  mine : All (λ (p : Live). is_by c p ≡ true) (live_of L)
  mine = All-weaker (IsThere L) (λ (p : Live). is_by c p ≡ true) (λ p at. let e = entry_there L p.number p.client p.commands at in eq-eqb p.client c (sym (done_client e.0 p.client p.commands e.2) ∙ All-at (λ (e : Entry). client_of e ≡ c) L p.number e.0 alone e.1)) (live_of L) (live_theres L)

  -- its greatest live entry is the last of all, so none blocks it
  undo_case : (R : List Live) → reverse (live_of L) ≡ R → All (λ (p : Live). is_by c p ≡ true) R → (k : ℕ) (x : List ℕ) → undo_or L (find (is_by c) R) ≢ Err (RestsOn k x)
  undo_case [] is all k x h = absurd cc
  undo_case (g ∷ R) is all k x h =
      let split : live_of L ≡ reverse R ++ g ∷ [] = sym (reverse-reverse (live_of L)) ∙ ap reverse is ∙ reverse-append (g ∷ []) R in
      let low : All (λ (p : Live). p.number ≤ g.number) (live_of L) = subst (All (λ (p : Live). p.number ≤ g.number)) (sym split) (rises_last (reverse R) g 0 (length L) (subst (λ X. Climbs 0 X (length L)) split (rises_live L))) in
      let none : blocker_of L g ≡ None = all_fail-find (blocks g) (live_of L) (All-weaker (λ (p : Live). p.number ≤ g.number) (λ p. blocks g p ≡ false) (λ p le. and_left (ltb g.number p.number) (list_any (touches_any p.commands) (written g)) (le-ltb g.number p.number le)) (live_of L) low) in
      let here : is_by c g ≡ true = All-head (λ (p : Live). is_by c p ≡ true) g R all in
      let answer : undo_or L (find (is_by c) (g ∷ R)) ≡ Ok (Undone (length L) g.number) = rw here (ap (undone_or (length L) g) none) in
      absurd cc

  pub never_rests : (k : ℕ) (x : List ℕ) → answer_of T L c Undo ≢ Err (RestsOn k x)
  never_rests k x h = elim (cases_Bool (ltb (length L) 1000000)) [
    | inl t ↦ undo_case (reverse (live_of L)) refl (All-reverse (λ (p : Live). is_by c p ≡ true) (live_of L) mine) k x (rw t at h)
    | inr f ↦ let e : Err LogFull ≡ Err (RestsOn k x) = rw f at h in absurd cc
  ]

-- and stays alone
pub called_alone : (T : Recording) (L M : List Entry) (c : ℕ) (call : Call) (r : Result Reply Refusal) → Called T L c call r M → IsAlone c L → IsAlone c M
called_alone T L M c call r h alone = elim (called_grown T L M c call r h) [
  | inl same ↦ subst (IsAlone c) (sym same) alone
  | inr more ↦ subst (IsAlone c) (sym more.1) (All-push (λ (e : Entry). client_of e ≡ c) L more.0 alone more.2)
]
