-- An undo asked for: its answer, and what a bench keeps.
use Rattle.std.proofs.Common.{◌≡◌, ℕ, ◌+◌, ◌<◌, ◌≤◌, Bool, true, eqb, List, [], ◌∷◌, ◌++◌, Option, Some, None, Result, Ok, Err, length, map, set, slice_get, sym, ap, ◌∙◌, subst, refl, arith}
use Rattle.std.specs.Arc.{arc_value}
use Rattle.std.specs.List.{list_any}
use Rattle.std.specs.Option.{option_map}
use Rattle.std.specs.Result.{IsOk}
use Rattle.std.proofs.lemmas.Bool.{lt-ltb}
use Rattle.rapid_text.specs.Recording.{Recording}
use Rattle.moves.specs.declared.board.Proposal.{Proposal}
use Rattle.moves.specs.declared.command.Command.{Command}
use Rattle.moves.specs.Batches.{CanTurnAll, IsTurnedAll, AreOfTrace}
use Rattle.moves.specs.Commands.{writes}
use Rattle.moves.specs.Rows.{Rows}
use Rattle.dependence.specs.Lists.{Lists, of_client, last_of, RemovedAll, Left}
use Rattle.inverse_log.specs.declared.bench.Bench.TheInside.{Inside}
use Rattle.inverse_log.specs.declared.call.Call.{Call}
use Rattle.inverse_log.specs.declared.call.Call.TheVariants.{Undo, UndoAt}
use Rattle.inverse_log.specs.declared.entry.Entry.{Entry}
use Rattle.inverse_log.specs.declared.entry.Entry.TheVariants.{Undid}
use Rattle.inverse_log.specs.declared.kept.Held.{Held}
use Rattle.inverse_log.specs.declared.kept.Held.TheVariants.{Nothing}
use Rattle.inverse_log.specs.declared.refusal.Refusal.{Refusal}
use Rattle.inverse_log.specs.declared.refusal.Refusal.TheVariants.{Move, NothingToUndo, RestsOn, NotReordering, NotShown, LogFull, OutOfMemory, NoSuchEntry, NotOwn, NotLive, BadBatch, InBatch}
use Rattle.inverse_log.specs.declared.reply.Reply.{Reply}
use Rattle.inverse_log.specs.declared.reply.Reply.TheVariants.{Undone}
use Rattle.inverse_log.specs.Answer.{answer_of, limited, undo_or, undone_or, entry_of, Called, IsLegal, goes_on}
use Rattle.inverse_log.specs.Kept.{IsBench, IsLive, live_there, IsUnblocked, IsUndone}
use Rattle.inverse_log.specs.Log.{Benched, Live, live, live_of, done_in, commands_in, commands_at, is_by, is_own, last_live, blocker_of}
use Rattle.inverse_log.specs.Nearest.{nearest}
use Rattle.inverse_log.specs.Steps.{inverses_of}
use Rattle.inverse_log.specs.Touching.{entry_number, touches_name}
use Rattle.inverse_log.proofs.CountLemmas.{edits_push, few_at}
use Rattle.inverse_log.proofs.DoLemmas.{after_ok, ok_may, bench_same, small, short, eqb_turn}
use Rattle.inverse_log.proofs.Inner.{Keeps, benched}
use Rattle.inverse_log.proofs.KeptLemmas.{undo_within, undo_can, undo_of, undo_whole, undo_kept, set_back}
use Rattle.inverse_log.proofs.LiveLemmas.{last_split, last_mine, live_there as lives_there}
use Rattle.inverse_log.proofs.NearestLemmas.{told, nearest_blocker}
use Rattle.inverse_log.proofs.NumberedLemmas.{at_asks, at_live}
use Rattle.inverse_log.proofs.TouchingLemmas.{find_last, numbers_undid}

no_number : (o : Option Live) → None ≡ option_map entry_number o → o ≡ None
no_number None h = refl
no_number (Some g) h = absurd cc

a_number : (k : ℕ) (o : Option Live) → Some k ≡ option_map entry_number o → (g : Live) × (o ≡ Some g) × (g.number ≡ k)
a_number k None h = absurd cc
a_number k (Some g) h = (g, refl, let e : Some k ≡ Some g.number = h in let f : k ≡ g.number = cc in sym f)

-- the refusal for what an undo rests on
abbrev rests_as : Option (ℕ × List ℕ) → Result Reply Refusal
rests_as None = Err NothingToUndo
rests_as (Some p) = Err (RestsOn p.0 p.1)

-- what a call that asks for an undo of the client's live entry k may rest on
pub record IsAsked (v : Benched) (c k : ℕ) (call : Call) : Type 0 where
  pub room : length v.log < 1000000
  pub live : IsLive v.log (live_there v.log c k)
  pub legal : blocker_of v.log (live_there v.log c k) ≡ None → IsLegal v.trace (v.log ++ Undid c k ∷ [])
  pub called : (r : Result Reply Refusal) (M : List Entry) → IsUndone v.log c (live_there v.log c k) r M → Called v.trace v.log c call r M

module _ (own : Inside) (b : Keeps own) where
  abbrev T : Recording
  T = arc_value own.indexed

  abbrev L : List Entry
  L = own.log.items

  abbrev W : Rows
  W = own.rows.rows

  abbrev B : List Proposal
  B = own.board

  abbrev steps : List Held
  steps = own.steps.items

  abbrev N : Lists
  N = own.touches

  abbrev C : List (List ℕ)
  C = own.clients

  own_last : (c : ℕ) (o : Option ℕ) → o ≡ last_of (of_client C c) → o ≡ option_map entry_number (last_live L c)
  own_last c o h = h ∙ ap last_of (b.listed.clients c) ∙ sym (find_last (is_by c) (live_of L))

  pub undo_none : (n c : ℕ) → n ≡ length L → n < 1000000 → None ≡ last_of (of_client C c) → answer_of T L c Undo ≡ Err NothingToUndo
  undo_none n c is room h = rw (lt-ltb (length L) 1000000 (omega (arith, room, is)), no_number (last_live L c) (own_last c None h)) refl

  -- the client's last number is that of its greatest live entry
  found : (c k : ℕ) → Some k ≡ last_of (of_client C c) → (g : Live) × (last_live L c ≡ Some g) × (g ≡ live_there L c k) × IsLive L g
  found c k h =
      let f = a_number k (last_live L c) (own_last c (Some k) h) in
      let g : Live = f.0 in
      let s = last_split L c g f.1 in
      let there : done_in (slice_get L g.number) ≡ Some (g.client, g.commands) = lives_there L g s.0 s.1 s.2 in
      let commands : g.commands ≡ commands_at L k = sym (ap commands_in there) ∙ ap (commands_at L) f.2 in (
        g,
        f.1,
        live_is g k c (commands_at L k) f.2 (last_mine L c g f.1) commands,
        record { earlier = s.0; later = s.1; split = s.2 },
      )
    where
      live_is : (g : Live) (k c : ℕ) (D : List Command) → g.number ≡ k → g.client ≡ c → g.commands ≡ D → g ≡ live k c D
      live_is g k c D hk hc hd = λ i. record { number = hk i; client = hc i; commands = hd i }

  module _ (c k : ℕ) where
    abbrev g : Live
    g = live_there L c k

    last_lives : Some k ≡ last_of (of_client C c) → IsLive L g
    last_lives h = let f = found c k h in subst (IsLive L) f.2 f.3

    last_answers : Some k ≡ last_of (of_client C c) → answer_of T L c Undo ≡ limited L (undone_or (length L) g (blocker_of L g))
    last_answers h = let f = found c k h in ap (λ o. limited L (undo_or L o)) (f.1 ∙ ap Some f.2)

    blocked : (o : Option (ℕ × List ℕ)) (D : List Command) → D ≡ commands_at L k → o ≡ nearest k N (map writes D) → o ≡ told g (blocker_of L g)
    blocked o D is h = h ∙ ap (λ X. nearest k N (map writes X)) is ∙ nearest_blocker L g N b.listed.names

    a_blocker : (j : ℕ) (x : List ℕ) (o : Option Live) → Some (j, x) ≡ told g o → undone_or (length L) g o ≡ Err (RestsOn j x)
    a_blocker j x None h = absurd cc
    a_blocker j x (Some e) h = ap rests_as (sym h)

    no_blocker : (o : Option Live) → None ≡ told g o → o ≡ None
    no_blocker None h = refl
    no_blocker (Some e) h = absurd cc

    pub undo_rests : (j : ℕ) (x : List ℕ) (D : List Command) → D ≡ commands_at L k → Some (j, x) ≡ nearest k N (map writes D) → undone_or (length L) g (blocker_of L g) ≡ Err (RestsOn j x)
    undo_rests j x D is h = a_blocker j x (blocker_of L g) (blocked (Some (j, x)) D is h)

    undo_free : (D : List Command) → IsLive L g → D ≡ commands_at L k → None ≡ nearest k N (map writes D) → IsUnblocked L g
    undo_free D lives is h = record {
      earlier = lives.earlier;
      later = lives.later;
      split = lives.split;
      free = no_blocker (blocker_of L g) (blocked None D is h);
    }

    -- the same of what a contract sees of the bench, and of commands that were read from the log
    pub undo_free_in : (v : Benched) (seen : List Entry) (D : List Command) → benched own ≡ v → IsLive v.log (live_there v.log c k) → seen ≡ L → D ≡ commands_at seen k → None ≡ nearest k N (map writes D) → IsUnblocked L g
    undo_free_in v seen D view lives see is h = undo_free D (subst (λ (v : Benched). IsLive v.log (live_there v.log c k)) (sym view) lives) (is ∙ ap (λ X. commands_at X k) see) h

    pub free_answers : (n : ℕ) → n ≡ length L → IsUnblocked L g → undone_or (length L) g (blocker_of L g) ≡ Ok (Undone n k)
    free_answers n is free = ap (undone_or (length L) g) free.free ∙ ap (λ m. Ok (Undone m k)) (sym is)

    -- where a call asks for this undo, what the undo answers is what the call answers
    module _ (call : Call) (asks : answer_of T L c call ≡ limited L (undone_or (length L) g (blocker_of L g))) (enters : (n j : ℕ) → entry_of c call (Undone n j) ≡ Undid c j ∷ []) (room : length L < 1000000) where
      answers : answer_of T L c call ≡ undone_or (length L) g (blocker_of L g)
      answers = asks ∙ rw (lt-ltb (length L) 1000000 room) refl

      undo_legal : 1 ≤ c → c ≤ 32 → blocker_of L g ≡ None → IsLegal T (L ++ Undid c k ∷ [])
      undo_legal low high none =
          let is : answer_of T L c call ≡ Ok (Undone (length L) k) = answers ∙ ap (undone_or (length L) g) none in
          subst (IsLegal T) (sym (after_ok T L (L ++ Undid c k ∷ []) c call (Undone (length L) k) is (ap (λ X. L ++ X) (sym (enters (length L) k))))) (goes_on L c call low high b.legal)

      undone_reply : (o : Option Live) (reply : Reply) → undone_or (length L) g o ≡ Ok reply → reply ≡ Undone (length L) k
      undone_reply None reply h = let is : Undone (length L) k ≡ reply = cc in sym is
      undone_reply (Some e) reply h = absurd cc

      undo_called : (M : List Entry) (r : Result Reply Refusal) → IsUndone L c g r M → Called T L c call r M
      undo_called M (Ok reply) h =
          let same : reply ≡ Undone (length L) k = undone_reply (blocker_of L g) reply h.0 in
          let entry : entry_of c call reply ≡ Undid c k ∷ [] = ap (entry_of c call) same ∙ enters (length L) k in
          (answers ∙ h.0, after_ok T L M c call reply (answers ∙ h.0) (h.1 ∙ ap (λ X. L ++ X) (sym entry)))
      undo_called M (Err OutOfMemory) h = (ok_may (answer_of T L c call) (subst IsOk (sym answers) h.0), h.1)
      undo_called M (Err LogFull) h = (answers ∙ h.0, h.1)
      undo_called M (Err (Move why)) h = (answers ∙ h.0, h.1)
      undo_called M (Err NothingToUndo) h = (answers ∙ h.0, h.1)
      undo_called M (Err (RestsOn j x)) h = (answers ∙ h.0, h.1)
      undo_called M (Err (NotReordering p)) h = (answers ∙ h.0, h.1)
      undo_called M (Err NotShown) h = (answers ∙ h.0, h.1)
      undo_called M (Err NoSuchEntry) h = (answers ∙ h.0, h.1)
      undo_called M (Err NotOwn) h = (answers ∙ h.0, h.1)
      undo_called M (Err NotLive) h = (answers ∙ h.0, h.1)
      undo_called M (Err BadBatch) h = (answers ∙ h.0, h.1)
      undo_called M (Err (InBatch place why)) h = (answers ∙ h.0, h.1)

      undo_asked : 1 ≤ c → c ≤ 32 → IsLive L g → (v : Benched) → benched own ≡ v → IsAsked v c k call
      undo_asked low high lives v view = subst (λ (v : Benched). IsAsked v c k call) view (record { room = room; live = lives; legal = undo_legal low high; called = λ r M h. undo_called M r h })

    -- an undo of the client's latest entry
    pub last_asked : Some k ≡ last_of (of_client C c) → length L < 1000000 → 1 ≤ c → c ≤ 32 → (v : Benched) → benched own ≡ v → IsAsked v c k Undo
    last_asked h room low high v view = undo_asked Undo (last_answers h) (λ n j. refl) room low high (last_lives h) v view

    -- an undo of the entry k, where the log that was read says that it is the client's, and the list of the client's entries has it
    pub at_asked : (n : ℕ) → n ≡ length L → n < 1000000 → (seen : List Entry) (own' listed : Bool) → seen ≡ L → own' ≡ true → own' ≡ is_own c (slice_get seen k) → listed ≡ true → listed ≡ list_any (eqb k) (of_client C c) → 1 ≤ c → c ≤ 32
        → (v : Benched) → benched own ≡ v → IsAsked v c k (UndoAt k)
    at_asked n is room seen own' listed see told' mine there lists low high v view =
        let of : true ≡ is_own c (slice_get L k) = sym told' ∙ mine ∙ ap (λ X. is_own c (slice_get X k)) see in
        let has : true ≡ list_any (eqb k) (of_client C c) = sym there ∙ lists in
        undo_asked (UndoAt k) (at_asks own b n c k is room of has) (λ n j. refl) (omega (arith, is, room)) low high (at_live own b n c k is room of has) v view

    module _ (free : IsUnblocked L g) where
      pub take_within : (n : ℕ) → n ≡ length steps → k < n
      take_within n is = rw is (undo_within T L W B steps c g b.kept (short own b) free)

      module _ (h : Held) (taken : slice_get steps k ≡ Some h) (D : List Command) (same : D ≡ commands_at L k) where
        pub take_can : CanTurnAll (inverses_of h D) W
        take_can = rw same (undo_can T L W B steps c g b.kept (short own b) free h taken)

        pub take_of : (J : Recording) → J ≡ T → AreOfTrace J (inverses_of h D)
        take_of J trace = rw (trace, same) (undo_of T L W B steps c g b.kept (short own b) free h taken)

        pub take_few : length D ≤ 64
        take_few = rw same (few_at L k (small own b))

        pub take_whole : length (inverses_of h D) ≡ length D
        take_whole = rw same (undo_whole T L W B steps c g b.kept (short own b) free h taken)

        pub took_bench : (M : List Entry) (V : Rows) (later : List Held) (N' : Lists) (C' : List (List ℕ)) (j : ℕ) → IsTurnedAll (inverses_of h D) W V → later ≡ set steps k Nothing ++ Nothing ∷ [] → M ≡ L ++ Undid c k ∷ []
            → RemovedAll k D N N' → Left c k C C' → j ≡ own.rows.edits + length D → IsLegal T (L ++ Undid c k ∷ []) → IsBench T M V B later N' C' j
        took_bench M V later N' C' j turned inv log names clients edits legal = rw (log, inv) (record {
          kept = undo_kept T L W B steps c g b.kept (short own b) free h taken V (subst (λ X. IsTurnedAll (inverses_of h X) W V) same turned);
          listed = record {
            names = λ y. names y ∙ rw (same, b.listed.names y) (sym (numbers_undid (touches_name y) L c g free.earlier free.later free.split));
            clients = λ a. clients a ∙ rw (b.listed.clients a, eqb_turn a c) (sym (numbers_undid (is_by a) L c g free.earlier free.later free.split));
          };
          legal = legal;
          counted = let long : length D ≡ length (commands_at L k) = ap length same in let more = edits_push L (Undid c k) in omega (arith, edits, b.counted, long, more);
          disciplined = b.disciplined;
        })

      pub back_bench : (M : List Entry) (V : Rows) (s t : Held) (later : List Held) (j : ℕ) → slice_get steps k ≡ Some s → V ≡ W → t ≡ s → later ≡ set (set steps k Nothing) k t → M ≡ L → j ≡ own.rows.edits → IsBench T M V B later N C j
      back_bench M V s t later j taken rows same inv log edits =
          bench_same own b M V later N C j log rows (inv ∙ ap (λ e. set (set steps k Nothing) k e) same ∙ set_back steps k s Nothing taken) (λ x. refl) (λ a. refl) edits
