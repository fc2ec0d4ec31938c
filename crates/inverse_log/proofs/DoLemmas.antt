-- A command or a batch asked for: its answer, and what a bench keeps.
use Rattle.std.proofs.Common.{◌≡◌, inl, inr, ℕ, ◌+◌, true, false, ◌<◌, ◌≤◌, eqb, List, [], ◌∷◌, ◌++◌, Option, Some, Result, Ok, Err, All, length, sym, ap, ◌∙◌, subst, refl, arith}
use Rattle.std.specs.Arc.{arc_value}
use Rattle.std.specs.Result.{IsOk}
use Rattle.std.proofs.lemmas.Bool.{lt-ltb}
use Rattle.std.proofs.lemmas.Bool.Decides.{eqb_tells}
use Rattle.rapid_text.specs.Recording.{Recording}
use Rattle.trace_rules.specs.Rules.{IsDisciplined}
use Rattle.moves.specs.declared.batch.BatchRefusal.{BatchRefusal}
use Rattle.moves.specs.declared.batch.BatchRefusal.TheVariants.{InBatch, OutOfMemory}
use Rattle.moves.specs.declared.board.Proposal.{Proposal}
use Rattle.moves.specs.declared.command.Command.{Command}
use Rattle.moves.specs.declared.inverse.Inverse.{Inverse}
use Rattle.moves.specs.declared.refusal.MoveRefusal.{MoveRefusal}
use Rattle.moves.specs.declared.row.Row.{Row}
use Rattle.moves.specs.Applied.{IsApplied}
use Rattle.moves.specs.Batches.{applied_all, Runs, IsAppliedAll, AreOfTrace}
use Rattle.moves.specs.Boards.{IsBoardOf}
use Rattle.moves.specs.Commands.{writes, touches_any}
use Rattle.moves.specs.Ages.{age}
use Rattle.moves.specs.Moves.{made_at}
use Rattle.moves.specs.Rows.{Rows, row_of, IsListing, IsOfTrace}
use Rattle.moves.proofs.CallerLemmas.{applied_parts, with_row-same, IsOfTrace-kept}
use Rattle.dependence.specs.Lists.{Lists, under, of_client, PushedAll, RemovedAll, Same, AllBelow, Entered, Left}
use Rattle.dependence.proofs.CallerLemmas.{back_out}
use Rattle.inverse_log.specs.declared.bench.Bench.TheInside.{Inside}
use Rattle.inverse_log.specs.declared.call.Call.{Call}
use Rattle.inverse_log.specs.declared.call.Call.TheVariants.{Do, Batch as DoAll}
use Rattle.inverse_log.specs.declared.entry.Entry.{Entry}
use Rattle.inverse_log.specs.declared.entry.Entry.TheVariants.{Did, Batch, Undid, Proposed}
use Rattle.inverse_log.specs.declared.kept.Held.{Held}
use Rattle.inverse_log.specs.declared.refusal.Refusal.{Refusal}
use Rattle.inverse_log.specs.declared.refusal.Refusal.TheVariants.{Move, BadBatch}
use Rattle.inverse_log.specs.declared.reply.Reply.{Reply}
use Rattle.inverse_log.specs.declared.reply.Reply.TheVariants.{Done}
use Rattle.inverse_log.specs.Answer.{answer_of, is_batch, done_or, all_done_or, entry_of, logged, log_after, may_want, Called, IsLegal, starts, goes_on}
use Rattle.inverse_log.specs.Kept.{HasInverse, IsBench, refused_as}
use Rattle.inverse_log.specs.Log.{done_by, commands_in, live_of, board_of, rows_of, is_by, changes_by}
use Rattle.inverse_log.specs.Steps.{inverses_of}
use Rattle.inverse_log.specs.Touching.{touches_name}
use Rattle.inverse_log.proofs.CountLemmas.{edits_push, edits_few}
use Rattle.inverse_log.proofs.Inner.{Keeps}
use Rattle.inverse_log.proofs.KeptLemmas.{kept_rows, kept_plain, kept_done}
use Rattle.inverse_log.proofs.LiveLemmas.{IsShort}
use Rattle.inverse_log.proofs.SizeLemmas.{IsSmall, legal_small, lives_short}
use Rattle.inverse_log.proofs.SoundLemmas.{board_of_trace, comes_kept}
use Rattle.inverse_log.proofs.TouchingLemmas.{below, numbers_done}

-- a batch that is refused leaves the rows
pub failed_rows : (J : Recording) (B : List Proposal) (n : ℕ) (D : List Command) (W V : Rows) (why : BatchRefusal) → IsAppliedAll J B n D W V (Err why) → V ≡ W
failed_rows J B n D W V (InBatch place cause) h = h.1
failed_rows J B n D W V OutOfMemory h = h

-- the log after a reply
pub after_ok : (T : Recording) (L M : List Entry) (c : ℕ) (call : Call) (reply : Reply) → answer_of T L c call ≡ Ok reply → M ≡ L ++ entry_of c call reply → M ≡ log_after T L c call
after_ok T L M c call reply answer is = is ∙ sym (ap (λ a. L ++ logged c call a) answer)

pub ok_may : (a : Result Reply Refusal) → IsOk a → may_want a ≡ true
ok_may (Ok reply) h = refl
ok_may (Err why) h = absurd cc

pub ok_answer : (a : Result Reply Refusal) (reply : Reply) → a ≡ Ok reply → may_want a ≡ true
ok_answer a reply h = ap may_want h

pub eqb_turn : (x y : ℕ) → eqb x y ≡ eqb y x
eqb_turn x y = elim (eqb_tells x y) [
  | inl h ↦ rw h.1 refl
  | inr h ↦ elim (eqb_tells y x) [ inl g ↦ absurd (h.1 (sym g.1)) | inr g ↦ h.0 ∙ sym g.0 ]
]

module _ (own : Inside) (b : Keeps own) where
  abbrev T : Recording
  T = arc_value own.indexed

  abbrev L : List Entry
  L = own.log.items

  abbrev W : Rows
  W = own.rows.rows

  abbrev B : List Proposal
  B = own.board

  abbrev steps : List Held
  steps = own.steps.items

  abbrev N : Lists
  N = own.touches

  abbrev C : List (List ℕ)
  C = own.clients

  -- another way to keep the same
  pub bench_same : (L' : List Entry) (W' : Rows) (steps' : List Held) (N' : Lists) (C' : List (List ℕ)) (k : ℕ) → L' ≡ L → W' ≡ W → steps' ≡ steps → Same N N'
      → ((a : ℕ) → of_client C' a ≡ of_client C a) → k ≡ own.rows.edits → IsBench T L' W' B steps' N' C' k
  bench_same L' W' steps' N' C' k log rows inv names clients edits = record {
    kept = rw (log, rows, inv) b.kept;
    listed = record { names = λ x. rw log (names x ∙ b.listed.names x); clients = λ a. rw log (clients a ∙ b.listed.clients a) };
    legal = rw log b.legal;
    counted = rw log (edits ∙ b.counted);
    disciplined = b.disciplined;
  }

  pub names_below : (n : ℕ) → n ≡ length L → AllBelow n N
  names_below n is x = rw (is, b.listed.names x) (below (touches_name x) L)

  pub clients_below : (n c : ℕ) → n ≡ length L → All (λ k. k < n) (of_client C c)
  clients_below n c is = rw (is, b.listed.clients c) (below (is_by c) L)

  pub left_same : (n c : ℕ) (D : List Command) (N1 N2 : Lists) (C1 C2 : List (List ℕ)) → n ≡ length L → PushedAll n D N N1 → Entered c n C C1 → RemovedAll n D N1 N2 → Left c n C1 C2 → Same N N2 × ((a : ℕ) → of_client C2 a ≡ of_client C a)
  left_same n c D N1 N2 C1 C2 is names clients names' clients' = (
    λ x. back_out (touches_any D x) n (under N x) (under N1 x) (under N1 x) (under N2 x) (names_below n is x) (names x) refl (names' x),
    λ a. back_out (eqb a c) n (of_client C a) (of_client C1 a) (of_client C1 a) (of_client C2 a) (clients_below n a is) (clients a) refl (clients' a),
  )

  -- the rows and the board are of the trace
  pub of_trace : (J : Recording) → J ≡ T → IsOfTrace J W
  of_trace J is = rw is (IsOfTrace-kept T W (comes_kept T b.disciplined (HasInverse T L steps) L W b.legal b.kept.rows))

  pub board_is_of : (J : Recording) → J ≡ T → IsBoardOf J B
  board_is_of J is = rw (is, b.kept.board) (board_of_trace T L)

  -- entries have few commands
  pub small : All IsSmall L
  small = legal_small T L b.legal

  pub short : All IsShort (live_of L)
  short = lives_short L small

  pub edits_low : (n : ℕ) → n ≡ length L → n < 1000000 → own.rows.edits < 64000000
  edits_low n is room = let fewer = edits_few L small in omega (arith, b.counted, fewer, is, room)

  made_same : (J : Recording) (d : Command) → J ≡ T → made_at T (board_of T L) (age (length L) 0) d (rows_of T L) ≡ made_at J B (age (length L) 0) d W
  made_same J d trace =
      ap (made_at T (board_of T L) (age (length L) 0) d) (kept_rows T L W B steps b.kept) ∙ ap (λ X. made_at T X (age (length L) 0) d W) (sym b.kept.board) ∙ ap (λ X. made_at X B (age (length L) 0) d W) (sym trace)

  pub do_refused : (J : Recording) (n c : ℕ) (d : Command) (why : MoveRefusal) → J ≡ T → n ≡ length L → n < 1000000 → ((m : ℕ) → made_at J B m d W ≡ Err why) → answer_of T L c (Do d) ≡ Err (Move why)
  do_refused J n c d why trace is room h = rw (lt-ltb (length L) 1000000 (omega (arith, room, is))) (ap (done_or (length L)) (made_same J d trace ∙ h (age (length L) 0)))

  -- a command that is not refused is done
  pub do_done : (J : Recording) (n c : ℕ) (d : Command) → J ≡ T → n ≡ length L → n < 1000000 → ((m : ℕ) → IsOk (made_at J B m d W)) → answer_of T L c (Do d) ≡ Ok (Done n)
  do_done J n c d trace is room h =
      rw (lt-ltb (length L) 1000000 (omega (arith, room, is))) (done (made_at T (board_of T L) (age (length L) 0) d (rows_of T L)) (subst IsOk (sym (made_same J d trace)) (h (age (length L) 0))) ∙ ap (λ m. Ok (Done m)) (sym is))
    where
      done : (q : Result (Option Row) MoveRefusal) → IsOk q → done_or (length L) q ≡ Ok (Done (length L))
      done (Ok o) h = refl
      done (Err why) h = absurd cc

  -- a single command is a run of one
  pub one_runs : (J : Recording) (n m : ℕ) (d : Command) (V : Rows) (i : Inverse) → m ≡ length L → n ≡ age m 0 → IsApplied J B n d W V (Ok i) → Runs J B n (d ∷ []) (record { name = writes d; step = i.step } ∷ []) W V
  one_runs J n m d V i is at done =
      let parts = applied_parts J B n d W V done.0 in
      let plain : IsListing W = (kept_plain T L W B steps b.kept short).listing in
      let after : row_of V (writes d) ≡ parts.0 = ap (λ U. row_of U (writes d)) (sym parts.2) ∙ with_row-same W (writes d) parts.0 plain in
      (parts.0, parts.1, refl, rw (← after) done.2, parts.2)

  all_same : (J : Recording) (n : ℕ) (D : List Command) → J ≡ T → n ≡ length L → applied_all T (board_of T L) (age (length L) 0) D (rows_of T L) ≡ applied_all J B (age n 0) D W
  all_same J n D trace is =
      ap (applied_all T (board_of T L) (age (length L) 0) D) (kept_rows T L W B steps b.kept) ∙ ap (λ X. applied_all T X (age (length L) 0) D W) (sym b.kept.board) ∙ ap (λ X. applied_all X B (age (length L) 0) D W) (sym trace)
      ∙ ap (λ m. applied_all J B (age m 0) D W) (sym is)

  -- a batch
  module _ (J : Recording) (n c : ℕ) (D : List Command) (trace : J ≡ T) (is : n ≡ length L) (room : n < 1000000) where
    pub batch_bad : is_batch D ≡ false → answer_of T L c (DoAll D) ≡ Err BadBatch
    batch_bad bad = rw (lt-ltb (length L) 1000000 (omega (arith, room, is)), bad) refl

    module _ (sizes : is_batch D ≡ true) where
      asks : answer_of T L c (DoAll D) ≡ all_done_or (length L) (applied_all J B (age n 0) D W)
      asks = rw (lt-ltb (length L) 1000000 (omega (arith, room, is)), sizes) (ap (all_done_or (length L)) (all_same J n D trace is))

      pub batch_may : may_want (answer_of T L c (DoAll D)) ≡ true
      batch_may = ap may_want asks ∙ by (applied_all J B (age n 0) D W)
        where
          by : (q : Result Rows (ℕ × MoveRefusal)) → may_want (all_done_or (length L) q) ≡ true
          by (Ok V) = refl
          by (Err p) = refl

      pub batch_refused : (V : Rows) (why : BatchRefusal) → IsAppliedAll J B (age n 0) D W V (Err why) → Called T L c (DoAll D) (Err (refused_as why)) L
      batch_refused V (InBatch place cause) h = (asks ∙ ap (all_done_or (length L)) h.0, refl)
      batch_refused V OutOfMemory h = (batch_may, refl)

      pub batch_answer : (V : Rows) (I : List Inverse) → IsAppliedAll J B (age n 0) D W V (Ok I) → answer_of T L c (DoAll D) ≡ Ok (Done n)
      batch_answer V I h = asks ∙ ap (all_done_or (length L)) h.0 ∙ ap (λ m. Ok (Done m)) (sym is)

  -- the changes of an entry are its commands
  done_changes : (e : Entry) (p : ℕ × List Command) → done_by e ≡ Some p → changes_by L e ≡ length p.1
  done_changes (Did c d) p h = ap (λ o. length (commands_in o)) h
  done_changes (Batch c D) p h = ap (λ o. length (commands_in o)) h
  done_changes (Undid c k) p h = absurd cc
  done_changes (Proposed c x y P) p h = absurd cc

  pub done_bench : (M : List Entry) (J : Recording) (n c : ℕ) (e : Entry) (D : List Command) (V : Rows) (I : List Inverse) (h : Held) (later : List Held) (N' : Lists) (C' : List (List ℕ)) (k : ℕ) → J ≡ T → n ≡ length L → done_by e ≡ Some (c, D) → length D ≤ 64
      → Runs J B (age n 0) D I W V → inverses_of h D ≡ I → AreOfTrace J I → later ≡ steps ++ h ∷ [] → M ≡ L ++ e ∷ [] → PushedAll n D N N' → Entered c n C C' → k ≡ own.rows.edits + length D → IsLegal T M → IsBench T M V B later N' C' k
  done_bench M J n c e D V I h later N' C' k trace is did few runs held of inv log names clients edits legal = record {
    kept = kept_done T L W B steps b.kept M V n c e D I h later is did few (rw (← trace) runs) held (subst (λ (X : Recording). AreOfTrace X I) trace of) inv log;
    listed = record {
      names = λ y. names y ∙ rw (log, is, b.listed.names y) (sym (numbers_done (touches_name y) L e c D did));
      clients = λ a. clients a ∙ rw (log, is, b.listed.clients a, eqb_turn a c) (sym (numbers_done (is_by a) L e c D did));
    };
    legal = legal;
    counted = rw log (let same = done_changes e (c, D) did in let more = edits_push L e in omega (arith, edits, b.counted, same, more));
    disciplined = b.disciplined;
  }

  -- a call that is answered so leaves a legal log
  pub next_legal : (M : List Entry) (c : ℕ) (call : Call) (reply : Reply) → answer_of T L c call ≡ Ok reply → M ≡ L ++ entry_of c call reply → 1 ≤ c → c ≤ 32 → IsLegal T M
  next_legal M c call reply answer log low high = subst (IsLegal T) (sym (after_ok T L M c call reply answer log)) (goes_on L c call low high b.legal)

pub new_bench : (T : Recording) (L : List Entry) (W : Rows) (B : List Proposal) (steps : List Held) (N : Lists) (C : List (List ℕ)) → IsDisciplined T.events → L ≡ [] → W ≡ [] → B ≡ [] → steps ≡ []
    → ((x : List ℕ) → under N x ≡ []) → ((a : ℕ) → of_client C a ≡ []) → IsBench T L W B steps N C 0
new_bench T L W B steps N C rules log rows board inv names clients = rw (log, rows, board, inv) (record {
  kept = record { rows = refl; board = refl; long = refl };
  listed = record { names = names; clients = clients };
  legal = starts;
  counted = refl;
  disciplined = rules;
})
