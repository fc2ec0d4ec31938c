-- The other calls: a proposal, and the looks, which change nothing.
use Rattle.std.proofs.Common.{◌≡◌, false, true, inr, inl, ℕ, Bool, ◌<◌, ◌≤◌, List, [], ◌∷◌, ◌++◌, Option, Some, None, Ok, Err, length, sym, ap, ◌∙◌, subst, refl, arith}
use Rattle.std.specs.Arc.{arc_value}
use Rattle.std.specs.Option.{option_map, IfSome}
use Rattle.std.specs.Str.{bytes_eq}
use Rattle.std.proofs.lemmas.Map.Entries.{All-lookup}
use Rattle.std.proofs.lemmas.Bool.{lt-ltb, cases_Bool}
use Rattle.std.proofs.lemmas.List.{append-nil}
use Rattle.rapid_text.specs.Recording.{Recording}
use Rattle.schedule.specs.Faults.{first_fault, IsFirstFault}
use Rattle.schedule.specs.Reordering.{IsCorrectReordering}
use Rattle.schedule.specs.Scheduled.{Scheduled}
use Rattle.schedule.specs.Shows.{Shows as ShowsPair, does_show}
use Rattle.schedule.proofs.CallerLemmas.{first_fault-correct, first_fault-is}
use Rattle.moves.specs.declared.board.Proposal.{Proposal}
use Rattle.moves.specs.declared.refusal.MoveRefusal.TheVariants.{NoSuchSchedule}
use Rattle.moves.specs.declared.row.Row.{Row}
use Rattle.moves.specs.Rows.{Rows, row_of, names_of}
use Rattle.dependence.specs.Lists.{Lists}
use Rattle.inverse_log.specs.declared.bench.Bench.TheInside.{Inside}
use Rattle.inverse_log.specs.declared.call.Call.TheVariants.{Propose, Show, List as ListNames, Races}
use Rattle.inverse_log.specs.declared.entry.Entry.{Entry}
use Rattle.inverse_log.specs.declared.entry.Entry.TheVariants.{Proposed}
use Rattle.inverse_log.specs.declared.refusal.Refusal.{Refusal}
use Rattle.inverse_log.specs.declared.refusal.Refusal.TheVariants.{Move, NothingToUndo, RestsOn, NotReordering, NotShown, LogFull, OutOfMemory, NoSuchEntry, NotOwn, NotLive, BadBatch, InBatch}
use Rattle.inverse_log.specs.declared.reply.Reply.{Reply}
use Rattle.inverse_log.specs.declared.reply.Reply.TheVariants.{Proposed as ProposedAs, Shown, Listing, Shows}
use Rattle.inverse_log.specs.Answer.{answer_of, seen_or, proposed_or, may_want, Called, IsLegal, goes_on}
use Rattle.inverse_log.specs.Kept.{IsBench, IsJudged}
use Rattle.inverse_log.specs.declared.kept.Held.{Held}
use Rattle.inverse_log.specs.declared.kept.Held.TheVariants.{Nothing}
use Rattle.inverse_log.specs.Log.{board_of, is_by, edits_of}
use Rattle.inverse_log.proofs.CountLemmas.{edits_push}
use Rattle.inverse_log.specs.Pairs.{shown_pairs}
use Rattle.inverse_log.specs.Touching.{touches_name}
use Rattle.inverse_log.proofs.DoLemmas.{after_ok, of_trace}
use Rattle.inverse_log.proofs.Inner.{Keeps}
use Rattle.inverse_log.proofs.KeptLemmas.{kept_rows, kept_proposed}
use Rattle.inverse_log.proofs.LawLemmas.{proposal}
use Rattle.inverse_log.proofs.SoundLemmas.{shown}
use Rattle.inverse_log.proofs.TouchingLemmas.{numbers_proposed}

-- a call that changes nothing
pub after_none : (L : List Entry) → L ≡ L ++ []
after_none L = sym (append-nil L)

may_propose : (T : Recording) (L : List Entry) (a b : ℕ) (P : List ℕ) (o : Option ℕ) → may_want (proposed_or T L a b P o) ≡ true
may_propose T L a b P (Some p) = refl
may_propose T L a b P None = elim (cases_Bool (does_show T.events P a b)) [ inl h ↦ rw h refl | inr h ↦ rw h refl ]

-- the row of a schedule that was found
seen_row : (look : Row → Reply) (s : Scheduled) (o : Option Row) → option_map (λ (r : Row). r.schedule) o ≡ Some s → (r : Row) × (seen_or look o ≡ Ok (look r)) × (r.schedule ≡ s)
seen_row look s None h = absurd cc
seen_row look s (Some r) h = let e : Some r.schedule ≡ Some s = h in (r, refl, cc)

-- what a schedule of these events shows
pub shown_as : (J : Recording) (s : Scheduled) (P : List ℕ) (x y : ℕ) (r : Bool) → s.trace ≡ J → s.events ≡ P → r ≡ does_show s.trace.events s.events x y → does_show J.events P x y ≡ r
shown_as J s P x y r trace events test = ap (λ (X : Recording). does_show X.events P x y) (sym trace) ∙ ap (λ Q. does_show s.trace.events Q x y) (sym events) ∙ sym test

module _ (own : Inside) (b : Keeps own) where
  abbrev T : Recording
  T = arc_value own.indexed

  abbrev L : List Entry
  L = own.log.items

  abbrev W : Rows
  W = own.rows.rows

  abbrev B : List Proposal
  B = own.board

  abbrev steps : List Held
  steps = own.steps.items

  abbrev N : Lists
  N = own.touches

  abbrev C : List (List ℕ)
  C = own.clients

  pub propose_answer : (J : Recording) (n p c x y : ℕ) (P : List ℕ) → J ≡ T → n ≡ length L → n < 1000000 → p ≡ length B → IsCorrectReordering J.events P → does_show J.events P x y ≡ true → answer_of T L c (Propose x y P) ≡ Ok (ProposedAs n p)
  propose_answer J n p c x y P trace is room board sound shown =
      let none : first_fault T.events P ≡ None = first_fault-correct T.events P b.disciplined (subst (λ X. IsCorrectReordering X.events P) trace sound) in
      let shows : does_show T.events P x y ≡ true = subst (λ X. does_show X.events P x y ≡ true) trace shown in
      rw (lt-ltb (length L) 1000000 (omega (arith, room, is)), none, shows) (ap (λ m. Ok (ProposedAs m (length (board_of T L)))) (sym is) ∙ ap (λ m. Ok (ProposedAs n m)) (sym (board ∙ ap length b.kept.board)))

  pub propose_fault : (J : Recording) (n c x y p : ℕ) (P : List ℕ) → J ≡ T → n ≡ length L → n < 1000000 → IsFirstFault J.events P p → answer_of T L c (Propose x y P) ≡ Err (NotReordering p)
  propose_fault J n c x y p P trace is room fault =
      rw (lt-ltb (length L) 1000000 (omega (arith, room, is)), first_fault-is T.events P b.disciplined p (subst (λ X. IsFirstFault X.events P p) trace fault)) refl

  pub propose_unshown : (J : Recording) (n c x y : ℕ) (P : List ℕ) → J ≡ T → n ≡ length L → n < 1000000 → IsCorrectReordering J.events P → does_show J.events P x y ≡ false → answer_of T L c (Propose x y P) ≡ Err NotShown
  propose_unshown J n c x y P trace is room sound shown =
      let none : first_fault T.events P ≡ None = first_fault-correct T.events P b.disciplined (subst (λ X. IsCorrectReordering X.events P) trace sound) in
      let shows : does_show T.events P x y ≡ false = subst (λ X. does_show X.events P x y ≡ false) trace shown in
      rw (lt-ltb (length L) 1000000 (omega (arith, room, is)), none, shows) refl

  pub propose_may : (n c x y : ℕ) (P : List ℕ) → n ≡ length L → n < 1000000 → may_want (answer_of T L c (Propose x y P)) ≡ true
  propose_may n c x y P is room = rw (lt-ltb (length L) 1000000 (omega (arith, room, is))) (may_propose T L x y P (first_fault T.events P))

  -- a list that is judged a good one shows its pair
  pub judged_shows : (J : Recording) (x y : ℕ) (P : List ℕ) (s : Scheduled) → J ≡ T → IsJudged J x y P (Ok s) → ShowsPair s.trace.events s.events x y
  judged_shows J x y P s trace h =
      let sound : IsCorrectReordering T.events P = subst (λ (X : Recording). IsCorrectReordering X.events P) trace h.2 in
      let test : does_show T.events P x y ≡ true = subst (λ (X : Recording). does_show X.events P x y ≡ true) trace h.3 in
      rw (h.0 ∙ trace, h.1) (shown T b.disciplined P x y sound test)

  -- a list that is not is refused
  pub propose_refused : (J : Recording) (n c x y : ℕ) (P : List ℕ) (why : Refusal) → J ≡ T → n ≡ length L → n < 1000000 → IsJudged J x y P (Err why) → Called T L c (Propose x y P) (Err why) L
  propose_refused J n c x y P (NotReordering p) trace is room h = (propose_fault J n c x y p P trace is room h, refl)
  propose_refused J n c x y P NotShown trace is room h = (propose_unshown J n c x y P trace is room h.0 h.1, refl)
  propose_refused J n c x y P OutOfMemory trace is room h = (propose_may n c x y P is room, refl)
  propose_refused J n c x y P (Move why) trace is room h = absurd h
  propose_refused J n c x y P NothingToUndo trace is room h = absurd h
  propose_refused J n c x y P (RestsOn k z) trace is room h = absurd h
  propose_refused J n c x y P LogFull trace is room h = absurd h
  propose_refused J n c x y P NoSuchEntry trace is room h = absurd h
  propose_refused J n c x y P NotOwn trace is room h = absurd h
  propose_refused J n c x y P NotLive trace is room h = absurd h
  propose_refused J n c x y P BadBatch trace is room h = absurd h
  propose_refused J n c x y P (InBatch place why) trace is room h = absurd h

  pub proposed_bench : (M : List Entry) (J : Recording) (c x y : ℕ) (P : List ℕ) (s : Scheduled) (D : List Proposal) (later : List Held) → J ≡ T → length L < 1000000 → IsCorrectReordering J.events P → does_show J.events P x y ≡ true
      → s.trace ≡ J → s.events ≡ P → D ≡ B ++ record { first = x; second = y; schedule = s } ∷ [] → later ≡ steps ++ Nothing ∷ [] → M ≡ L ++ Proposed c x y P ∷ [] → 1 ≤ c → c ≤ 32 → IsBench T M W D later N C own.rows.edits
  proposed_bench M J c x y P s D later trace room sound shown of events board inv log low high =
      let copy : s ≡ record { trace = T; events = P } = λ i. record { trace = (of ∙ trace) i; events = events i } in
      let put : D ≡ B ++ proposal T x y P ∷ [] = board ∙ ap (λ q. B ++ record { first = x; second = y; schedule = q } ∷ []) copy in
      let edits : edits_of (L ++ Proposed c x y P ∷ []) ≡ edits_of L = let more = edits_push L (Proposed c x y P) in omega (arith, more) in
      let answer = propose_answer J (length L) (length B) c x y P trace refl room refl sound shown in
      record {
        kept = kept_proposed T L W B steps b.kept M c x y P D later put inv log;
        listed = record {
          names = λ z. rw log (b.listed.names z ∙ sym (numbers_proposed (touches_name z) L c x y P));
          clients = λ a. rw log (b.listed.clients a ∙ sym (numbers_proposed (is_by a) L c x y P));
        };
        legal = subst (IsLegal T) (sym (after_ok T L M c (Propose x y P) (ProposedAs (length L) (length B)) answer log)) (goes_on L c (Propose x y P) low high b.legal);
        counted = rw log (b.counted ∙ sym edits);
        disciplined = b.disciplined;
      }

  pub show_none : (c : ℕ) (x : List ℕ) → row_of W x ≡ None → answer_of T L c (Show x) ≡ Err (Move NoSuchSchedule)
  show_none c x none = rw (kept_rows T L W B steps b.kept, none) refl

  pub show_answer : (c : ℕ) (x P : List ℕ) (s : Scheduled) → option_map (λ (r : Row). r.schedule) (row_of W x) ≡ Some s → P ≡ s.events → answer_of T L c (Show x) ≡ Ok (Shown P)
  show_answer c x P s there events =
      let r = seen_row (λ r. Shown r.schedule.events) s (row_of W x) there in
      rw (kept_rows T L W B steps b.kept) (r.1 ∙ ap (λ (q : Scheduled). Ok (Shown q.events)) r.2 ∙ ap (λ Q. Ok (Shown Q)) (sym events))

  pub show_may : (c : ℕ) (x : List ℕ) (s : Scheduled) → option_map (λ (r : Row). r.schedule) (row_of W x) ≡ Some s → may_want (answer_of T L c (Show x)) ≡ true
  show_may c x s there = ap may_want (show_answer c x s.events s there refl)

  pub list_answer : (c : ℕ) (names : List (List ℕ)) → names ≡ names_of W → answer_of T L c ListNames ≡ Ok (Listing names)
  list_answer c names is = rw (kept_rows T L W B steps b.kept, is) refl

  -- a schedule of the rows is one of the trace
  pub races_trace : (x : List ℕ) (s : Scheduled) → option_map (λ (r : Row). r.schedule) (row_of W x) ≡ Some s → s.trace ≡ T
  races_trace x s there = trace_is (row_of W x) (All-lookup (λ (r : Row). r.schedule.trace ≡ T) (bytes_eq x) W (of_trace own b T refl)) there
    where
      trace_is : (o : Option Row) → IfSome o (λ (r : Row). r.schedule.trace ≡ T) → option_map (λ (r : Row). r.schedule) o ≡ Some s → s.trace ≡ T
      trace_is None all h = absurd cc
      trace_is (Some r) all h = let e : Some r.schedule ≡ Some s = h in let same : r.schedule ≡ s = cc in ap (λ (q : Scheduled). q.trace) (sym same) ∙ all

  pub races_none : (c : ℕ) (x : List ℕ) → row_of W x ≡ None → answer_of T L c (Races x) ≡ Err (Move NoSuchSchedule)
  races_none c x none = rw (kept_rows T L W B steps b.kept, none) refl

  pub races_answer : (J : Recording) (c : ℕ) (x : List ℕ) (pairs : List (ℕ × ℕ)) (s : Scheduled) → J ≡ T → option_map (λ (r : Row). r.schedule) (row_of W x) ≡ Some s → pairs ≡ shown_pairs J.events s.events → answer_of T L c (Races x) ≡ Ok (Shows pairs)
  races_answer J c x pairs s trace there is =
      let r = seen_row (λ r. Shows (shown_pairs T.events r.schedule.events)) s (row_of W x) there in
      rw (kept_rows T L W B steps b.kept) (r.1 ∙ ap (λ (q : Scheduled). Ok (Shows (shown_pairs T.events q.events))) r.2 ∙ ap (λ (X : Recording). Ok (Shows (shown_pairs X.events s.events))) (sym trace) ∙ ap (λ Q. Ok (Shows Q)) (sym is))

  pub races_may : (c : ℕ) (x : List ℕ) (s : Scheduled) → option_map (λ (r : Row). r.schedule) (row_of W x) ≡ Some s → may_want (answer_of T L c (Races x)) ≡ true
  races_may c x s there = ap may_want (races_answer T c x (shown_pairs T.events s.events) s refl there refl)
