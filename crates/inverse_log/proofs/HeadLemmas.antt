-- The laws of specs/Headline.antt.
use Rattle.std.proofs.Common.{◌≡◌, inl, inr, ℕ, zero, suc, ◌+◌, ◌≤◌, Bool, true, false, ltb, List, [], ◌∷◌, ◌++◌, Option, Some, None, Result, Ok, Err, All, Contains, length, find, slice_get, refl, sym, ap, ◌∙◌, subst, arith}
use Rattle.std.specs.List.{list_any}
use Rattle.std.specs.Option.{unwrap_or}
use Rattle.std.proofs.lemmas.Bool.{cases_Bool, and_parts, and_from, lt-ltb, eq-eqb, ltb-true, false≢true}
use Rattle.std.proofs.lemmas.List.Elements.{All-nil, All-cons, All-head, All-tail, All-weaker}
use Rattle.event_index.proofs.CallerLemmas.{find-all_fail}
use Rattle.rapid_text.specs.Recording.{Recording}
use Rattle.moves.specs.declared.board.Proposal.{Proposal}
use Rattle.moves.specs.declared.row.Row.{Row}
use Rattle.moves.specs.Commands.{writes, reads, touches_any}
use Rattle.moves.specs.Ages.{age}
use Rattle.moves.specs.Moves.{made_at, put_made}
use Rattle.moves.specs.Rows.{row_of}
use Rattle.moves.proofs.CallerLemmas.{applied_parts, made_longer, plain_end, plain_nil, Nothing}
use Rattle.inverse_log.specs.declared.call.Call.TheVariants.{Undo, UndoAt}
use Rattle.inverse_log.specs.declared.entry.Entry.{Entry}
use Rattle.inverse_log.specs.declared.refusal.Refusal.{Refusal}
use Rattle.inverse_log.specs.declared.refusal.Refusal.TheVariants.{RestsOn}
use Rattle.inverse_log.specs.declared.reply.Reply.{Reply}
use Rattle.inverse_log.specs.declared.reply.Reply.TheVariants.{Done, Undone, Proposed, Shown, Listing, Shows}
use Rattle.inverse_log.specs.Answer.{answer_of, limited, undo_or, undo_at_or, undo_own_or, undo_live_or, undone_or, entry_of, logged}
use Rattle.inverse_log.specs.Headline.{IsSound, RowsAreTheFold, Blocks, IsLeastBlocker, UndoIsRefusedExactly, UndoAtIsRefusedExactly, UndoAtOfLatestIsUndo, UndoDirectlyRestores, OneClientIsNeverBlocked, LongerBoardsAcceptTheSame}
use Rattle.inverse_log.specs.Log.{Live, is_own, is_client, done_in, written, rests_on, steps_of, live_of, live_at, board_of, rows_of, blocks, blocker_of}
use Rattle.inverse_log.proofs.CallerLemmas.{undo_directly, undo_restores, never_rests}
use Rattle.inverse_log.proofs.LawLemmas.{legal_has, legal_fold}
use Rattle.inverse_log.proofs.LiveLemmas.{Climbs, rises_steps, last_split, last_mine, rises_live, rises_above}
use Rattle.inverse_log.proofs.NumberedLemmas.{among_lives, lives_at, at_there, at_number}
use Rattle.inverse_log.proofs.SizeLemmas.{legal_short}
use Rattle.inverse_log.proofs.SoundLemmas as sound

pub fold_law : RowsAreTheFold
fold_law T L rules legal = (
  record {
    fold = legal_fold T L legal;
    listing = (plain_end T (board_of T L) Nothing (steps_of (live_of L)) [] (rows_of T L) 0 (age (length L) 0) plain_nil (rises_steps L (live_of L) (legal_short T L legal) refl) (legal_has T L legal)).listing;
    reorderings = sound.legal_kept T rules L legal;
  },
  boards (board_of T L) (sound.board_of_trace T L) (sound.legal_sound T rules L legal),
)
  where
    boards : (B : List Proposal) → All (λ (p : Proposal). p.schedule.trace ≡ T) B → All (sound.IsSound T rules) B → All (IsSound T) B
    boards [] of all = All-nil (IsSound T)
    boards (p ∷ B) of all =
        let s = All-head (sound.IsSound T rules) p B all in
        All-cons (IsSound T) p B (record { trace = All-head (λ (p : Proposal). p.schedule.trace ≡ T) p B of; reordering = s.reordering; shows = s.shows })
        (boards B (All-tail (λ (p : Proposal). p.schedule.trace ≡ T) p B of) (All-tail (sound.IsSound T rules) p B all))

pub directly_law : UndoDirectlyRestores
directly_law T L M c n call low high legal called room = (undo_directly T L M c n call called room, undo_restores T L M _ c n call low high legal called room refl)

pub alone_law : OneClientIsNeverBlocked
alone_law T L c k x alone = never_rests T L c alone k x

pub longer_law : LongerBoardsAcceptTheSame
longer_law T B C n d W V h =
    let parts = applied_parts T B n d W V h in
    let o : Option Row = parts.0 in
    let more : made_at T (B ++ C) n d W ≡ Ok o = made_longer T B C n d (row_of W (writes d)) (row_of W (reads d)) o parts.1 in
    ap (put_made W (writes d)) more ∙ ap Ok parts.2

-- the first that passes a test, of live commands whose numbers rise, is the least that does
All-at : (P : Live → Type 0) (E : List Live) (b : Live) → All P E → Contains E b → P b
All-at P E b all there = subst P there.2 (all there.0 b there.1)

first_least : (q : Live → Bool) (E : List Live) (low high : ℕ) (b : Live) → Climbs low E high → find q E ≡ Some b → Contains E b × (q b ≡ true) × All (λ (d : Live). q d ≡ true → b.number ≤ d.number) E
first_least q [] low high b r h = absurd cc
first_least q (x ∷ E) low high b r h = elim (cases_Bool (q x)) [
  | inl t ↦
      let found : Some x ≡ Some b = rw t at h in
      let same : x ≡ b = cc in
      subst (λ (z : Live). Contains (x ∷ E) z × (q z ≡ true) × All (λ (d : Live). q d ≡ true → z.number ≤ d.number) (x ∷ E)) same (
        (0, omega arith, refl),
        t,
        All-cons (λ (d : Live). q d ≡ true → x.number ≤ d.number) x E (λ _. omega arith)
            (All-weaker (λ (d : Live). x.number + 1 ≤ d.number) (λ (d : Live). q d ≡ true → x.number ≤ d.number) (λ d up _. omega arith) E (rises_above E (x.number + 1) high r.1)),
      )
  | inr f ↦
      let rest = first_least q E (x.number + 1) high b r.1 (rw f at h) in (
        (suc rest.0.0, omega (arith, rest.0.1), rest.0.2),
        rest.1,
        All-cons (λ (d : Live). q d ≡ true → b.number ≤ d.number) x E (λ t. absurd (false≢true (sym f ∙ t))) rest.2,
      )
]

-- where one passes, the first is found
first_found : (q : List ℕ → Bool) (X : List (List ℕ)) → list_any q X ≡ true → (x : List ℕ) × (find q X ≡ Some x)
first_found q [] h = absurd (false≢true h)
first_found q (y ∷ X) h = elim (cases_Bool (q y)) [
  | inl t ↦ (y, rw t refl)
  | inr f ↦ let rest = first_found q X (rw f at h) in (rest.0, rw f rest.1)
]

-- live entries of one number are one
only_number : (E : List Live) (low high : ℕ) (a b : Live) → Climbs low E high → Contains E a → Contains E b → a.number ≡ b.number → a ≡ b
only_number [] low high a b r ha hb same = absurd (omega (arith, ha.1))
only_number (e ∷ E) low high a b r (zero, la, ha) (zero, lb, hb) same = sym ha ∙ hb
only_number (e ∷ E) low high a b r (suc i, la, ha) (suc j, lb, hb) same = only_number E (e.number + 1) high a b r.1 (i, omega (arith, la), ha) (j, omega (arith, lb), hb) same
only_number (e ∷ E) low high a b r (zero, la, ha) (suc j, lb, hb) same =
    let up : e.number + 1 ≤ b.number = All-at (λ (d : Live). e.number + 1 ≤ d.number) E b (rises_above E (e.number + 1) high r.1) (j, omega (arith, lb), hb) in
    let here : e.number ≡ a.number = ap (λ (p : Live). p.number) ha in
    absurd (omega (arith, up, here, same))
only_number (e ∷ E) low high a b r (suc i, la, ha) (zero, lb, hb) same =
    let up : e.number + 1 ≤ a.number = All-at (λ (d : Live). e.number + 1 ≤ d.number) E a (rises_above E (e.number + 1) high r.1) (i, omega (arith, la), ha) in
    let here : e.number ≡ b.number = ap (λ (p : Live). p.number) hb in
    absurd (omega (arith, up, here, same))

module _ (T : Recording) (L : List Entry) (c : ℕ) (e : Live) where
  told : (b : Live) → blocks e b ≡ true → Blocks e b
  told b h = let both = and_parts (ltb e.number b.number) (list_any (touches_any b.commands) (written e)) h in (ltb-true e.number b.number both.0, both.1)

  tells : (b : Live) → Blocks e b → blocks e b ≡ true
  tells b h = and_from (ltb e.number b.number) (list_any (touches_any b.commands) (written e)) (lt-ltb e.number b.number h.0) h.1

  rests_to : (k : ℕ) (x : List ℕ) (o : Option Live) → blocker_of L e ≡ o → undone_or (length L) e o ≡ Err (RestsOn k x) → IsLeastBlocker L e k x
  rests_to k x None is h = absurd cc
  rests_to k x (Some b) is h =
      let name : rests_on e b ≡ x = cc in
      let number : b.number ≡ k = cc in
      let first = first_least (blocks e) (live_of L) 0 (length L) b (rises_live L) is in
      let shares = told b first.1 in
      record {
        blocker = b;
        number = number;
        live = first.0;
        blocks = shares;
        name = let f = first_found (touches_any b.commands) (written e) shares.1 in f.1 ∙ ap Some (sym (ap (λ o. unwrap_or o []) f.1) ∙ name);
        least = All-weaker (λ (d : Live). blocks e d ≡ true → b.number ≤ d.number) (λ (d : Live). Blocks e d → k ≤ d.number) (λ d up blocked. let low : b.number ≤ d.number = up (tells d blocked) in omega (arith, low, number)) (live_of L) first.2;
      }

  rests_from : (k : ℕ) (x : List ℕ) (o : Option Live) → blocker_of L e ≡ o → IsLeastBlocker L e k x → undone_or (length L) e o ≡ Err (RestsOn k x)
  rests_from k x None is h =
      let none : blocks e h.blocker ≡ false = All-at (λ (d : Live). blocks e d ≡ false) (live_of L) h.blocker (find-all_fail (blocks e) (live_of L) is) h.live in
      absurd (false≢true (sym none ∙ tells h.blocker h.blocks))
  rests_from k x (Some b) is h =
      let first = first_least (blocks e) (live_of L) 0 (length L) b (rises_live L) is in
      let up : b.number ≤ h.blocker.number = All-at (λ (d : Live). blocks e d ≡ true → b.number ≤ d.number) (live_of L) h.blocker first.2 h.live (tells h.blocker h.blocks) in
      let down : k ≤ b.number = All-at (λ (d : Live). Blocks e d → k ≤ d.number) (live_of L) b h.least first.0 (told b first.1) in
      let same : b.number ≡ k = omega (arith, up, down, h.number) in
      let one : b ≡ h.blocker = only_number (live_of L) 0 (length L) b h.blocker (rises_live L) first.0 h.live (omega (arith, same, h.number)) in
      ap (λ n. Err (RestsOn n (rests_on e b))) same ∙ ap (λ (q : Live). Err (RestsOn k (rests_on e q))) one ∙ ap (λ o. Err (RestsOn k (unwrap_or o []))) h.name

  free_to : (o : Option Live) → blocker_of L e ≡ o → undone_or (length L) e o ≡ Ok (Undone (length L) e.number) → All (λ (b : Live). ¬ Blocks e b) (live_of L)
  free_to None is h = All-weaker (λ (d : Live). blocks e d ≡ false) (λ (d : Live). ¬ Blocks e d) (λ d none blocked. false≢true (sym none ∙ tells d blocked)) (live_of L) (find-all_fail (blocks e) (live_of L) is)
  free_to (Some b) is h = absurd cc

  free_from : (o : Option Live) → blocker_of L e ≡ o → All (λ (b : Live). ¬ Blocks e b) (live_of L) → undone_or (length L) e o ≡ Ok (Undone (length L) e.number)
  free_from None is all = refl
  free_from (Some b) is all =
      let first = first_least (blocks e) (live_of L) 0 (length L) b (rises_live L) is in
      absurd (All-at (λ (d : Live). ¬ Blocks e d) (live_of L) b all first.0 (told b first.1))

pub exact_law : UndoIsRefusedExactly
exact_law T L c e room last =
    let answer : answer_of T L c Undo ≡ undone_or (length L) e (blocker_of L e) = rw (lt-ltb (length L) 1000000 room) (ap (undo_or L) last) in (
      λ k x. (
        λ h. rests_to T L c e k x (blocker_of L e) refl (sym answer ∙ h),
        λ h. answer ∙ rests_from T L c e k x (blocker_of L e) refl h,
      ),
      (
        λ h. free_to T L c e (blocker_of L e) refl (sym answer ∙ h),
        λ h. answer ∙ free_from T L c e (blocker_of L e) refl h,
      ),
    )

-- the client's live command of a number, asked for
asked_at : (T : Recording) (L : List Entry) (c k : ℕ) (e : Live) → live_at L k ≡ Some e → e.client ≡ c → answer_of T L c (UndoAt k) ≡ limited L (undone_or (length L) e (blocker_of L e))
asked_at T L c k e at own =
    let there : done_in (slice_get L k) ≡ Some (e.client, e.commands) = at_there L k e at in
    let mine : is_own c (slice_get L k) ≡ true = ap (is_client c) there ∙ eq-eqb e.client c own in
    ap (limited L) (by (slice_get L k) mine ∙ ap (undo_live_or L) at)
  where
    by : (o : Option Entry) → is_own c o ≡ true → undo_at_or L c k o ≡ undo_live_or L (live_at L k)
    by None h = absurd (false≢true h)
    by (Some f) h = ap (undo_own_or L k) h

pub at_exact_law : UndoAtIsRefusedExactly
at_exact_law T L c k e room at own =
    let answer : answer_of T L c (UndoAt k) ≡ undone_or (length L) e (blocker_of L e) = asked_at T L c k e at own ∙ rw (lt-ltb (length L) 1000000 room) refl in
    let number : Ok (Undone (length L) e.number) ≡ Ok (Undone (length L) k) = ap (λ j. Ok (Undone (length L) j)) (at_number L k e at) in (
      λ j x. (
        λ h. rests_to T L c e j x (blocker_of L e) refl (sym answer ∙ h),
        λ h. answer ∙ rests_from T L c e j x (blocker_of L e) refl h,
      ),
      (
        λ h. free_to T L c e (blocker_of L e) refl (sym answer ∙ h ∙ sym number),
        λ h. answer ∙ free_from T L c e (blocker_of L e) refl h ∙ number,
      ),
    )

pub at_latest_law : UndoAtOfLatestIsUndo
at_latest_law T L c e last =
    let s = last_split L c e last in
    let at : live_at L e.number ≡ Some e = among_lives (λ (p : Live). live_at L p.number ≡ Some p) s.0 s.1 e (subst (All (λ (p : Live). live_at L p.number ≡ Some p)) s.2 (lives_at L)) in
    let same : answer_of T L c (UndoAt e.number) ≡ answer_of T L c Undo = asked_at T L c e.number e at (last_mine L c e last) ∙ sym (ap (λ o. limited L (undo_or L o)) last) in
    (same, ap (λ a. L ++ logged c (UndoAt e.number) a) same ∙ sym (by (answer_of T L c Undo) refl))
  where
    entered : (reply : Reply) → entry_of c Undo reply ≡ entry_of c (UndoAt e.number) reply
    entered (Undone n k) = refl
    entered (Done n) = refl
    entered (Proposed n p) = refl
    entered (Shown P) = refl
    entered (Listing names) = refl
    entered (Shows pairs) = refl

    by : (a : Result Reply Refusal) → answer_of T L c Undo ≡ a → L ++ logged c Undo (answer_of T L c Undo) ≡ L ++ logged c (UndoAt e.number) (answer_of T L c Undo)
    by (Ok reply) is = rw is (ap (λ X. L ++ X) (entered reply))
    by (Err why) is = rw is refl
