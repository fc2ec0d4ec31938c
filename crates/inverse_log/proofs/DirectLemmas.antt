-- An undo directly after a command or a batch.
use Rattle.std.proofs.Common.{◌≡◌, ℕ, ◌+◌, ◌<◌, Bool, true, false, ltb, List, [], ◌∷◌, ◌++◌, Some, None, Ok, All, length, map, reverse, refl, ap, ◌∙◌, arith}
use Rattle.std.specs.List.{find, list_any}
use Rattle.std.proofs.lemmas.Bool.{eq-eqb, le-ltb, lt-ltb, and_left}
use Rattle.std.proofs.lemmas.List.{append-nil, reverse-append, length_push}
use Rattle.std.proofs.lemmas.List.Elements.{All-weaker}
use Rattle.event_index.proofs.CallerLemmas.{all_fail-find}
use Rattle.moves.specs.declared.command.Command.{Command}
use Rattle.moves.specs.Commands.{writes, touches_any}
use Rattle.rapid_text.specs.Recording.{Recording}
use Rattle.moves.proofs.FoldLemmas.{Nothing}
use Rattle.inverse_log.specs.declared.entry.Entry.{Entry}
use Rattle.inverse_log.specs.declared.entry.Entry.TheVariants.{Undid}
use Rattle.inverse_log.specs.declared.call.Call.TheVariants.{Undo}
use Rattle.inverse_log.specs.declared.reply.Reply.TheVariants.{Undone}
use Rattle.inverse_log.specs.Log.{Live, live, done_by, live_of, board_of, rows_of, is_by, blocks, last_live, blocker_of}
use Rattle.inverse_log.specs.Answer.{answer_of, limited, undo_or, undone_or}
use Rattle.inverse_log.proofs.LiveLemmas.{live_done, live_without, rises_live, rises_below}
use Rattle.inverse_log.proofs.LawLemmas.{Comes, HasRows, board_done, board_undid, rows_come}

find_first : (q : Live → Bool) (x : Live) (xs : List Live) → q x ≡ true → find q (x ∷ xs) ≡ Some x
find_first q x xs h = rw h refl

-- the last entry did the commands D of the client c
module _ (T : Recording) (L : List Entry) (e : Entry) (c : ℕ) (D : List Command) (is : done_by e ≡ Some (c, D)) where
  abbrev M : List Entry
  M = L ++ e ∷ []

  abbrev g : Live
  g = live (length L) c D

  last_did : last_live M c ≡ Some g
  last_did =
      let back : reverse (live_of M) ≡ g ∷ reverse (live_of L) = ap reverse (live_done L e c D is) ∙ reverse-append (live_of L) (g ∷ []) in
      ap (find (is_by c)) back ∙ find_first (is_by c) g (reverse (live_of L)) (eq-eqb c c refl)

  none_blocks : blocker_of M g ≡ None
  none_blocks =
      let low : All (λ (p : Live). p.number < length M) (live_of M) = (rises_below (live_of M) 0 (length M) (rises_live M)).0 in
      all_fail-find (blocks g) (live_of M) (All-weaker (λ (p : Live). p.number < length M) (λ p. blocks g p ≡ false) (λ p h. and_left (ltb (length L) p.number) (list_any (touches_any p.commands) (map writes D)) (le-ltb (length L) p.number (omega (arith, length_push L e)))) (live_of M) low)

  -- it is answered
  pub undo_answer : length L + 1 < 1000000 → answer_of T M c Undo ≡ Ok (Undone (length M) (length L))
  undo_answer room =
      ap (limited M) (ap (undo_or M) last_did ∙ ap (undone_or (length M) g) none_blocks) ∙ rw (lt-ltb (length M) 1000000 (omega (arith, length_push L e))) refl

  -- and the rows are those before it, whoever takes it back
  pub undo_rows : (a : ℕ) → HasRows T L → HasRows T M → rows_of T (M ++ Undid a (length L) ∷ []) ≡ rows_of T L
  undo_rows a before after =
      let N : List Entry = M ++ Undid a (length L) ∷ [] in
      let live' : live_of N ≡ live_of L = live_without M a g (live_of L) [] (live_done L e c D is) ∙ append-nil (live_of L) in
      let board : board_of T N ≡ board_of T L = board_undid T M a (length L) ∙ board_done T L e (c, D) is in
      let again : Comes T Nothing N (rows_of T L) = rw (live', board) before in
      rows_come T Nothing N (rows_of T L) again
