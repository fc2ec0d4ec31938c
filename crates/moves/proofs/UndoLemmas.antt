-- What an undo, a command and a proposal leave of the fold.
use Rattle.std.proofs.Common.{◌≡◌, ◌≢◌, inl, inr, ℕ, ◌+◌, ◌<◌, false, List, [], ◌∷◌, ◌++◌, Option, Some, None, Ok, All, refl, sym, ◌∙◌, subst, arith}
use Rattle.std.proofs.lemmas.List.Elements.{All-nil}
use Rattle.moves.specs.declared.row.Row.{Row}
use Rattle.moves.specs.declared.command.Command.{Command}
use Rattle.moves.specs.Rows.{Rows, row_of, IsListing, with_row, IsFree}
use Rattle.moves.specs.Commands.{writes, touches}
use Rattle.moves.specs.Moves.{made_at}
use Rattle.moves.specs.Fold.{Numbered, Leads, Rises}
use Rattle.moves.proofs.RowLemmas.{free_from_all, with_row-same, with_row-other, listing-with_row, rows_same}
use Rattle.moves.proofs.ChainLemmas.{IsPlain, plain_more, plain_step, plain_end, others_differ, leads_split, leads_join, apart}
use Rattle.moves.proofs.NameLemmas.{bytes_tells}
use Rattle.rapid_text.specs.Recording.{Recording}
use Rattle.moves.specs.declared.board.Proposal.{Proposal}

pub plain_nil : IsPlain 0 []
plain_nil = record { listing = tt; low = All-nil (λ (q : List ℕ × Row). q.1.birth < 0) }

pub rises_split : (E F : List Numbered) (low high : ℕ) → Rises low (E ++ F) high → (mid : ℕ) × Rises low E mid × Rises mid F high
rises_split [] F low high r = (low, omega arith, r)
rises_split (e ∷ E) F low high r = let rest = rises_split E F (e.0 + 1) high r.1 in (rest.0, (r.0, rest.1), rest.2)

-- rows free for a listing stay free for what agrees with it elsewhere
module _ (x : List ℕ) where
  pub row_updated : (W : Rows) (o : Option Row) (V : Rows) → IsListing W → IsListing V → ((y : List ℕ) → y ≢ x → row_of V y ≡ row_of W y) → row_of V x ≡ o → IsFree W x o → V ≡ with_row W x o
  row_updated W o V lw lv agree here free = rows_same V (with_row W x o) lv (listing-with_row W x o lw free) (λ y. elim (bytes_tells y x) [
    | inl h ↦ rw h.1 (here ∙ sym (with_row-same W x o lw))
    | inr h ↦ agree y h.1 ∙ sym (with_row-other W x y o h.1)
  ])

-- a row that another listing has is free here, where the two agree elsewhere
pub free_here : (x : List ℕ) (W V : Rows) (o : Option Row) → IsListing V → row_of V x ≡ o → ((y : List ℕ) → y ≢ x → row_of V y ≡ row_of W y) → IsFree W x o
free_here x W V None l at agree = tt
free_here x W V (Some r) l at agree = λ y s apart there.
    free_from_all V x r (others_differ V x r l at) y s apart (agree y apart ∙ there)

module _ (T : Recording) (B : List Proposal) (R : Numbered → Option Row → Option Row → Type 0) where
  -- one more command
  pub leads_push : (E : List Numbered) (n : ℕ) (d : Command) (W V : Rows) (o : Option Row) → Leads T B R W E V → made_at T B n d V ≡ Ok o → R (n, d) (row_of V (writes d)) o
      → Leads T B R W (E ++ (n, d) ∷ []) (with_row V (writes d) o)
  leads_push E n d W V o leads makes fits = leads_join T B R E ((n, d) ∷ []) W V (with_row V (writes d) o) leads (o, makes, fits, refl)

  -- the rows, where the command k is taken out and its row is again what it was before it
  pub record IsUndone (E F : List Numbered) (k : ℕ) (d : Command) (V : Rows) : Type 0 where
    pub before : Option Row
    pub fits : R (k, d) before (row_of V (writes d))
    pub free : IsFree V (writes d) before
    pub leads : Leads T B R [] (E ++ F) (with_row V (writes d) before)

  pub undone : (E F : List Numbered) (k high : ℕ) (d : Command) (V : Rows) → Rises 0 (E ++ (k, d) ∷ F) high
      → All (λ (e : Numbered). touches e.1 (writes d) ≡ false) F → Leads T B R [] (E ++ (k, d) ∷ F) V → IsUndone E F k d V
  undone E F k high d V rises clear leads =
      let x = writes d in
      let r = rises_split E ((k, d) ∷ F) 0 high rises in
      let cut = leads_split T B R E ((k, d) ∷ F) [] V leads in
      let U = cut.0 in
      let o = cut.2.0 in
      let plain : IsPlain k U = plain_more r.0 k U r.2.0 (plain_end T B R E [] U 0 r.0 plain_nil r.1 cut.1) in
      let after : IsPlain (k + 1) (with_row U x o) = plain_step T B k d U o plain cut.2.1 in
      let a = apart T B R x F (with_row U x o) U V (k + 1) high after (plain_more k (k + 1) U (omega arith) plain) (λ y away. sym (with_row-other U x y o away)) r.2.1 clear cut.2.3 in
      let there : row_of V x ≡ o = a.stays ∙ with_row-same U x o plain.listing in
      let kept : IsPlain high a.rows = plain_end T B R F U a.rows (k + 1) high (plain_more k (k + 1) U (omega arith) plain) r.2.1 a.leads in
      let now : IsPlain high V = plain_end T B R F (with_row U x o) V (k + 1) high after r.2.1 cut.2.3 in
      let free : IsFree V x (row_of U x) = free_here x V a.rows (row_of U x) kept.listing a.here a.agree in
      let same : a.rows ≡ with_row V x (row_of U x) = row_updated x V (row_of U x) a.rows now.listing kept.listing a.agree a.here free in
      record {
        before = row_of U x;
        fits = subst (λ q. R (k, d) (row_of U x) q) (sym there) cut.2.2;
        free = free;
        leads = subst (Leads T B R [] (E ++ F)) same (leads_join T B R E F [] U a.rows cut.1 a.leads);
      }
