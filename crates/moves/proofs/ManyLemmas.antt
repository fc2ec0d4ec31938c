-- A batch is undone by undoing its commands, the last first.
use Rattle.std.proofs.Common.{◌≡◌, ℕ, ◌+◌, ◌≤◌, false, List, [], ◌∷◌, ◌++◌, Option, All, reverse, refl, sym, ap, ◌∙◌, subst, arith}
use Rattle.std.proofs.lemmas.List.{append_assoc, reverse-append}
use Rattle.std.proofs.lemmas.List.Elements.{All-head, All-tail}
use Rattle.rapid_text.specs.Recording.{Recording}
use Rattle.moves.specs.declared.board.Proposal.{Proposal}
use Rattle.moves.specs.declared.row.Row.{Row}
use Rattle.moves.specs.Commands.{writes, touches}
use Rattle.moves.specs.Fold.{Numbered, Leads, Rises}
use Rattle.moves.specs.Rows.{Rows, row_of, with_row, IsFree}
use Rattle.moves.proofs.UndoLemmas.{IsUndone, undone}

rises_lower : (E : List Numbered) (a b high : ℕ) → a ≤ b → Rises b E high → Rises a E high
rises_lower [] a b high h r = omega arith
rises_lower (e ∷ E) a b high h r = (omega (arith, r.0), r.1)

pub rises_without : (E F : List Numbered) (e : Numbered) (low high : ℕ) → Rises low (E ++ e ∷ F) high → Rises low (E ++ F) high
rises_without [] F e low high r = rises_lower F low (e.0 + 1) high (omega (arith, r.0)) r.1
rises_without (d ∷ E) F e low high r = (r.0, rises_without E F e (d.0 + 1) high r.1)

module _ (T : Recording) (B : List Proposal) (R : Numbered → Option Row → Option Row → Type 0) where
  -- from V to U by one step back for each command, in the order of D
  abbrev pub StepsBack : List Numbered → Rows → Rows → Type 0
  StepsBack [] V U = U ≡ V
  StepsBack (e ∷ D) V U = (o : Option Row) × R e o (row_of V (writes e.1)) × IsFree V (writes e.1) o × StepsBack D (with_row V (writes e.1) o) U

  -- no command of F touches what one of D writes
  abbrev pub Clear : List Numbered → List Numbered → Type 0
  Clear D F = All (λ (e : Numbered). All (λ (f : Numbered). touches f.1 (writes e.1) ≡ false) F) D

  pub many_undone : (E F D : List Numbered) (V : Rows) (high : ℕ) → Rises 0 (E ++ (reverse D ++ F)) high → Clear D F → Leads T B R [] (E ++ (reverse D ++ F)) V
      → (U : Rows) × Leads T B R [] (E ++ F) U × StepsBack D V U
  many_undone E F [] V high rises clear leads = (V, leads, refl)
  many_undone E F (e ∷ D) V high rises clear leads =
      let X = E ++ reverse D in
      let same : E ++ (reverse (e ∷ D) ++ F) ≡ X ++ e ∷ F = ap (λ ys. E ++ (ys ++ F)) (reverse-append (e ∷ []) D) ∙ ap (λ ys. E ++ ys) (append_assoc (reverse D) (e ∷ []) F) ∙ sym (append_assoc E (reverse D) (e ∷ F)) in
      let up : Rises 0 (X ++ e ∷ F) high = subst (λ ys. Rises 0 ys high) same rises in
      let one : IsUndone T B R X F e.0 e.1 V = undone T B R X F e.0 high e.1 V up (All-head (λ (e : Numbered). All (λ (f : Numbered). touches f.1 (writes e.1) ≡ false) F) e D clear) (subst (λ ys. Leads T B R [] ys V) same leads) in
      let V' = with_row V (writes e.1) one.before in
      let assoc : X ++ F ≡ E ++ (reverse D ++ F) = append_assoc E (reverse D) F in
      let rest = many_undone E F D V' high (subst (λ ys. Rises 0 ys high) assoc (rises_without X F e 0 high up))
      (All-tail (λ (e : Numbered). All (λ (f : Numbered). touches f.1 (writes e.1) ≡ false) F) e D clear) (subst (λ ys. Leads T B R [] ys V') assoc one.leads) in
      (rest.0, rest.1, (one.before, one.fits, one.free, rest.2))
