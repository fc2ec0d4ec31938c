-- What is known of a schedule's fields, told of the trace and the list that a call sees.
use Rattle.std.proofs.Common.{◌≡◌, ℕ, List, sym, subst}
use Rattle.rapid_text.specs.Recording.{Recording}
use Rattle.schedule.specs.Reordering.{IsCorrectReordering}
use Rattle.schedule.specs.Tables.{AreTables}
use Rattle.schedule.specs.declared.tables.Tables.{Tables}

module _ (r s : Recording) (P Q : List ℕ) (trace : r ≡ s) (events : Q ≡ P) where
  pub AreTables-seen : (t u : Tables) → u ≡ t → AreTables r.events P t → AreTables s.events Q u
  AreTables-seen t u same is =
      subst (λ (x : Recording). AreTables x.events Q u) trace
      (subst (λ (l : List ℕ). AreTables r.events l u) (sym events) (subst (AreTables r.events P) (sym same) is))

  pub IsCorrectReordering-seen : IsCorrectReordering r.events P → IsCorrectReordering s.events Q
  IsCorrectReordering-seen is =
      subst (λ (x : Recording). IsCorrectReordering x.events Q) trace (subst (IsCorrectReordering r.events) (sym events) is)
