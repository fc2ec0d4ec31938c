-- The table between two sets of events.
use Rattle.std.proofs.Common.{◌≡◌, ℕ, Bool, true, false, List, Result, Ok, Err, Vec, IfOk, IfErr, inr}
use Rattle.std.specs.Prelude.{slice_index_or}
use Rattle.std.specs.declared.alloc.Global.{Global}
use Rattle.rapid_text.specs.Recording.{Recording}
use Rattle.explain_report.specs.places.Accesses.{IsAtOnePlace}
use Rattle.explain_report.specs.declared.places.name.Name.{Name}
use Rattle.uses_report.specs.Between.{AreChosen, AreMeant, AreNoUses, AreTooMany, AreUsesTold, HaveNoPair, HaveNoTable, IsTableOf, IsTableText, named_of}
use Rattle.uses_report.specs.declared.refusal.UsesFault.{UsesFault}
use Rattle.uses_report.specs.declared.refusal.UsesFault.TheVariants.{NoSuchPair, OutOfMemory, TooMany}

-- what holds of an answer, by what holds of another
pub if_ok : {T E : Type 0} (P Q : T → Type 0) (result : Result T E) → ((x : T) → P x → Q x) → IfOk result P → IfOk result Q
if_ok P Q (Ok x) more h = more x h
if_ok P Q (Err e) more h = tt

pub if_err : {T E : Type 0} (P Q : E → Type 0) (result : Result T E) → ((e : E) → P e → Q e) → IfErr result P → IfErr result Q
if_err P Q (Ok x) more h = tt
if_err P Q (Err e) more h = more e h

module _ (r : Recording) (ones others chosen : List Bool) (are : AreChosen r ones others chosen) where
  pub no_pair : ((x : ℕ) → ¬ (slice_index_or chosen x false ≡ true)) → HaveNoPair r ones others
  no_pair none = inr (inr (λ x lt shared. none x ((are.shared x lt).1 shared)))

  pub table : IsAtOnePlace r ones → IsAtOnePlace r others → ((x : ℕ) × (slice_index_or chosen x false ≡ true))
      → (text : Vec ℕ Global) → IsTableText r (named_of ones others) chosen text.items → IsTableOf r ones others text.items
  table one other some text is = record { one_place = one; other_place = other; chosen = chosen; are_chosen = are; some = some; table = is }

  pub no_table : (fault : UsesFault) → AreTooMany r chosen fault → HaveNoTable r ones others fault
  no_table NoSuchPair never = elim never [ ]
  no_table TooMany many = (chosen, are, many)
  no_table OutOfMemory h = tt

module _ (r : Recording) (one other : Name) (ones others : List Bool) (first : AreMeant r one ones) (second : AreMeant r other others) where
  pub uses : (text : Vec ℕ Global) → IsTableOf r ones others text.items → AreUsesTold r one other text.items
  uses text is = record { ones = ones; others = others; first = first; second = second; told = is }

  pub no_uses : (fault : UsesFault) → HaveNoTable r ones others fault → AreNoUses r one other fault
  no_uses NoSuchPair h = (ones, others, first, second, h)
  no_uses TooMany h = (ones, others, first, second, h)
  no_uses OutOfMemory h = tt
