-- The variable that is named of a pair is the one that both of its events access.
use Rattle.std.proofs.Common.{◌≡◌, ℕ, true, false, eqb, Option, Some, sym, ap, ◌∙◌, ⊎_elim, true≢false}
use Rattle.std.specs.Option.{option_map}
use Rattle.std.proofs.lemmas.Bool.{eqb-true, or_cases}
use Rattle.rapid_text.specs.Canonical.{name_at}
use Rattle.rapid_text.specs.Recording.{Recording}
use Rattle.rapid_text.specs.declared.event.Event.{Event}
use Rattle.rapid_text.specs.declared.event.Op.{Op}
use Rattle.rapid_text.specs.declared.event.Op.TheVariants.{Read, Write}
use Rattle.event_index.specs.Relations.{is_access, IsConflicting}
use Rattle.report.specs.Candidates.{variable_by, variable_words}

false_no : {A : Type 0} → false ≡ true → A
false_no e = absurd (true≢false (sym e))

-- what accesses a variable is told by its name
variable_by-access : (r : Recording) (x : ℕ) (op : Op) → is_access x op ≡ true → variable_by r (Some op) ≡ name_at r.variables x
variable_by-access r x (Read y) h =
    ap (name_at r.variables) (⊎_elim (eqb-true y x) false_no (or_cases (eqb y x) false h))
variable_by-access r x (Write y) h = ap (name_at r.variables) (eqb-true y x h)
variable_by-access r x op h = false_no h

-- the variable that the first of two conflicting events accesses
pub variable_words-first : (r : Recording) (a b : ℕ) → (c : IsConflicting r.events a b)
    → variable_words r a ≡ name_at r.variables c.clash.variable
variable_words-first r a b c =
    ap (λ (found : Option Event). variable_by r (option_map (λ v. v.op) found)) c.first
    ∙ variable_by-access r c.clash.variable c.v.op c.clash.first

-- and that of the second
pub variable_words-second : (r : Recording) (a b : ℕ) → (c : IsConflicting r.events a b)
    → variable_words r b ≡ name_at r.variables c.clash.variable
variable_words-second r a b c =
    ap (λ (found : Option Event). variable_by r (option_map (λ v. v.op) found)) c.second
    ∙ variable_by-access r c.clash.variable c.w.op c.clash.second

-- both events of a conflicting pair access one variable, so it does not matter which of them names it
pub variable_words-alike : (r : Recording) (a b : ℕ) → IsConflicting r.events a b → variable_words r a ≡ variable_words r b
variable_words-alike r a b c = variable_words-first r a b c ∙ sym (variable_words-second r a b c)
