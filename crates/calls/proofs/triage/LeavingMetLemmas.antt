-- A cell more, of which an entry speaks or not.
use Rattle.std.proofs.Common.{◌≡◌, ◌&&◌, ◌||◌, true, false, cond, List, ◌∷◌, Option, Some, sym, ap, ◌∙◌}
use Rattle.race_parts.specs.Cells.{is_same}
use Rattle.race_parts.specs.declared.cells.Cell.{Cell}
use Rattle.race_parts.specs.declared.cells.Row.{Row}
use Rattle.toml.specs.Data.{Data}
use Rattle.toml.specs.View.{view}
use Rattle.toml.specs.declared.value.Value.{Value}
use Rattle.calls.specs.triage.LeavingEntries.{are_named, is_decided, is_first_about, is_met, is_one_named, leaves_out}

module _ (rows : List Row) (d : Data) (before : Option Cell) (c : Cell) (cs left : List Cell) where
  pub met_yes : left ≡ c ∷ cs → is_first_about rows d before c left ≡ true → is_met rows d before left ≡ true
  met_yes cut is =
      ap (is_met rows d before) cut
      ∙ ap (λ b. b || is_met rows d (Some c) cs) (ap (is_first_about rows d before c) (sym cut) ∙ is)

  pub met_no : left ≡ c ∷ cs → is_first_about rows d before c left ≡ false → is_met rows d before left ≡ is_met rows d (Some c) cs
  met_no cut is =
      ap (is_met rows d before) cut
      ∙ ap (λ b. b || is_met rows d (Some c) cs) (ap (is_first_about rows d before c) (sym cut) ∙ is)

module _ (rows : List Row) (d : Data) (c e : Cell) (es left : List Cell) where
  pub named_stop : left ≡ e ∷ es → is_same c e ≡ false → are_named rows d c left ≡ true
  named_stop cut other = ap (are_named rows d c) cut ∙ ap (λ b. cond b (is_one_named rows d e && are_named rows d c es) true) other

  pub named_no : left ≡ e ∷ es → is_same c e ≡ true → is_one_named rows d e ≡ false → are_named rows d c left ≡ false
  named_no cut same is =
      ap (are_named rows d c) cut
      ∙ ap (λ b. cond b (is_one_named rows d e && are_named rows d c es) true) same
      ∙ ap (λ b. b && are_named rows d c es) is

  pub named_more : left ≡ e ∷ es → is_same c e ≡ true → is_one_named rows d e ≡ true → are_named rows d c left ≡ are_named rows d c es
  named_more cut same is =
      ap (are_named rows d c) cut
      ∙ ap (λ b. cond b (is_one_named rows d e && are_named rows d c es) true) same
      ∙ ap (λ b. b && are_named rows d c es) is

module _ (rows : List Row) (c : Cell) (cs : List Cell) (e : Value) (es left : List Value) where
  pub decided_yes : left ≡ e ∷ es → leaves_out rows c cs (view e) ≡ true → is_decided rows left c cs ≡ true
  decided_yes cut is = ap (λ (vs : List Value). is_decided rows vs c cs) cut ∙ ap (λ b. b || is_decided rows es c cs) is

  pub decided_no : left ≡ e ∷ es → leaves_out rows c cs (view e) ≡ false → is_decided rows left c cs ≡ is_decided rows es c cs
  decided_no cut is = ap (λ (vs : List Value). is_decided rows vs c cs) cut ∙ ap (λ b. b || is_decided rows es c cs) is
