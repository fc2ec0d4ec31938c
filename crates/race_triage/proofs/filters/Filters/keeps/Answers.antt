use Rattle.std.proofs.Common.{◌≡◌, ◌==◌, ℕ, true, false, length, map, ap, sym, ◌∙◌}
use Rattle.std.proofs.lemmas.List.{length-map}
use Rattle.race_triage.specs.Chosen.{is_in}
use Rattle.race_triage.proofs.FilterLemmas.{is_shown-all, is_shown-hidden, is_shown-some, list_any-map}
use Rattle.race_triage.proofs.filters.Filters.keeps.Goals as goal

pub returns-then-stand_in : goal.returns-then-stand_in
returns-then-stand_in c =
    let first = c.args.first.now in
    let second = c.args.second.now in
    let hides = c.args.self.now.hide.now in
    sym (is_shown-hidden (map (λ t. t.now) c.args.self.now.only.now) (map (λ t. t.now) hides) first second (list_any-map (is_in first second) (λ t. t.now) hides ∙ sym c.stand_in.ensures ∙ c.if-stand_in.true))

pub returns-then-is_empty : goal.returns-then-is_empty
returns-then-is_empty c =
    let first = c.args.first.now in
    let second = c.args.second.now in
    let hides = c.args.self.now.hide.now in
    let none : (length (map (λ t. t.now) c.args.self.now.only.now) == 0) ≡ true =
    ap (λ (n : ℕ). n == 0) (length-map c.args.self.now.only.now (λ t. t.now)) ∙ sym c.is_empty.ensures ∙ c.if-is_empty.true in
    c.if-is_empty.true
    ∙ sym (is_shown-all (map (λ t. t.now) c.args.self.now.only.now) (map (λ t. t.now) hides) first second (list_any-map (is_in first second) (λ t. t.now) hides ∙ sym c.stand_in.ensures ∙ c.if-stand_in.false) none)

pub returns-else-is_empty : goal.returns-else-is_empty
returns-else-is_empty c =
    let first = c.args.first.now in
    let second = c.args.second.now in
    let only = c.args.self.now.only.now in
    let hides = c.args.self.now.hide.now in
    let some : (length (map (λ t. t.now) only) == 0) ≡ false =
    ap (λ (n : ℕ). n == 0) (length-map only (λ t. t.now)) ∙ sym c.is_empty.ensures ∙ c.if-is_empty.false in
    c.stand_in-else-is_empty.ensures
    ∙ sym (list_any-map (is_in first second) (λ t. t.now) only)
    ∙ sym (is_shown-some (map (λ t. t.now) only) (map (λ t. t.now) hides) first second (list_any-map (is_in first second) (λ t. t.now) hides ∙ sym c.stand_in.ensures ∙ c.if-stand_in.false) some)
