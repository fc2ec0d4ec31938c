use Rattle.std.proofs.Common.{refl, sym, ◌∙◌}
use Rattle.std.proofs.lemmas.Bool.{false≢true}
use Rattle.std.proofs.lemmas.Option.{none-some}
use Rattle.lock_waits.proofs.requiring.required_row.Goals as goal

pub returns-then-is_refuted_by : goal.returns-then-is_refuted_by
returns-then-is_refuted_by c = record { refuted = (λ _. c.is_refuted_by.ensures.0 c.if-is_refuted_by.true, λ _. refl) }

pub returns : goal.returns
returns c = record {
  refuted = (
    λ none. absurd (none-some _ (sym none)),
    λ refuted. absurd (false≢true (sym c.if-is_refuted_by.false ∙ c.is_refuted_by.ensures.1 refuted)),
  );
}
