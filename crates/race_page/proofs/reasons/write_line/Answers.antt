use Rattle.std.proofs.Common.{refl, ℕ, List, ◌++◌, ◌∷◌, [], ap, ◌∙◌}
use Rattle.std.specs.Prelude.{slice_index_or}
use Rattle.rapid_text.specs.Recording.{Recording}
use Rattle.std.specs.List.{concat}
use Rattle.markup.specs.Escaped.{escaped}
use Rattle.race_page.specs.Reasons.{IsApartLine, forced_line, guarded_line, guarded_words, contradicted_words}
use Rattle.race_page.proofs.PieceLemmas.{refuted}
use Rattle.race_page.proofs.reasons.write_line.Goals as goal

pub returns-then-is_forced : goal.returns-then-is_forced
returns-then-is_forced c = (
  forced_line c.args.first c.args.second,
  c.in_ok-write_forced.ensures,
  IsApartLine.forced (c.is_forced.ensures.forced.0 c.if-is_forced.true) refl,
)

pub returns-in_ok-write_guarded-in-Some : goal.returns-in_ok-write_guarded-in-Some
returns-in_ok-write_guarded-in-Some c = (
  guarded_line c.args.analysis.now c.in-Some.lock,
  c.in_ok-write_guarded-in-Some.ensures
      ∙ ap (λ (name : List ℕ). c.args.piece.now ++ guarded_words name)
      (c.name_of.ensures ∙ ap (λ (r : Recording). slice_index_or r.locks c.in-Some.lock []) c.indexed.ensures),
  IsApartLine.guarded (refuted _ _ c.is_forced.ensures.forced c.if-is_forced.false) c.in-Some.lock c.in-Some.ensures.found c.in-Some.ensures.least refl,
)

pub returns-in_ok-write-in-None : goal.returns-in_ok-write-in-None
returns-in_ok-write-in-None c = (
  concat (escaped contradicted_words ∷ []),
  c.in_ok-write-in-None.ensures,
  IsApartLine.neither (refuted _ _ c.is_forced.ensures.forced c.if-is_forced.false) (c.guard.ensures.none c.in-None.is) refl,
)
