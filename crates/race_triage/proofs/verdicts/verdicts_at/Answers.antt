use Rattle.std.specs.Prelude.{IfOk, ◌≡◌, Err}
use Rattle.std.proofs.Common.{ℕ, List, length, slice_index, All, ap, sym, ◌∙◌}
use Rattle.rapid_text.specs.Recording.{Recording}
use Rattle.race_groups.specs.Found.{AreTooMany}
use Rattle.race_triage.specs.Tables.{AreClassesOf}
use Rattle.race_triage.specs.Verdicts.{AreAllTold, IsVerdict}
use Rattle.race_triage.specs.Limits.{place_pair_limit}
use Rattle.race_triage.specs.declared.verdicts.TriageRefusal.TheVariants.{TooMany}
use Rattle.race_triage.proofs.BothLemmas.{both_along}
use Rattle.race_triage.proofs.verdicts.verdicts_at.Goals as goal

pub verdicts_by-requires : goal.verdicts_by-requires
verdicts_by-requires g c =
    let is = c.requires.located in
    let numbers = c.as_slice.ensures.value in (
      c.type_bounds.sync-R,
      (
        c.type_bounds.sync-W,
        (
          record {
            clocks = c.clocks.ensures ∙ sym c.indexed.ensures;
            must = c.must.ensures ∙ sym c.indexed.ensures;
            acquires = is.acquires ∙ sym c.indexed.ensures;
            places = ap (λ (ns : List ℕ). length ns) numbers ∙ is.numbers.len ∙ ap (λ (r : Recording). length r.events) (sym c.indexed.ensures);
            classes = both_along (λ (r : Recording) (ns : List ℕ). AreClassesOf r ns c.args.located.now.classes) _ _ _ _ (sym c.indexed.ensures) (sym numbers) is.classes;
          },
          sym c.indexed.ensures,
        ),
      ),
    )

pub returns-clause-verdicts : goal.returns-clause-verdicts
returns-clause-verdicts g c =
    both_along (λ (r : Recording) (ns : List ℕ). IfOk c.verdicts_by.result (λ vs. All (IsVerdict r (slice_index ns) c.args.effort.tries c.args.effort.apart) vs.items)) _ _ _ _
    c.indexed.ensures c.as_slice.ensures.value c.verdicts_by.ensures.verdicts

pub returns-clause-complete : goal.returns-clause-complete
returns-clause-complete g c =
    both_along (λ (r : Recording) (ns : List ℕ). IfOk c.verdicts_by.result (λ vs. AreAllTold r.events (slice_index ns) vs.items)) _ _ _ _
    c.indexed.ensures c.as_slice.ensures.value c.verdicts_by.ensures.complete

pub returns-clause-too_many : goal.returns-clause-too_many
returns-clause-too_many g c = λ refused.
    both_along (λ (r : Recording) (ns : List ℕ). AreTooMany r.events (slice_index ns) place_pair_limit) _ _ _ _
    c.indexed.ensures c.as_slice.ensures.value (c.verdicts_by.ensures.too_many refused)
