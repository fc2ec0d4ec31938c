use Rattle.std.proofs.Common.{rules}
use Rattle.indexmap.specs.IndexSet.{keys}
use Rattle.calls.proofs.triage.LeavingListedLemmas.{all-end, all-more, HasPlaces-kept}
use Rattle.calls.proofs.triage.leaving.listed.add_all.Goals as goal

pub cells-init : goal.cells-init
cells-init c = (λ ks kept rest. rest, search rules)

pub cells-preserved : goal.cells-preserved
cells-preserved c =
    let step = c.in_ok-add_both.ensures in (
      λ ks kept rest.
          c.cells.invariant.0 ks (λ name k is. kept name k (step.kept name k is))
          (all-more ks c.cell_at.result _ _ c.cell_at.ensures (HasPlaces-kept _ ks c.cell_at.result kept step.has) rest),
      search rules,
    )

pub returns : goal.returns
returns c =
    c.cells.invariant.0 (keys c.cells.locations) (λ name k is. is) (all-end (keys c.cells.locations) c.args.cells.now c.cells.at (search rules))
