use Rattle.std.proofs.Common.{◌≡◌, ◌≢◌, ℕ, List, IfSome, None, Some, ◌∙◌, subst}
use Rattle.deadlock_triage.specs.Patterns.{locations_of}
use Rattle.deadlock_triage.specs.Rows.{text_at}
use Rattle.deadlock_triage.proofs.KeyLemmas.{index_none, index_some}
use Rattle.deadlock_triage.proofs.rows.index_of.Goals as goal

pub returns-clause-some : goal.returns-clause-some
returns-clause-some c =
    let keys = c.args.patterns.now.keys in
    let same : c.as_slice.result.now ≡ locations_of c.args.pattern = c.as_slice.ensures ∙ c.locations_of-locations.ensures in
    subst (λ (name : List ℕ). IfSome c.get_index_of.result (λ at. text_at keys at ≡ Some name)) same (index_some keys c.as_slice.result.now c.get_index_of.result c.get_index_of.ensures.index)

pub returns-clause-none : goal.returns-clause-none
returns-clause-none c none =
    let keys = c.args.patterns.now.keys in
    let same : c.as_slice.result.now ≡ locations_of c.args.pattern = c.as_slice.ensures ∙ c.locations_of-locations.ensures in
    subst (λ (name : List ℕ). (k : ℕ) → text_at keys k ≢ Some name) same (index_none keys c.as_slice.result.now c.get_index_of.result c.get_index_of.ensures.found none)
