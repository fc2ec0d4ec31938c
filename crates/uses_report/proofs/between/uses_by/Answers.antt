use Rattle.std.proofs.Common.{◌<◌, ℕ, All, List, subst, sym}
use Rattle.uses_report.proofs.FewLemmas.{few_places}
use Rattle.uses_report.proofs.between.uses_by.Goals as goal

pub table_between-requires-clause-few : goal.table_between-requires-clause-few
table_between-requires-clause-few c =
    let few = few_places c.args.indexed.now c.args.places.now c.len-len.ensures.well_formed c.requires.spots c.requires.firsts in
    subst (λ (numbers : List ℕ). All (λ n. n < 1048576) numbers) (sym c.as_slice-numbers.ensures.value) few
