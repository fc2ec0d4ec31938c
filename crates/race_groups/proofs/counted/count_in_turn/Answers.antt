use Rattle.std.proofs.Common.{◌≤◌, length, slice_index, sym, ap, subst, Err}
use Rattle.indexmap.specs.IndexMap.{index_map_len}
use Rattle.race_groups.specs.Basis.{AreInTurn}
use Rattle.race_groups.specs.Rows.{AreRows}
use Rattle.race_groups.specs.declared.rows.RowsRefusal.TheVariants.{TooMany}
use Rattle.race_groups.proofs.CompleteLemmas.{same_Err}
use Rattle.race_groups.proofs.TurnLemmas.{AreTooMany-few}
use Rattle.race_groups.proofs.counted.count_in_turn.Goals as goal

pub returns-in-Ok : goal.returns-in-Ok
returns-in-Ok c =
    let same = sym c.into_rows.ensures in
    record {
      counted = subst (λ m. AreInTurn c.args.basis c.args.basis.from (length c.args.basis.indexed.now.threads) m) same c.in-Ok.ensures.ok;
      rows = subst (λ m. AreRows m) same c.in-Ok.ensures.rows;
      kept = subst (λ m. index_map_len m ≤ c.args.limit) same c.in-Ok.ensures.kept;
      too_many = λ refused. cc;
    }

pub returns-in-Err : goal.returns-in-Err
returns-in-Err c = record {
  counted = tt;
  rows = tt;
  kept = tt;
  too_many = λ refused.
      let told = c.in-Err.ensures.too_many (ap Err (same_Err c.in-Err.refusal TooMany refused)) in
      AreTooMany-few c.args.basis c.requires.basis (slice_index c.args._places.now) c.requires.classes c.args.limit c.add_pairs.new.rows told.0 told.1;
}
