use Rattle.std.proofs.Common.{◌≡◌, length, ap, sym, subst, ◌∙◌, rules}
use Rattle.event_index.specs.Tables.{IsTable}
use Rattle.schedule.specs.Counts.{count_in, AreByThread}
use Rattle.schedule.specs.Tables.{AreTables, shadow_of}
use Rattle.schedule.specs.declared.tables.Tables.{Tables}
use Rattle.schedule.proofs.tables.copied.Goals as goal

pub returns : goal.returns
returns c =
    let source = c.args.tables.now in
    let counts : c.in_ok-from_slice.field-0.items ≡ source.counts.items = search rules in
    let shadows : c.in_ok-from_slice-2.field-0.items ≡ source.shadows.items = search rules in
    let copy : Tables = record { counts = c.in_ok-from_slice.field-0; latest = c.in_ok-copied.field-0; shadows = c.in_ok-from_slice-2.field-0 } in
    λ T P tables.
    let are : AreTables T P copy = record {
      order = subst AreByThread (sym counts) tables.order;
      counts = λ t. ap (λ l. count_in l t) counts ∙ tables.counts t;
      latest = λ q. c.in_ok-copied.ensures q ∙ tables.latest q;
      shadows = subst (IsTable (shadow_of T P) (length P)) (sym shadows) tables.shadows;
    } in
    subst (AreTables T P) (search rules) are
