use Rattle.std.proofs.Common.{◌≡◌, ◌∙◌, ℕ, Bool, true, false, List, IfErr, IfOk, refl, subst}
use Rattle.std.specs.Prelude.{slice_index_or}
use Rattle.uses_report.specs.Between.{AreChosen, AreTooMany, HaveNoTable, IsTableOf, IsTableText, named_of}
use Rattle.uses_report.proofs.BetweenLemmas.{if_err, if_ok, no_pair, no_table, table}
use Rattle.uses_report.proofs.between.table_between.Goals as goal

pub returns-then-not-has_some-clause-fault : goal.returns-then-not-has_some-clause-fault
returns-then-not-has_some-clause-fault c =
    let r = c.args.indexed.now in
    no_pair r c.args.ones.now c.args.others.now c.in_ok-chosen.chosen.items (record { len = c.in_ok-chosen.ensures.len; shared = c.in_ok-chosen.ensures.chosen })
    (λ x. subst (λ (flags : List Bool). ¬ (slice_index_or flags x false ≡ true)) c.as_slice.ensures.value (c.if-not-has_some.ensures.none refl x))

pub returns-clause-text : goal.returns-clause-text
returns-clause-text c =
    let r = c.args.indexed.now in
    let chosen = c.in_ok-chosen.chosen.items in
    let are : AreChosen r c.args.ones.now c.args.others.now chosen = record { len = c.in_ok-chosen.ensures.len; shared = c.in_ok-chosen.ensures.chosen } in
    let some : (x : ℕ) × (slice_index_or chosen x false ≡ true) =
    subst (λ (flags : List Bool). (x : ℕ) × (slice_index_or flags x false ≡ true)) c.as_slice.ensures.value (c.if-not-has_some.ensures.some refl) in
    let named : c.as_slice-3.result.now ≡ named_of c.args.ones.now c.args.others.now = c.as_slice-3.ensures.value ∙ c.in_ok-named.ensures in
    let text =
    subst (λ (flags : List Bool). IfOk c.text_of.result (λ text. IsTableText r (named_of c.args.ones.now c.args.others.now) flags text.items)) c.as_slice-2.ensures.value
    (subst (λ (flags : List Bool). IfOk c.text_of.result (λ text. IsTableText r flags c.as_slice-2.result.now text.items)) named c.text_of.ensures.text) in
    if_ok (λ text. IsTableText r (named_of c.args.ones.now c.args.others.now) chosen text.items) (λ text. IsTableOf r c.args.ones.now c.args.others.now text.items)
    c.text_of.result (table r c.args.ones.now c.args.others.now chosen are (c.if-not-are_at_one_place.ensures.one refl) (c.if-not-are_at_one_place-2.ensures.one refl) some) text

pub returns-clause-fault : goal.returns-clause-fault
returns-clause-fault c =
    let r = c.args.indexed.now in
    let chosen = c.in_ok-chosen.chosen.items in
    let are : AreChosen r c.args.ones.now c.args.others.now chosen = record { len = c.in_ok-chosen.ensures.len; shared = c.in_ok-chosen.ensures.chosen } in
    let fault = subst (λ (flags : List Bool). IfErr c.text_of.result (AreTooMany r flags)) c.as_slice-2.ensures.value c.text_of.ensures.fault in
    if_err (AreTooMany r chosen) (HaveNoTable r c.args.ones.now c.args.others.now) c.text_of.result (no_table r c.args.ones.now c.args.others.now chosen are) fault
