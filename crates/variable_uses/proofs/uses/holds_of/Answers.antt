use Rattle.std.proofs.Common.{◌≡◌, ◌≤◌, ◌∙◌, length, nat_lt, slice_index, sym, ap, subst}
use Rattle.std.proofs.lemmas.Option.{slice_get-get_or}
use Rattle.variable_uses.specs.Held.{AreUsesBefore}
use Rattle.variable_uses.specs.Table.{holds_in}
use Rattle.variable_uses.proofs.TableLemmas.{column_held, few_uses, found_is, totals_held}
use Rattle.variable_uses.proofs.uses.holds_of.Goals as goal

pub locks_of_rows-requires-clause-lists : goal.locks_of_rows-requires-clause-lists
locks_of_rows-requires-clause-lists c =
    let T = c.args.indexed.now.events in
    let found = found_is c.in_ok-lists.field-0 c.in-Some.lists (λ lists. AreUsesBefore c.args.indexed.now.events c.args.numbers.now (length c.args.indexed.now.events) lists.items) c.in-Some.is c.in_ok-lists.ensures.uses in
    let uses = subst (AreUsesBefore c.args.indexed.now.events c.args.numbers.now (length c.args.indexed.now.events)) (sym c.as_slice.ensures.value) found in
    few_uses T c.args.numbers.now c.as_slice.result.now uses c.requires.len c.len-len.ensures.well_formed.events

pub totals_of-requires-clause-few : goal.totals_of-requires-clause-few
totals_of-requires-clause-few c =
    let T = c.args.indexed.now.events in
    let found = found_is c.in_ok-lists.field-0 c.in-Some.lists (λ lists. AreUsesBefore c.args.indexed.now.events c.args.numbers.now (length c.args.indexed.now.events) lists.items) c.in-Some.is c.in_ok-lists.ensures.uses in
    let uses = subst (AreUsesBefore c.args.indexed.now.events c.args.numbers.now (length c.args.indexed.now.events)) (sym c.as_slice-2.ensures.value) found in
    let few = few_uses T c.args.numbers.now c.as_slice-2.result.now uses c.requires.len c.len-len.ensures.well_formed.events in
    λ k d lt. (few k _ (slice_get-get_or c.as_slice-2.result.now k d lt)).0

pub returns : goal.returns
returns c =
    let r = c.args.indexed.now in
    let found = found_is c.in_ok-lists.field-0 c.in-Some.lists (λ lists. AreUsesBefore c.args.indexed.now.events c.args.numbers.now (length c.args.indexed.now.events) lists.items) c.in-Some.is c.in_ok-lists.ensures.uses in
    let len = found_is c.in_ok-lists.field-0 c.in-Some.lists (λ lists. length lists.items ≡ length c.args.indexed.now.locks) c.in-Some.is c.in_ok-lists.ensures.len in
    let uses = subst (AreUsesBefore c.args.indexed.now.events c.args.numbers.now (length c.args.indexed.now.events)) (sym c.as_slice.ensures.value) found in
    let uses_2 = subst (AreUsesBefore c.args.indexed.now.events c.args.numbers.now (length c.args.indexed.now.events)) (sym c.as_slice-2.ensures.value) found in
    record {
      holds =
          record {
            len = c.in_ok-locks.ensures.len;
            locks = λ k v at. c.in_ok-locks.ensures.columns k v at ∙ column_held r c.args.numbers.now c.as_slice.result.now uses (ap length c.as_slice.ensures.value ∙ len) k;
            totals = c.in_ok-totals.ensures ∙ totals_held r c.args.numbers.now c.as_slice-2.result.now uses_2 (ap length c.as_slice-2.ensures.value ∙ len);
          };
      few = found_is c.in_ok-lists.field-0 c.in-Some.lists (λ lists. holds_in r (λ e. nat_lt 0 (slice_index c.args.numbers.now e)) (length r.events) ≤ 16777216) c.in-Some.is c.in_ok-lists.ensures.few;
      many = λ none. absurd (cc none);
    }
