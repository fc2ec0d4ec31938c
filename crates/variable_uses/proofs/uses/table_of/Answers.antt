use Rattle.std.proofs.Common.{◌≡◌, ◌<◌, ◌≤◌, ◌∙◌, ℕ, Bool, List, length, nat_lt, slice_index, ap, subst, arith}
use Rattle.std.proofs.Math.Path.{fun_ext}
use Rattle.variable_uses.specs.Parts.{AreHolds}
use Rattle.variable_uses.specs.Rows.{keys_of}
use Rattle.variable_uses.specs.Table.{holds_in}
use Rattle.variable_uses.proofs.RaceLemmas.{AreColumns-parts}
use Rattle.variable_uses.proofs.TableLemmas.{found_is, length-keys}
use Rattle.variable_uses.proofs.uses.table_of.Goals as goal

pub holds_of-requires-clause-len : goal.holds_of-requires-clause-len
holds_of-requires-clause-len c =
    ap length c.as_slice-numbers.ensures.value ∙ c.in_ok-numbering.ensures.len ∙ length-keys c.args.indexed.now.events c.args.asked.places.now c.args.asked.chosen.now

pub race_of-requires-clause-len : goal.race_of-requires-clause-len
race_of-requires-clause-len c =
    ap length c.as_slice-numbers.ensures.value ∙ c.in_ok-numbering.ensures.len ∙ length-keys c.args.indexed.now.events c.args.asked.places.now c.args.asked.chosen.now

pub counts_of-requires-clause-few : goal.counts_of-requires-clause-few
counts_of-requires-clause-few c =
    let len = ap length c.as_slice-numbers.ensures.value ∙ c.in_ok-numbering.ensures.len ∙ length-keys c.args.indexed.now.events c.args.asked.places.now c.args.asked.chosen.now in
    let few = c.len-len.ensures.well_formed.events in
    omega (arith, len, few)

pub threads_of-requires-clause-len : goal.threads_of-requires-clause-len
threads_of-requires-clause-len c =
    ap length c.as_slice-numbers.ensures.value ∙ c.in_ok-numbering.ensures.len ∙ length-keys c.args.indexed.now.events c.args.asked.places.now c.args.asked.chosen.now

pub returns-clause-uses : goal.returns-clause-uses
returns-clause-uses c =
    let r = c.args.indexed.now in
    let keys = keys_of c.args.indexed.now.events c.args.asked.places.now c.args.asked.chosen.now in
    let keys_len = length-keys c.args.indexed.now.events c.args.asked.places.now c.args.asked.chosen.now in
    let len = ap length c.as_slice-numbers.ensures.value ∙ c.in_ok-numbering.ensures.len ∙ keys_len in
    let holds = found_is c.in_ok-holds.field-0 c.in-Some.holds (AreHolds c.args.indexed.now c.as_slice-numbers.result.now c.len-rows.result) c.in-Some.is c.in_ok-holds.ensures.holds in
    AreColumns-parts keys c.in_ok-numbering.numbering c.in_ok-numbering.ensures c.as_slice-numbers.result.now c.as_slice-numbers.ensures.value r c.args.asked.named.now c.len-rows.result (omega (arith, c.len-rows.ensures)) keys_len len
    c.in_ok-counts.counts c.in_ok-threads.threads c.in_ok-named.named c.in_ok-named.sides c.in-Some.holds.0 c.in-Some.holds.1 c.in_ok-counts.ensures.len c.in_ok-counts.ensures.counts c.in_ok-threads.ensures.len
    c.in_ok-threads.ensures.counts holds c.in_ok-named.ensures.race

pub returns-clause-few : goal.returns-clause-few
returns-clause-few c =
    let r = c.args.indexed.now in
    let keys = keys_of r.events c.args.asked.places.now c.args.asked.chosen.now in
    let same : (λ e. nat_lt 0 (slice_index c.as_slice-numbers.result.now e)) ≡ (λ e. nat_lt 0 (slice_index keys e)) =
    fun_ext (λ e. ap (λ (xs : List ℕ). nat_lt 0 (slice_index xs e)) c.as_slice-numbers.ensures.value ∙ c.in_ok-numbering.ensures.positive e) in
    subst (λ (test : ℕ → Bool). holds_in r test (length r.events) ≤ 16777216) same
    (found_is c.in_ok-holds.field-0 c.in-Some.holds (λ _. holds_in r (λ e. nat_lt 0 (slice_index c.as_slice-numbers.result.now e)) (length r.events) ≤ 16777216) c.in-Some.is c.in_ok-holds.ensures.few)

pub returns-in-None-clause-many : goal.returns-in-None-clause-many
returns-in-None-clause-many c =
    let r = c.args.indexed.now in
    let keys = keys_of r.events c.args.asked.places.now c.args.asked.chosen.now in
    let same : (λ e. nat_lt 0 (slice_index c.as_slice-numbers.result.now e)) ≡ (λ e. nat_lt 0 (slice_index keys e)) =
    fun_ext (λ e. ap (λ (xs : List ℕ). nat_lt 0 (slice_index xs e)) c.as_slice-numbers.ensures.value ∙ c.in_ok-numbering.ensures.positive e) in
    λ _. subst (λ (test : ℕ → Bool). 16777216 < holds_in r test (length r.events)) same (c.in_ok-holds.ensures.many c.in-None.is)
