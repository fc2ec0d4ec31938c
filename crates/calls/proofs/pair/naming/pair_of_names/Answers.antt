use Rattle.std.proofs.Common.{◌≡◌, Bool, List, subst, ◌∙◌}
use Rattle.explain_report.specs.places.Accesses.{flags_of}
use Rattle.calls.specs.pair.Named.{IsUnplaced}
use Rattle.calls.proofs.pair.naming.pair_of_names.Goals as goal

pub returns-clause-none : goal.returns-clause-none
returns-clause-none c =
    let r = c.args.indexed.now in
    let ones : c.as_slice.result.now ≡ flags_of r c.args.one = c.as_slice.ensures.value ∙ c.in_ok-ones.ensures.flags in
    let others : c.as_slice-2.result.now ≡ flags_of r c.args.other = c.as_slice-2.ensures.value ∙ c.in_ok-others.ensures.flags in
    λ none.
    subst (λ (xs : List Bool). IsUnplaced r c.args.is_event xs (flags_of r c.args.other)) ones
    (subst (λ (ys : List Bool). IsUnplaced r c.args.is_event c.as_slice.result.now ys) others (c.pair_of_flags.ensures.none none))
