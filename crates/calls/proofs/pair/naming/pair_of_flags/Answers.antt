use Rattle.std.proofs.Common.{◌≡◌, ℕ, ◌<◌, List, refl, length, slice_index, ap, subst, sym, ◌∙◌}
use Rattle.calls.specs.pair.Named.{marks_of}
use Rattle.calls.proofs.pair.NamedLemmas.{few_marks, length-marks_of, placed}
use Rattle.calls.proofs.pair.naming.pair_of_flags.Goals as goal

pub reported-requires-clause-len : goal.reported-requires-clause-len
reported-requires-clause-len c =
    let marks : c.as_slice.result.now ≡ marks_of c.args.ones.now c.args.others.now = c.as_slice.ensures.value ∙ c.in_ok-marks-in-Some.ensures in
    ap length marks ∙ length-marks_of c.args.ones.now c.args.others.now ∙ c.requires.ones

pub reported-requires-clause-few : goal.reported-requires-clause-few
reported-requires-clause-few c =
    let marks : c.as_slice.result.now ≡ marks_of c.args.ones.now c.args.others.now = c.as_slice.ensures.value ∙ c.in_ok-marks-in-Some.ensures in
    λ e. subst (λ (xs : List ℕ). slice_index xs e < 3) (sym marks) (few_marks c.args.ones.now c.args.others.now e)

pub returns-in_ok-marks-in-Some-clause-placed : goal.returns-in_ok-marks-in-Some-clause-placed
returns-in_ok-marks-in-Some-clause-placed c =
    let marks : c.as_slice.result.now ≡ marks_of c.args.ones.now c.args.others.now = c.as_slice.ensures.value ∙ c.in_ok-marks-in-Some.ensures in
    placed c.args.indexed.now c.args.is_event c.args.ones.now c.args.others.now (c.if-not-are_at_one_place.ensures.one refl) (c.if-not-are_at_one_place-2.ensures.one refl)
    c.in-Some.between c.in-Some.ensures.some c.as_slice.result.now marks c.reported.result c.reported.ensures.reported
