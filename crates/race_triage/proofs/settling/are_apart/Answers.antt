use Rattle.std.proofs.Common.{ℕ, List, slice_index, subst, arith}
use Rattle.std.proofs.lemmas.Result.{IfOk-weaker}
use Rattle.rapid_text.specs.Recording.{Recording}
use Rattle.race_triage.specs.Settled.{AreAllApart}
use Rattle.race_triage.proofs.SettledLemmas.{never_at}
use Rattle.race_triage.proofs.settling.are_apart.Goals as goal

pub returns : goal.returns
returns c =
    let found = c.args.found.now in
    let r : Recording = found.tables.indexed.now in
    let place : ℕ → ℕ = slice_index found.tables.places.now in
    let places : ℕ × ℕ = c.args.row.places in
    let es : List ℕ = c.in_ok-members.members.items in
    let here = c.requires.found.tables.places in
    IfOk-weaker c.all_apart.result _ _
    (λ so known is.
    let apart : AreAllApart c.args.analysis.now.events place places es =
    subst (λ (l : List ℕ). AreAllApart c.args.analysis.now.events place places l) c.as_slice.ensures.value (known is) in
    never_at r.events place places.0 places.1 es
    (λ e lt at. c.in_ok-members.ensures.all e (omega (arith, lt, here)) at)
    (subst (λ (x : Recording). AreAllApart x.events place places es) c.requires.trace apart))
    c.all_apart.ensures
