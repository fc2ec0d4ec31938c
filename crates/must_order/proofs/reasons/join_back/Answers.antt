use Rattle.std.proofs.Common.{◌≡◌, Some, length, refl, arith}
use Rattle.std.specs.List.{slice_get}
use Rattle.std.proofs.lemmas.Option.{slice_get_read}
use Rattle.must_order.proofs.ReasonLemmas.{release_within}
use Rattle.must_order.proofs.reasons.join_back.Goals as goal

pub leads_through-requires-clause-release : goal.leads_through-requires-clause-release
leads_through-requires-clause-release c =
    let js = c.args.joins.now.list.items in
    let j = c.index.result.now in
    let at : slice_get js c.loop-at.at ≡ Some j = slice_get_read js (length js) c.loop-at.at j refl (omega (arith, c.loop-at-test.true, c.requires.high)) c.index.ensures in
    release_within c.args.indexed.now.events j.acquire j.release j.event (c.requires.known.joins c.loop-at.at j at).ends
