use Rattle.std.proofs.Common.{◌≡◌, ◌+◌, Some, sym, ap, ◌∙◌, slice_get}
use Rattle.std.proofs.lemmas.Option.{slice_get-get_or}
use Rattle.schedule.proofs.SwapLemmas.{pair_refusal-told, swap_refusal-pair}
use Rattle.schedule.proofs.swapping.swap_refusal.Goals as goal

pub returns : goal.returns
returns c =
    let T = c.args.indexed.now.events in
    let P = c.args.events.now in
    let a = c.in-Some.first.now in
    let b = c.in-Some-get.second.now in
    let at_first = c.in-Some.ensures.lookup.3 in
    let at_second = c.in-Some-get.ensures.lookup.3 in
    let first : slice_get P c.args.at ≡ Some a = slice_get-get_or P c.args.at a at_first.0 ∙ ap Some (sym (at_first.1 a)) in
    let second : slice_get P (c.args.at + 1) ≡ Some b = slice_get-get_or P (c.args.at + 1) b at_second.0 ∙ ap Some (sym (at_second.1 b)) in
    pair_refusal-told T a b c.pair_refusal.result c.pair_refusal.ensures.free c.pair_refusal.ensures.tied
    ∙ sym (swap_refusal-pair T P c.args.at a b first second)
