use Rattle.std.proofs.Common.{length, slice_index, ap, ◌∙◌}
use Rattle.std.proofs.lemmas.List.{length-replicate}
use Rattle.race_groups.specs.Ends.{counted_before, known_before}
use Rattle.race_groups.proofs.LoopLemmas.{zeros}
use Rattle.race_groups.proofs.PassedLemmas.{IsPassed-begin}
use Rattle.race_groups.proofs.StateLemmas.{IsFront-begin}
use Rattle.race_groups.proofs.fronts.Fronts.new.Goals as goal

pub returns : goal.returns
returns c = λ thread.
    let T = c.args.basis.indexed.now.events in
    let threads = length c.args.basis.indexed.now.threads in
    let n = length c.args.basis.classes.now.infos.items in
    let classes = c.args.basis.classes.now.numbers.items in
    let wide = c.threads-threads.ensures.len in
    let few = ap length c.as_slice-size.ensures.value in
    let none = c.in_ok-new.ensures.counts in
    record {
      len = ap length none ∙ length-replicate _ 0 ∙ few;
      earlier = IsPassed-begin T classes thread _ c.in_ok-new.ensures.upto (λ k. ap (λ xs. slice_index xs k) none ∙ zeros _ k);
      known = IsFront-begin T threads n classes thread (known_before T) _ _ _ _ c.in_ok-new-2.ensures.fronts c.in_ok-new-2.ensures.counts wide few;
      forced = IsFront-begin T threads n classes thread (counted_before c.args.basis.forced.now T) _ _ _ _ c.in_ok-new-3.ensures.fronts c.in_ok-new-3.ensures.counts wide few;
    }
