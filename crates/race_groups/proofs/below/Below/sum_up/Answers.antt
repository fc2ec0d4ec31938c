use Rattle.std.proofs.Common.{List, ℕ, length, ap, ◌∙◌, arith}
use Rattle.event_index.specs.Lookups.{count_before, events_of}
use Rattle.race_groups.specs.Counting.{below_sum}
use Rattle.race_groups.specs.Ends.{counted_before, known_before}
use Rattle.race_groups.proofs.BasisLemmas.{blank_len, blank_same}
use Rattle.race_groups.proofs.below.Below.sum_up.Goals as goal

pub sum_below-requires-clause-blank : goal.sum_below-requires-clause-blank
sum_below-requires-clause-blank c = blank_same (length c.args.basis.indexed.now.threads) (length c.args.basis.classes.now.infos.items) c.args.self.now.earlier c.requires.blank.earlier

pub sum_below-requires-2-clause-blank : goal.sum_below-requires-2-clause-blank
sum_below-requires-2-clause-blank c = blank_same (length c.args.basis.indexed.now.threads) (length c.args.basis.classes.now.infos.items) c.args.self.now.known c.requires.blank.known

pub sum_below-requires-3-clause-blank : goal.sum_below-requires-3-clause-blank
sum_below-requires-3-clause-blank c = blank_same (length c.args.basis.indexed.now.threads) (length c.args.basis.classes.now.infos.items) c.args.self.now.forced c.requires.blank.forced

pub sum_below-requires-clause-cut : goal.sum_below-requires-clause-cut
sum_below-requires-clause-cut c = c.requires.basis.cuts.earlier

pub sum_below-requires-2-clause-cut : goal.sum_below-requires-2-clause-cut
sum_below-requires-2-clause-cut c = c.requires.basis.cuts.known

pub sum_below-requires-3-clause-cut : goal.sum_below-requires-3-clause-cut
sum_below-requires-3-clause-cut c = c.requires.basis.cuts.forced

pub returns : goal.returns
returns c =
    let T = c.args.basis.indexed.now.events in
    let threads = length c.args.basis.indexed.now.threads in
    let n = length c.args.basis.classes.now.infos.items in
    let sums = λ (end : ℕ → ℕ → ℕ) (k : ℕ). ap (λ (ns : List ℕ). below_sum T threads ns c.args.thread end c.args.class k (events_of T c.args.thread)) c.as_slice-numbers.ensures.value in
    let one = c.sum_below.ensures.len ∙ blank_len threads n c.args.self.now.earlier c.requires.blank.earlier in
    let two = c.sum_below-2.ensures.len ∙ blank_len threads n c.args.self.now.known c.requires.blank.known in
    let three = c.sum_below-3.ensures.len ∙ blank_len threads n c.args.self.now.forced c.requires.blank.forced in
    record {
      earlier = record { len = one; counted = λ k lt. c.sum_below.ensures.counted k (omega (arith, lt, one)) ∙ sums (count_before T) k };
      known = record { len = two; counted = λ k lt. c.sum_below-2.ensures.counted k (omega (arith, lt, two)) ∙ sums (known_before T) k };
      forced = record { len = three; counted = λ k lt. c.sum_below-3.ensures.counted k (omega (arith, lt, three)) ∙ sums (counted_before c.args.basis.forced.now T) k };
    }
