use Rattle.std.proofs.Common.{List, ℕ, ◌+◌, ◌<◌, length, slice_index, ap, subst, sym, ◌∙◌, arith}
use Rattle.std.proofs.lemmas.List.Elements.{All-get_or}
use Rattle.race_groups.specs.Counting.{AreCounts, AreFronts, IsPassed}
use Rattle.race_groups.specs.Ends.{known_before, counted_before}
use Rattle.race_groups.proofs.StateLemmas.{IsFront-moved}
use Rattle.race_groups.proofs.fronts.Fronts.advance.Goals as goal

pub advance-requires-2-clause-within : goal.advance-requires-2-clause-within
advance-requires-2-clause-within c = λ t lt.
    let given = c.thread_events.result.now in
    let inside : c.args.at < length given = omega (arith, c.requires.at, ap length c.thread_events.ensures.events) in
    let cut = c.requires.basis.cuts.forced in
    cut.within (slice_index given c.args.at) t (All-get_or (λ k. k < length c.args.basis.indexed.now.events) given c.args.at 0 inside c.thread_events.ensures.within)

pub pass-requires-clause-passed : goal.pass-requires-clause-passed
pass-requires-clause-passed c =
    subst (λ (ks : List ℕ). IsPassed c.args.basis.indexed.now.events ks c.args.thread c.args.at c.args.self.now.earlier) (sym c.as_slice-numbers.ensures.value) c.requires.fronts.earlier

pub returns-clause-fronts : goal.returns-clause-fronts
returns-clause-fronts c =
    let T = c.args.basis.indexed.now.events in
    let threads = length c.args.basis.indexed.now.threads in
    let n = length c.args.basis.classes.now.infos.items in
    let classes = c.args.basis.classes.now.numbers.items in
    let here = ap (λ xs. slice_index xs c.args.at) c.thread_events.ensures.events in
    let u = c.args.thread in
    let at = c.args.at in
    let same = c.as_slice-numbers.ensures.value in
    let known = c.advance.new.self in
    let forced = c.advance-2.new.self in
    let rows = c.args.basis.forced.now in
    record {
      len = c.pass.ensures.len ∙ c.requires.fronts.len;
      earlier = subst (λ (ks : List ℕ). IsPassed T ks u (at + 1) c.pass.new.self) same c.pass.ensures.passed;
      known = IsFront-moved T threads n classes u (known_before T) c.requires.basis.cuts.known at known.fronts.items known.counts.items c.requires.at
          (c.advance.ensures.len ∙ c.requires.fronts.known.len) (subst (λ ks. AreCounts T threads ks known.fronts.items known.counts.items) same c.advance.ensures.counts)
          (subst (λ e. AreFronts threads u (known_before T e) known.fronts.items) here c.advance.ensures.fronts);
      forced = IsFront-moved T threads n classes u (counted_before rows T) c.requires.basis.cuts.forced at forced.fronts.items forced.counts.items c.requires.at
          (c.advance-2.ensures.len ∙ c.requires.fronts.forced.len) (subst (λ ks. AreCounts T threads ks forced.fronts.items forced.counts.items) same c.advance-2.ensures.counts)
          (subst (λ e. AreFronts threads u (counted_before rows T e) forced.fronts.items) here c.advance-2.ensures.fronts);
    }

pub returns-clause-moved : goal.returns-clause-moved
returns-clause-moved c =
    let T = c.args.basis.indexed.now.events in
    let threads = length c.args.basis.indexed.now.threads in
    let here = ap (λ xs. slice_index xs c.args.at) c.thread_events.ensures.events in
    let u = c.args.thread in
    let rows = c.args.basis.forced.now in
    record {
      earlier = c.pass.ensures.upto;
      known = subst (λ e. AreFronts threads u (known_before T e) c.advance.new.self.fronts.items) here c.advance.ensures.fronts;
      forced = subst (λ e. AreFronts threads u (counted_before rows T e) c.advance-2.new.self.fronts.items) here c.advance-2.ensures.fronts;
    }
