use Rattle.std.proofs.Common.{List, ℕ, length, ◌+◌, ◌∙◌, subst, sym}
use Rattle.race_groups.specs.Counting.{IsPassed}
use Rattle.race_groups.specs.Ends.{counted_before, known_before}
use Rattle.race_groups.proofs.StateLemmas.{IsFront-skipped}
use Rattle.race_groups.proofs.fronts.Fronts.pass.Goals as goal

pub pass-requires-clause-passed : goal.pass-requires-clause-passed
pass-requires-clause-passed c =
    subst (λ (ks : List ℕ). IsPassed c.args.basis.indexed.now.events ks c.args.thread c.args.at c.args.self.now.earlier) (sym c.as_slice-numbers.ensures.value) c.requires.fronts.earlier

pub returns : goal.returns
returns c =
    let T = c.args.basis.indexed.now.events in
    let threads = length c.args.basis.indexed.now.threads in
    let n = length c.args.basis.classes.now.infos.items in
    let classes = c.args.basis.classes.now.numbers.items in
    let u = c.args.thread in
    let at = c.args.at in
    let self = c.args.self.now in
    record {
      fronts = record {
        len = c.pass.ensures.len ∙ c.requires.fronts.len;
        earlier = subst (λ (ks : List ℕ). IsPassed T ks u (at + 1) c.pass.new.self) c.as_slice-numbers.ensures.value c.pass.ensures.passed;
        known = IsFront-skipped T threads n classes u (known_before T) at self.known.fronts.items self.known.counts.items c.requires.fronts.known;
        forced = IsFront-skipped T threads n classes u (counted_before c.args.basis.forced.now T) at self.forced.fronts.items self.forced.counts.items c.requires.fronts.forced;
      };
    }
