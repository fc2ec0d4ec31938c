use Rattle.std.proofs.Common.{length, replicate, ap, ◌∙◌}
use Rattle.race_groups.proofs.below.Below.new.Goals as goal

pub returns : goal.returns
returns c =
    let wide = ap (λ m. replicate m 0) c.threads-threads.ensures.len in
    let few = ap (λ m. replicate m 0) (ap length c.as_slice-size.ensures.value) in
    record {
      earlier = record { fronts = c.in_ok-new.ensures.fronts ∙ wide; counts = c.in_ok-new.ensures.counts ∙ few };
      known = record { fronts = c.in_ok-new-2.ensures.fronts ∙ wide; counts = c.in_ok-new-2.ensures.counts ∙ few };
      forced = record { fronts = c.in_ok-new-3.ensures.fronts ∙ wide; counts = c.in_ok-new-3.ensures.counts ∙ few };
    }
