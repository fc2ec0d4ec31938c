use Rattle.std.proofs.Common.{cond, refl}
use Rattle.race_triage.specs.Chosen.{is_of}
use Rattle.race_triage.specs.Texts.{all_in}
use Rattle.race_triage.specs.declared.chosen.Part.TheVariants.{Races, Open, Never}
use Rattle.race_triage.proofs.TotalLemmas.{one_longer, one_more}
use Rattle.race_triage.proofs.totals.Totals.add.Goals as goal

pub returns : goal.returns
returns c = λ r vs are.
    let v = c.args.verdict.now in
    let counts = v.row.counts in
    record {
      events = are.events;
      threads = are.threads;
      pairs = one_more (λ v. all_in v.row.counts) vs v _ _ c.all_of.result are.pairs c.all_of.ensures c.saturating_add-self-5.ensures;
      candidates = one_more (λ v. v.row.counts.candidates) vs v _ _ counts.candidates are.candidates refl c.saturating_add-self.ensures;
      open_pairs = one_more (λ v. v.row.counts.open_pairs) vs v _ _ counts.open_pairs are.open_pairs refl c.saturating_add-self-2.ensures;
      guarded = one_more (λ v. v.row.counts.guarded) vs v _ _ counts.guarded are.guarded refl c.saturating_add-self-3.ensures;
      forced = one_more (λ v. v.row.counts.forced) vs v _ _ counts.forced are.forced refl c.saturating_add-self-4.ensures;
      places = one_longer vs v _ _ are.places c.saturating_add-self-6.ensures;
      races = one_more (λ v. cond (is_of Races v) 1 0) vs v _ _ c.one_if.result are.races c.one_if.ensures c.saturating_add-self-7.ensures;
      undecided = one_more (λ v. cond (is_of Open v) 1 0) vs v _ _ c.one_if-2.result are.undecided c.one_if-2.ensures c.saturating_add-self-8.ensures;
      apart = one_more (λ v. cond (is_of Never v) 1 0) vs v _ _ c.one_if-3.result are.apart c.one_if-3.ensures c.saturating_add-self-9.ensures;
    }
