use Rattle.std.proofs.Common.{◌<◌, length, ap, subst, ◌∙◌}
use Rattle.rapid_text.specs.Recording.{Recording}
use Rattle.event_index.specs.Lookups.{count_before}
use Rattle.shb_clocks.specs.SharedRows.{count_of}
use Rattle.must_order.specs.MustBefore.{IsForced}
use Rattle.must_order.specs.Telling.{TellsMust}
use Rattle.race_groups.specs.Ends.{IsKnownBefore, known_before, counted_before}
use Rattle.race_groups.proofs.CutLemmas.{IsCut-from}
use Rattle.race_groups.proofs.EarlierLemmas.{IsCutOf-earlier}
use Rattle.race_groups.proofs.MonotoneLemmas.{forced-le-known}
use Rattle.race_groups.proofs.OrderCutLemmas.{IsCutOf-known, IsCutOf-forced, thread_named}
use Rattle.race_groups.proofs.basis.Basis.of.Goals as goal

pub returns-clause-basis : goal.returns-clause-basis
returns-clause-basis c =
    let r = c.args.indexed.now in
    let T = r.events in
    let formed = c.len-len.ensures.well_formed in
    let rules = c.len-len.ensures.disciplined in
    let rows = c.rows-forced.result.now in
    let wide = c.rows-forced.ensures.width ∙ ap (λ (m : Recording). length m.threads) c.requires.must in
    let tells = subst (λ (m : Recording). TellsMust m.events (length m.threads) (count_of rows)) c.requires.must c.rows-forced.ensures.tells in
    let known = IsCutOf-known T rules (c.known_tells_shb.ensures T rules) in
    let forced = IsCutOf-forced T rules rows (length r.threads) wide (thread_named r formed) tells in
    record {
      clocks = c.requires.clocks;
      width = wide;
      len = c.rows-forced.ensures.len ∙ ap (λ (m : Recording). length m.events) c.requires.must;
      formed = formed;
      cuts = record {
        earlier = IsCut-from T (λ a b. a < b) (count_before T) (IsCutOf-earlier T);
        known = IsCut-from T (IsKnownBefore T) (known_before T) known;
        forced = IsCut-from T (IsForced T) (counted_before rows T) forced;
        nested = forced-le-known T rules (counted_before rows T) forced known;
      };
      known = known;
      must = forced;
      numbers = c.requires.classes.len;
      classes = c.requires.classes.within;
      few = c.requires.few;
      members = c.requires.members;
      turns = c.requires.every;
      conflicts = c.requires.conflicts;
    }
