use Rattle.std.proofs.Common.{length, ap, ◌∙◌, subst, slice_index, arith}
use Rattle.rapid_text.specs.Recording.{Recording}
use Rattle.shb_clocks.specs.SharedRows.{count_of}
use Rattle.must_order.specs.Telling.{TellsMust}
use Rattle.race_groups.proofs.OrderCutLemmas.{IsCutOf-known, IsCutOf-forced, thread_named}
use Rattle.race_groups.specs.least_pairs.Going.{IsTurn}
use Rattle.race_groups.proofs.least_pairs.EndLemmas.{AreLeasts-from}
use Rattle.race_groups.proofs.least_pairs.leasts.leasts_of.Goals as goal

pub found-requires : goal.found-requires
found-requires c =
    let r = c.args.indexed.now in
    let rules = c.len-len.ensures.disciplined in
    let rows = c.rows.result.now in
    let wide = c.rows.ensures.width ∙ ap (λ (m : Recording). length m.threads) c.requires.must in
    let tells = subst (λ (m : Recording). TellsMust m.events (length m.threads) (count_of rows)) c.requires.must c.rows.ensures.tells in record {
      sound = record {
        formed = c.len-len.ensures.well_formed;
        rules = rules;
        clocks = c.requires.clocks;
        places = c.requires.places;
        groups = c.requires.groups;
        known = IsCutOf-known r.events rules (c.known_tells_shb.ensures r.events rules);
        forced = IsCutOf-forced r.events rules rows (length r.threads) wide (thread_named r c.len-len.ensures.well_formed) tells;
        width = wide;
        len = c.rows.ensures.len ∙ ap (λ (m : Recording). length m.events) c.requires.must;
        some = c.requires.most;
        turns = omega arith;
        no_candidate = c.has_candidates.ensures;
        no_open = c.has_open.ensures;
      };
    }

pub returns-clause-leasts : goal.returns-clause-leasts
returns-clause-leasts c = λ at row l is found.
    AreLeasts-from c.args.indexed.now c.len-len.ensures.well_formed (slice_index c.args.places.now) c.args.groups.now.rows.items c.requires.groups.rows_are c.requires.groups.once
    c.args.most (IsTurn 1 0) (λ y. omega arith) c.in_ok-leasts.leasts.items c.in_ok-leasts.ensures.so_far c.in_ok-leasts.ensures.held at row l is found
