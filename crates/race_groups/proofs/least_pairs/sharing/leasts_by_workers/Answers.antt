use Rattle.std.proofs.Common.{ℕ, ◌<◌, length, ap, ◌∙◌, subst, slice_index, arith}
use Rattle.std.proofs.Math.Nat.{mod-lt}
use Rattle.rapid_text.specs.Recording.{Recording}
use Rattle.shb_clocks.specs.SharedRows.{count_of}
use Rattle.must_order.specs.Telling.{TellsMust}
use Rattle.race_groups.proofs.OrderCutLemmas.{IsCutOf-known, IsCutOf-forced, thread_named}
use Rattle.race_groups.specs.least_pairs.Going.{IsTurn}
use Rattle.race_groups.specs.least_pairs.Joining.{IsBelow}
use Rattle.race_groups.proofs.least_pairs.EndLemmas.{AreLeasts-from}
use Rattle.race_groups.proofs.least_pairs.sharing.leasts_by_workers.Goals as goal

pub found-requires : goal.found-requires
found-requires g c =
    let r = c.args.counted.indexed.now in
    let rules = c.len-len.ensures.disciplined in
    let rows = c.rows.result.now in
    let wide = c.rows.ensures.width ∙ ap (λ (m : Recording). length m.threads) c.requires.must in
    let tells = subst (λ (m : Recording). TellsMust m.events (length m.threads) (count_of rows)) c.requires.must c.rows.ensures.tells in record {
      sound = record {
        formed = c.len-len.ensures.well_formed;
        rules = rules;
        clocks = c.requires.clocks;
        places = c.requires.places;
        groups = c.requires.groups;
        known = IsCutOf-known r.events rules (c.known_tells_shb.ensures r.events rules);
        forced = IsCutOf-forced r.events rules rows (length r.threads) wide (thread_named r c.len-len.ensures.well_formed) tells;
        width = wide;
        len = c.rows.ensures.len ∙ ap (λ (m : Recording). length m.events) c.requires.must;
        some = c.requires.most;
        turns = omega arith;
        no_candidate = c.has_candidates.ensures;
        no_open = c.has_open.ensures;
      };
    }

pub by_workers-requires-clause-sound : goal.by_workers-requires-clause-sound
by_workers-requires-clause-sound g c κs within =
    let r = c.args.counted.indexed.now in
    let rules = c.len-len.ensures.disciplined in
    let rows = c.rows.result.now in
    let wide = c.rows.ensures.width ∙ ap (λ (m : Recording). length m.threads) c.requires.must in
    let tells = subst (λ (m : Recording). TellsMust m.events (length m.threads) (count_of rows)) c.requires.must c.rows.ensures.tells in
    record {
      formed = c.len-len.ensures.well_formed;
      rules = rules;
      clocks = c.requires.clocks;
      places = c.requires.places;
      groups = c.requires.groups;
      known = IsCutOf-known r.events rules (c.known_tells_shb.ensures r.events rules);
      forced = IsCutOf-forced r.events rules rows (length r.threads) wide (thread_named r c.len-len.ensures.well_formed) tells;
      width = wide;
      len = c.rows.ensures.len ∙ ap (λ (m : Recording). length m.events) c.requires.must;
      some = c.requires.most;
      turns = omega arith;
      no_candidate = c.has_candidates.ensures;
      no_open = c.has_open.ensures;
    }

pub returns-then-every-lt2-clause-leasts : goal.returns-then-every-lt2-clause-leasts
returns-then-every-lt2-clause-leasts g c = λ at row l is found.
    let t = c.args.counted in
    AreLeasts-from t.indexed.now c.len-len.ensures.well_formed (slice_index t.places.now) t.groups.now.rows.items c.requires.groups.rows_are c.requires.groups.once
    t.most (IsTurn 1 0) (λ y. omega arith) c.in_ok-leasts.leasts.items c.in_ok-leasts.ensures.so_far c.in_ok-leasts.ensures.held at row l is found

pub returns-clause-leasts : goal.returns-clause-leasts
returns-clause-leasts g c = λ at row l is found.
    let t = c.args.counted in
    let every : ℕ = c.min-every.result in
    let some : 0 < every = omega (arith, c.if-every-lt2.false) in
    AreLeasts-from t.indexed.now c.len-len.ensures.well_formed (slice_index t.places.now) t.groups.now.rows.items c.requires.groups.rows_are c.requires.groups.once
    t.most (IsBelow every every) (λ y. mod-lt y some) c.in_ok-leasts-2.leasts.items c.in_ok-leasts-2.ensures.so_far c.in_ok-leasts-2.ensures.held at row l is found
