use Rattle.std.proofs.Common.{arith, ◌<◌, ◌≤◌, length, ◌∙◌}
use Rattle.std.proofs.lemmas.Option.{slice_get_within}
use Rattle.shb_clocks.proofs.ListedLemmas.{AreListed-room, AreFirstCandidates-full, AreFirstCandidates-all, AreFirstBelow-none}
use Rattle.shb_clocks.proofs.AheadLemmas.{IsWithoutPartner-left}
use Rattle.shb_clocks.proofs.candidates.first_candidates.Goals as goal
use Rattle.shb_clocks.proofs.candidates.first_candidates.Goals.{in-Some+in_ok-seek+in_ok-list, in_default}

pub returns-then-items-limit : goal.returns-then-items-limit
returns-then-items-limit c =
    let full : c.args.limit ≤ length c.loop-first.pairs = rw (← c.items.ensures) c.if-items-limit.true in
    AreFirstCandidates-full c.args.indexed.now.events c.loop-first.first c.args.limit c.loop-first.pairs c.loop-first.invariant.listed full

pub list-requires-clause-listed : goal.list-requires-clause-listed
list-requires-clause-listed c =
    let room : length c.loop-first.pairs < c.args.limit = rw (← c.items.ensures) c.if-items-limit.false in
    AreListed-room c.args.indexed.now.events c.loop-first.first c.args.limit c.loop-first.pairs c.loop-first.invariant.listed room

pub loop-first-preserved : goal.loop-first-preserved
loop-first-preserved c =
    let i = c.loop-first.invariant in
    let room : length c.loop-first.pairs < c.args.limit = rw (← c.items.ensures) c.if-items-limit.false in
    record {
      accesses = c.pass.ensures.chains;
      of_accesses = c.pass.ensures.writes ∙ i.of_accesses;
      writes = c.pass-in-loop-first.ensures.chains;
      of_writes = c.pass-in-loop-first.ensures.writes ∙ i.of_writes;
      listed =
          elim c.match-found.branch [
            | in-Some+in_ok-seek+in_ok-list w ↦ rw w.pairs-is w.in_ok-list.ensures
            | in_default w ↦
                let none =
                IsWithoutPartner-left c.args.indexed.now.events c.in_ok-marks.marks.items c.loop-first.first _ c.event-op.result c.in_ok-marks.ensures (slice_get_within c.args.indexed.now.events c.loop-first.first c.event-op.result c.event-op.ensures.found) c.index.ensures c.event-op.ensures.found (c.sought-found.ensures.none w.in_default.is) in
                rw w.pairs-is (AreFirstBelow-none c.args.indexed.now.events c.loop-first.first c.args.limit c.loop-first.pairs i.listed room none)
          ];
    }

pub returns : goal.returns
returns c =
    AreFirstCandidates-all c.args.indexed.now.events c.loop-first.first c.args.limit c.loop-first.pairs c.loop-first.invariant.listed (omega (arith, c.len-first-end.ensures.len))
