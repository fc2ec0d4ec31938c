use Rattle.std.proofs.Common.{List, ℕ, length, slice_index, take, sym, subst, arith}
use Rattle.std.proofs.lemmas.List.{take_more}
use Rattle.race_groups.specs.least_pairs.Pairs.{is_access_at}
use Rattle.race_groups.specs.least_pairs.Uses.{AreUses}
use Rattle.race_groups.proofs.least_pairs.UseLemmas.{kept_passes, kept_rises}
use Rattle.race_groups.proofs.least_pairs.firsts.Places.uses_of.Goals as goal

pub note_event-requires-clause-access : goal.note_event-requires-clause-access
note_event-requires-clause-access c =
    let T = c.args.self.now.indexed.now.events in
    kept_passes (is_access_at T c.args.variable) (length T) c.args.accesses.now c.requires.accesses c.loop-event.event-index c.loop-event-test.true

pub loop-event-preserved : goal.loop-event-preserved
loop-event-preserved c =
    let s = c.args.self.now in
    let T = s.indexed.now.events in
    let x = c.args.variable in
    let es = c.args.accesses.now in
    let i = c.loop-event.event-index in
    let had = c.loop-event.invariant in
    record {
      uses = subst (λ (xs : List ℕ). AreUses T (slice_index s.places.now) x xs c.note_event.new.uses.items) (sym (take_more es i 0 c.loop-event-test.true))
          (c.in_ok-note_event.ensures.uses (take i es) had.uses);
      behind = λ k from low.
          let rises = kept_rises (is_access_at T x) (length T) es c.requires.accesses i k (omega (arith, from)) low in
          c.in_ok-note_event.ensures.behind (slice_index es k) (omega (arith, rises)) (had.behind k (omega (arith, from)) low);
    }
