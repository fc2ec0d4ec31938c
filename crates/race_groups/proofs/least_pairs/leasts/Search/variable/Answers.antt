use Rattle.std.proofs.Common.{◌≡◌, ◌+◌, ◌<◌, ℕ, List, length, slice_get, slice_index, get_or, sym, ap, ◌∙◌, subst, arith, inl, inr}
use Rattle.std.proofs.lemmas.Bool.{cases_eq}
use Rattle.std.proofs.lemmas.List.{get_or_past, get_or_default}
use Rattle.std.proofs.lemmas.Option.{slice_get_within}
use Rattle.race_groups.specs.least_pairs.Going.{AreFound, AreMore, AreTakenBefore}
use Rattle.race_groups.specs.least_pairs.Lanes.{IsInLanes}
use Rattle.race_groups.specs.least_pairs.Noted.{AreTrueNotes}
use Rattle.race_groups.proofs.least_pairs.AccessLemmas.{access_before, accesses_pass, accesses_rise, accesses_within}
use Rattle.race_groups.proofs.least_pairs.HeldLemmas.{AreMore-same, AreMore-chain}
use Rattle.race_groups.proofs.least_pairs.LaneLemmas.{IsBegun-later}
use Rattle.race_groups.proofs.least_pairs.TakenLemmas.{access_both, taken_on}
use Rattle.race_groups.proofs.least_pairs.leasts.Search.variable.Goals as goal

pub loop-event-init : goal.loop-event-init
loop-event-init c =
    let s = c.args.self.now in
    let T = s.indexed.now.events in
    record {
      begun = λ k l is. (let len = ap length c.new-lanes.ensures in let lt = slice_get_within c.new-lanes.result.list.items k l is in absurd (omega (arith, len, lt)));
      whole = λ i lt. absurd (omega arith);
      found = c.requires.found;
      more = AreMore-same s.most c.args.variable c.args.leasts.now;
      noted = c.requires.noted;
      taken = λ a b pair access lt.
          let at = access_before T c.args.variable c.args.accesses.now c.requires.accesses 0 b (access_both T c.args.variable a b pair access) lt in
          absurd (omega (arith, at.1));
    }

pub note-requires-clause-event : goal.note-requires-clause-event
note-requires-clause-event c =
    accesses_within c.args.self.now.indexed.now.events c.args.variable c.args.accesses.now c.requires.accesses c.loop-event.event-index c.loop-event-test.true

pub note-requires-clause-access : goal.note-requires-clause-access
note-requires-clause-access c =
    accesses_pass c.args.self.now.indexed.now.events c.args.variable c.args.accesses.now c.requires.accesses c.loop-event.event-index c.loop-event-test.true

pub access-requires-clause-before : goal.access-requires-clause-before
access-requires-clause-before c =
    let s = c.args.self.now in
    let later = c.in_ok-later.later in
    let xs = c.args.accesses.now in
    let n = c.loop-event.event-index in
    let here = get_or_default xs n (length s.indexed.now.events) 0 c.loop-event-test.true in
    subst (λ (y : ℕ). AreTakenBefore s y c.loop-event.leasts later.event) (sym c.in_ok-later.ensures.variable)
    (subst (AreTakenBefore s c.args.variable c.loop-event.leasts) (here ∙ sym c.in_ok-later.ensures.event) c.loop-event.invariant.taken)

pub loop-event-preserved : goal.loop-event-preserved
loop-event-preserved c =
    let s = c.args.self.now in
    let T = s.indexed.now.events in
    let x = c.args.variable in
    let xs = c.args.accesses.now in
    let n = c.loop-event.event-index in
    let later = c.in_ok-later.later in
    let noted = c.in_ok-later.ensures in
    let done = c.in_ok-access.ensures in
    let old = c.loop-event.leasts in
    let new = c.access.new.leasts in
    let lanes = c.note.new.self.list.items in
    let is = c.loop-event.invariant in
    let more : AreMore s.most x old new = subst (λ (y : ℕ). AreMore s.most y old new) noted.variable done.more in
    record {
      begun = λ k l at.
          IsBegun-later T s.classes.now.numbers.items x (slice_index xs n + 1) _ l (accesses_rise T x xs c.requires.accesses n c.loop-event-test.true) (noted.lanes k l at);
      whole = λ i lt. elim (cases_eq i n) [
        | inl same ↦ subst (λ (j : ℕ). IsInLanes lanes (slice_index xs j)) (sym same) noted.noted
        | inr apart ↦ noted.kept (slice_index xs i) (is.whole i (omega arith))
      ];
      found = subst (λ (y : ℕ). AreFound s y new) noted.variable done.found;
      more = AreMore-chain s.most x c.args.leasts.now old new is.more more;
      noted = subst (λ (y : ℕ). AreTrueNotes s y new c.access.new.noted) noted.variable done.noted;
      taken =
          taken_on s x xs c.requires.accesses n c.loop-event-test.true old new more lanes later noted.event noted.variable
          (λ i lt. noted.kept (slice_index xs i) (is.whole i lt)) (λ i l at. done.taken i l (ap (λ ls. slice_get ls i) c.as_slice.ensures.value ∙ at)) is.taken;
    }

pub returns-clause-taken : goal.returns-clause-taken
returns-clause-taken c = λ a b pair access.
    let past = get_or_past c.args.accesses.now c.loop-event.event-index (length c.args.self.now.indexed.now.events) (omega (arith, c.loop-event-test.false)) in
    let within = pair.within in
    c.loop-event.invariant.taken a b pair access (omega (arith, past, within))
