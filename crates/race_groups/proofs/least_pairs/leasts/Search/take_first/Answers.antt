use Rattle.std.proofs.Common.{◌≡◌, ◌≤◌, ◌-◌, ◌∙◌, ℕ, Contains, Some, length, slice_index, refl, sym, arith}
use Rattle.std.proofs.lemmas.Option.{same_Some}
use Rattle.race_groups.proofs.least_pairs.LaneFacts.{at_place, read_is}
use Rattle.race_groups.proofs.least_pairs.SoughtLemmas.{bunch_rises, first_holds, first_inside, first_of, no_earlier, no_later}
use Rattle.race_groups.proofs.least_pairs.leasts.Search.take_first.Goals as goal

pub first-requires : goal.first-requires
first-requires c = record {
  rising =
      bunch_rises c.args.sought c.args.self.now c.requires.sound c.args.window c.requires.window c.requires.some c.args.bunch.now c.requires.bunch
      (at_place c.args.window.lane.now c.args.window.from) (at_place c.args.window.lane.now (c.args.window.end - 1)) 0 refl refl;
}

pub returns-in_default-clause-held : goal.returns-in_default-clause-held
returns-in_default-clause-held c = λ k from to there.
    let w = c.args.window in
    let low_is = read_is w.lane.now.events.items w.from c.index.result.now (omega (arith, c.requires.some, c.requires.window.within)) c.index.ensures in
    let le = no_earlier c.args.sought c.args.self.now c.requires.sound w c.requires.window c.requires.some c.args.bunch.now c.requires.bunch
    c.index.result.now (at_place w.lane.now (w.end - 1)) 0 low_is refl k from to in
    let found = c.first.ensures.least (at_place w.lane.now k) there le in
    absurd (c.in_default.not-Some found.0 found.1)

pub returns-then-first-index-clause-held : goal.returns-then-first-index-clause-held
returns-then-first-index-clause-held c = λ k from to there.
    let w = c.args.window in
    let low_is = read_is w.lane.now.events.items w.from c.index.result.now (omega (arith, c.requires.some, c.requires.window.within)) c.index.ensures in
    let high_is = read_is w.lane.now.events.items (w.end - 1) c.index-2.result.now (omega (arith, c.requires.some, c.requires.window.within)) c.index-2.ensures in
    let le = no_earlier c.args.sought c.args.self.now c.requires.sound w c.requires.window c.requires.some c.args.bunch.now c.requires.bunch
    c.index.result.now c.index-2.result.now 0 low_is high_is k from to in
    let le' = no_later c.args.sought c.args.self.now c.requires.sound w c.requires.window c.requires.some c.args.bunch.now c.requires.bunch
    c.index.result.now c.index-2.result.now 0 low_is high_is k from to in
    let found = c.first.ensures.least (at_place w.lane.now k) there le in
    let same : found.0 ≡ c.in-Some.first = same_Some found.0 c.in-Some.first (sym found.1 ∙ c.in-Some.is) in
    absurd (omega (arith, same, found.2, le', c.if-first-index.true))

pub take_pair-requires-clause-pair : goal.take_pair-requires-clause-pair
take_pair-requires-clause-pair c =
    let w = c.args.window in
    let low_is = read_is w.lane.now.events.items w.from c.index.result.now (omega (arith, c.requires.some, c.requires.window.within)) c.index.ensures in
    let high_is = read_is w.lane.now.events.items (w.end - 1) c.index-2.result.now (omega (arith, c.requires.some, c.requires.window.within)) c.index-2.ensures in
    (first_inside c.args.sought c.args.self.now c.requires.sound w c.requires.window c.requires.some c.args.bunch.now c.requires.bunch
    c.index.result.now c.index-2.result.now c.in-Some.first low_is high_is c.in-Some.ensures.some.0 c.in-Some.ensures.some.1 (omega (arith, c.if-first-index.false))).0

pub take_pair-requires-clause-of_these : goal.take_pair-requires-clause-of_these
take_pair-requires-clause-of_these c =
    let w = c.args.window in
    let low_is = read_is w.lane.now.events.items w.from c.index.result.now (omega (arith, c.requires.some, c.requires.window.within)) c.index.ensures in
    let high_is = read_is w.lane.now.events.items (w.end - 1) c.index-2.result.now (omega (arith, c.requires.some, c.requires.window.within)) c.index-2.ensures in
    first_of c.args.sought c.args.self.now c.requires.sound w c.requires.window c.requires.some c.args.bunch.now c.requires.bunch
    c.index.result.now c.index-2.result.now c.in-Some.first low_is high_is c.in-Some.ensures.some.0 c.in-Some.ensures.some.1 (omega (arith, c.if-first-index.false))

pub take_pair-requires-clause-sought : goal.take_pair-requires-clause-sought
take_pair-requires-clause-sought c =
    let w = c.args.window in
    let low_is = read_is w.lane.now.events.items w.from c.index.result.now (omega (arith, c.requires.some, c.requires.window.within)) c.index.ensures in
    let high_is = read_is w.lane.now.events.items (w.end - 1) c.index-2.result.now (omega (arith, c.requires.some, c.requires.window.within)) c.index-2.ensures in
    (first_inside c.args.sought c.args.self.now c.requires.sound w c.requires.window c.requires.some c.args.bunch.now c.requires.bunch
    c.index.result.now c.index-2.result.now c.in-Some.first low_is high_is c.in-Some.ensures.some.0 c.in-Some.ensures.some.1 (omega (arith, c.if-first-index.false))).1

pub returns-clause-held : goal.returns-clause-held
returns-clause-held c = λ k from to there.
    let w = c.args.window in
    let s = c.args.self.now in
    let low_is = read_is w.lane.now.events.items w.from c.index.result.now (omega (arith, c.requires.some, c.requires.window.within)) c.index.ensures in
    let high_is = read_is w.lane.now.events.items (w.end - 1) c.index-2.result.now (omega (arith, c.requires.some, c.requires.window.within)) c.index-2.ensures in
    let le = no_earlier c.args.sought s c.requires.sound w c.requires.window c.requires.some c.args.bunch.now c.requires.bunch
    c.index.result.now c.index-2.result.now 0 low_is high_is k from to in
    let found = c.first.ensures.least (at_place w.lane.now k) there le in
    let same : found.0 ≡ c.in-Some.first = same_Some found.0 c.in-Some.first (sym found.1 ∙ c.in-Some.is) in
    first_holds c.args.sought s c.requires.sound w c.requires.window c.requires.some c.args.bunch.now c.requires.bunch
    c.index.result.now c.index-2.result.now c.in-Some.first low_is high_is c.in-Some.ensures.some.0 c.in-Some.ensures.some.1 (omega (arith, c.if-first-index.false))
    c.take_pair.new.leasts c.in_ok-take_pair.ensures.held k from to there (omega (arith, same, found.2))
