use Rattle.std.proofs.Common.{◌∙◌, sym, arith}
use Rattle.race_groups.proofs.least_pairs.LaneFacts.{at_place}
use Rattle.race_groups.proofs.least_pairs.SoughtLemmas.{fresh_held, none_sought}
use Rattle.race_groups.proofs.least_pairs.leasts.Search.take.Goals as goal
use Rattle.race_groups.proofs.least_pairs.leasts.Search.take.Goals.{then-not-has-via-then-not-has, then-not-has-via-else-not-has+then-window}

pub returns-then-not-has-clause-held : goal.returns-then-not-has-clause-held
returns-then-not-has-clause-held c = λ k low high kind. elim c.then-not-has.branch [
  | then-not-has-via-then-not-has w ↦
      absurd (none_sought c.args.sought c.args.self.now c.requires.sound (at_place c.args.window.lane.now k) c.args.window.later.event
      (c.requires.window.inside k low high).0 (sym c.has.ensures ∙ w.if-not-has.true) kind)
  | then-not-has-via-else-not-has+then-window w ↦ absurd (omega (arith, low, high, w.if-window.true))
]

pub take_each-requires-clause-window : goal.take_each-requires-clause-window
take_each-requires-clause-window c = record {
  lanes = c.requires.window.lanes;
  within = c.requires.window.within;
  inside = λ k low high. c.requires.window.inside k (omega (arith, low, c.fresh.ensures.from)) high;
}

pub take_firsts-requires-clause-window : goal.take_firsts-requires-clause-window
take_firsts-requires-clause-window c = record {
  lanes = c.requires.window.lanes;
  within = c.requires.window.within;
  inside = λ k low high. c.requires.window.inside k (omega (arith, low, c.fresh.ensures.from)) high;
}

pub returns-in_ok-take_each-clause-held : goal.returns-in_ok-take_each-clause-held
returns-in_ok-take_each-clause-held c =
    let done = c.in_ok-take_each.ensures in
    fresh_held c.args.sought c.args.self.now c.requires.sound c.args.leasts.now c.take_each.new.leasts c.args.window c.fresh.result
    c.requires.window c.requires.before done.more c.fresh.ensures.seen done.held

pub returns-in_ok-take_firsts-clause-held : goal.returns-in_ok-take_firsts-clause-held
returns-in_ok-take_firsts-clause-held c =
    let done = c.in_ok-take_firsts.ensures in
    fresh_held c.args.sought c.args.self.now c.requires.sound c.args.leasts.now c.take_firsts.new.leasts c.args.window c.fresh.result
    c.requires.window c.requires.before done.more c.fresh.ensures.seen done.held
