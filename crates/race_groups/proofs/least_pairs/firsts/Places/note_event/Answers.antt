use Rattle.std.proofs.Common.{Some, slice_index, refl, ap, ◌∙◌}
use Rattle.rapid_text.specs.declared.event.Op.{Op}
use Rattle.race_groups.specs.declared.least_pairs.uses.Of.{Of}
use Rattle.race_groups.proofs.least_pairs.UseLemmas.{AreBehind-noted, AreUses-noted}
use Rattle.race_groups.proofs.least_pairs.firsts.Places.note_event.Goals as goal

pub returns-clause-uses : goal.returns-clause-uses
returns-clause-uses c = λ es are.
    let s = c.args.self.now in
    let v = c.event-found.result in
    let x = c.args.variable in
    let f : Of = record { event = c.args.event; thread = v.thread } in
    let event = c.event-found.ensures.found ∙ ap (λ (o : Op). Some (record { thread = v.thread; op = o })) c.is_writing-writing.ensures in
    AreUses-noted s.indexed.now.events (slice_index s.places.now) x (slice_index s.places.now c.args.event) c.is_writing-writing.result f event refl es
    c.args.uses.now.items c.note_use.new.uses.items c.requires.behind c.in_ok-note_use.ensures are

pub returns-clause-behind : goal.returns-clause-behind
returns-clause-behind c = λ n le all.
    let s = c.args.self.now in
    let f : Of = record { event = c.args.event; thread = c.event-found.result.thread } in
    AreBehind-noted n (slice_index s.places.now c.args.event) c.is_writing-writing.result f c.args.uses.now.items c.note_use.new.uses.items le c.in_ok-note_use.ensures all
