use Rattle.std.proofs.Common.{refl, sym}
use Rattle.std.proofs.lemmas.List.Elements.{All-contains}
use Rattle.race_groups.specs.least_pairs.Noted.{IsTrueNote}
use Rattle.race_groups.proofs.least_pairs.HeldLemmas.{AreMore-same}
use Rattle.race_groups.proofs.least_pairs.NotedLemmas.{note_is_true, notes_more, notes_noted}
use Rattle.race_groups.proofs.least_pairs.leasts.Search.take_candidate.Goals as goal

pub returns-then-has-clause-more : goal.returns-then-has-clause-more
returns-then-has-clause-more c = AreMore-same c.args.self.now.most c.args.variable c.args.leasts.now

pub returns-then-has-clause-held : goal.returns-then-has-clause-held
returns-then-has-clause-held c =
    let s = c.args.self.now in
    let noted = c.if-has.ensures refl in
    (All-contains (IsTrueNote s c.args.variable c.args.leasts.now) c.args.noted.now.notes.items noted.0 c.requires.noted noted.1).held
    noted.2 c.args.first c.args.second c.requires.pair (sym noted.3) (sym noted.4) noted.5

pub returns-clause-noted : goal.returns-clause-noted
returns-clause-noted c =
    let s = c.args.self.now in
    let x = c.args.variable in
    let new = c.note_candidate.new.leasts in
    notes_noted s x new _ c.args.noted.now c.note.new.self
    (note_is_true s x new c.args.first c.args.second _ c.note_candidate.ensures.held refl refl refl refl)
    (notes_more s x c.args.leasts.now new c.args.noted.now c.note_candidate.ensures.more c.requires.noted) c.note.ensures
