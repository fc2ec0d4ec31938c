use Rattle.std.proofs.Common.{slice_index}
use Rattle.race_groups.specs.least_pairs.Going.{IsOwn}
use Rattle.race_groups.proofs.least_pairs.HeldLemmas.{AreMore-same}
use Rattle.race_groups.proofs.least_pairs.NextLemmas.{AreSoFar-next, AreSoFar-skip}
use Rattle.race_groups.proofs.least_pairs.NotedLemmas.{notes_next}
use Rattle.race_groups.proofs.least_pairs.leasts.Search.in_turn.Goals as goal

pub returns-then-not-is_own-clause-found : goal.returns-then-not-is_own-clause-found
returns-then-not-is_own-clause-found c =
    let s = c.args.self.now in
    AreSoFar-skip s.indexed.now (slice_index s.places.now) s.groups.now.rows.items s.most (IsOwn s) c.args.variable c.args.leasts.now
    (c.is_own.ensures.other c.if-not-is_own.true) c.requires.found

pub returns-then-not-is_own-clause-more : goal.returns-then-not-is_own-clause-more
returns-then-not-is_own-clause-more c = AreMore-same c.args.self.now.most c.args.variable c.args.leasts.now

pub returns-then-not-is_own-clause-noted : goal.returns-then-not-is_own-clause-noted
returns-then-not-is_own-clause-noted c = notes_next c.args.self.now c.args.variable c.args.leasts.now c.args.noted.now c.requires.noted

pub returns-then-not-is_own-clause-taken : goal.returns-then-not-is_own-clause-taken
returns-then-not-is_own-clause-taken c = λ own. absurd (c.is_own.ensures.other c.if-not-is_own.true own)

pub variable-requires-clause-found : goal.variable-requires-clause-found
variable-requires-clause-found c = record { so_far = c.requires.found; own = c.is_own.ensures.own c.if-not-is_own.false }

pub returns-clause-found : goal.returns-clause-found
returns-clause-found c =
    let s = c.args.self.now in
    let done = c.in_ok-variable.ensures in
    AreSoFar-next s.indexed.now (slice_index s.places.now) s.groups.now.rows.items c.requires.sound.groups.rows_are c.requires.sound.groups.once s.most (IsOwn s) c.args.variable
    c.variable.new.leasts done.found.so_far done.taken

pub returns-clause-noted : goal.returns-clause-noted
returns-clause-noted c = notes_next c.args.self.now c.args.variable c.variable.new.leasts c.variable.new.noted c.in_ok-variable.ensures.noted
