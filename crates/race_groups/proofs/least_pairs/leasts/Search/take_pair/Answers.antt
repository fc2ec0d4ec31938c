use Rattle.race_groups.proofs.least_pairs.NotedLemmas.{notes_more}
use Rattle.race_groups.proofs.least_pairs.leasts.Search.take_pair.Goals as goal

pub returns-in_ok-note_open-in-Opens-clause-noted : goal.returns-in_ok-note_open-in-Opens-clause-noted
returns-in_ok-note_open-in-Opens-clause-noted c = notes_more c.args.self.now c.args.two.of.variable c.args.leasts.now c.note_open.new.leasts c.args.noted.now c.in_ok-note_open-in-Opens.ensures.more c.requires.noted
