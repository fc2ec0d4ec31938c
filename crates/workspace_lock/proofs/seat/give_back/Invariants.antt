use Rattle.workspace_lock.proofs.seat.give_back.Given as goal

abbrev pub ghosts-publish : goal.ghosts-publish
ghosts-publish a = record { log = a.bench.now.log }
